use Rattle.std.proofs.Common.{map, refl, arith}
use Rattle.std.proofs.lemmas.Result.{err_from_is_err_and}
use Rattle.conf_system.specs.Seen.{filter_says, system_of}
use Rattle.birdcore_top.proofs.Judged.{judged, script_stops}
use Rattle.birdcore_top.proofs.files.read_lines.Goals as goal

pub read_script-requires : goal.read_script-requires
read_script-requires g c = (c.requires.0, c.requires.1.1, rw c.deref.ensures.value (omega (arith, c.requires.1.0, c.in_ok-bytes.ensures.whole.within)))

pub returns-clause-script : goal.returns-clause-script
returns-clause-script g c = λ cells.
    let is = rw c.deref.ensures.value at c.in_ok-script.ensures.told in
    record {
      queries = c.in_ok-script.script.queries.items;
      conditions = map (filter_says c.args.system.now) c.in_ok-script.script.filters.items;
      setup_is = refl;
      text = c.in_ok-bytes.bytes.items;
      is_script = is;
      told = judged (g.F.Shelf.held c.args.shelf.now c.args.name.now) c.in_ok-bytes.bytes.items _ c.in_ok-bytes.ensures.whole is;
    }

pub returns-clause-answers : goal.returns-clause-answers
returns-clause-answers g c = (c.in_ok-bytes.bytes.items, rw c.deref.ensures.value at c.in_ok-script.ensures.told)

pub returns-in_err-script-clause-stopped : goal.returns-in_err-script-clause-stopped
returns-in_err-script-clause-stopped g c =
    let p = err_from_is_err_and c.from_residual-in_err-script.result c.from_residual-in_err-script.ensures.1 in
    rw (p.1, p.2)
    (script_stops (system_of c.args.system.now) c.args.schedule c.args.name.now _ c.in_ok-bytes.bytes.items c.in_ok-bytes.ensures.whole c.in_err-script.field-0.0 (rw c.deref.ensures.value at c.in_err-script.ensures.told))

pub returns-clause-before : goal.returns-clause-before
returns-clause-before g c = c.in_ok-script.ensures.before
