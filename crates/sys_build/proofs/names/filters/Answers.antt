use Rattle.std.proofs.Common.{◌∙◌, sym, ap, ℕ, List, Some, map, arith}
use Rattle.std.proofs.lemmas.List.{length-map}
use Rattle.conf_system.specs.Policies.{Filter}
use Rattle.conf_system.specs.Seen.{system_of}
use Rattle.sys_build.proofs.Turns.{took_all, took_next}
use Rattle.sys_build.proofs.names.filters.Goals as goal

pub loop-number-preserved : goal.loop-number-preserved
loop-number-preserved c =
    took_next (map (λ (f : List ℕ × Filter). f.0) (system_of c.args.system.now).filters) c.loop-number.filters.items c.push.new.self.items c.loop-number.number c.in_ok-name.name
    c.loop-number.invariant c.in_ok-push.ensures.items (c.filter_name.ensures ∙ ap (λ (n : List ℕ). Some n) (sym c.in_ok-name.ensures))

pub returns : goal.returns
returns c =
    let filters = (system_of c.args.system.now).filters in
    took_all (map (λ (f : List ℕ × Filter). f.0) filters) c.loop-number.filters.items c.loop-number.number c.loop-number.invariant
    (omega (arith, c.loop-number-test.false, c.filter_count-number-end.ensures, length-map filters (λ (f : List ℕ × Filter). f.0)))
