use Rattle.std.proofs.lemmas.Result.{err_from_is_err_and}
use Rattle.birdcore_top.proofs.Judged.{conf_stops}
use Rattle.birdcore_top.proofs.files.read_conf.Goals as goal

pub returns-in_err-system-clause-stopped : goal.returns-in_err-system-clause-stopped
returns-in_err-system-clause-stopped g c =
    let p = err_from_is_err_and c.from_residual-in_err-system.result c.from_residual-in_err-system.ensures.1 in
    rw (p.1, p.2)
    (conf_stops c.args.name.now _ c.in_ok-bytes.bytes.items c.in_err-system.field-0.0 c.in_ok-bytes.ensures.whole (rw c.deref.ensures.value at c.in_err-system.ensures.fault))

pub returns-clause-configured : goal.returns-clause-configured
returns-clause-configured g c =
    (c.in_ok-bytes.bytes.items, (c.in_ok-bytes.ensures.whole.within, rw c.deref.ensures.value at c.in_ok-system.ensures.system))
