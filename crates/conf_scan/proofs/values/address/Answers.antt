use Rattle.conf_scan.proofs.Numbers.{run_spells, run_spelled}
use Rattle.conf_scan.proofs.values.address.Goals as goal

pub returns-in-Ok : goal.returns-in-Ok
returns-in-Ok c = run_spells c.args.slice.now c.in-Ok.addr c.requires c.in-Ok.ensures.found

pub returns-in-Err : goal.returns-in-Err
returns-in-Err c = λ addr is. c.in-Err.ensures.bad addr (run_spelled c.args.slice.now addr c.requires is)
