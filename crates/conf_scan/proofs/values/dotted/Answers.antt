use Rattle.conf_scan.proofs.Readings.{dotted_none, dotted_not_v6}
use Rattle.conf_scan.proofs.values.dotted.Goals as goal

pub returns-in-Some-V6 : goal.returns-in-Some-V6
returns-in-Some-V6 c = let spelled = rw c.in-Some-V6.field-0-is at c.in-Some-V6.ensures in dotted_not_v6 c.args.slice.now c.in-Some-V6.field-0-0 spelled

pub returns-in-None : goal.returns-in-None
returns-in-None c = dotted_none c.args.slice.now c.in-None.ensures
