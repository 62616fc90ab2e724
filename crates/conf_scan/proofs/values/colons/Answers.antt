use Rattle.conf_scan.proofs.Readings.{colons_none, colons_not_v4}
use Rattle.conf_scan.proofs.values.colons.Goals as goal

pub returns-in-Some-V4 : goal.returns-in-Some-V4
returns-in-Some-V4 c = let spelled = rw c.in-Some-V4.field-0-is at c.in-Some-V4.ensures in colons_not_v4 c.args.slice.now c.in-Some-V4.field-0-0 spelled

pub returns-in-None : goal.returns-in-None
returns-in-None c = colons_none c.args.slice.now c.in-None.ensures
