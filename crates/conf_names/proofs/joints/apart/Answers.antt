use Rattle.conf_names.proofs.Joins.{apart_more}
use Rattle.conf_names.proofs.joints.apart.Goals as goal

pub loop-table-preserved : goal.loop-table-preserved
loop-table-preserved c = apart_more c.loop-table.table c.loop-table.regions.items c.push.new.self.items c.loop-table.invariant c.in_ok-push.ensures.items
