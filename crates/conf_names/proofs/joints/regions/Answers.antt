use Rattle.conf_names.proofs.Joins.{last_gone}
use Rattle.conf_names.proofs.joints.regions.Goals as goal

pub loop-left-preserved : goal.loop-left-preserved
loop-left-preserved c =
    let i = c.loop-left.invariant in
    (_, last_gone c.args.pipes.now c.loop-left.left.now i.0 _ c.in-len1-up.len_at_least i.1, c.join.ensures i.0 c.args.tables i.2)
