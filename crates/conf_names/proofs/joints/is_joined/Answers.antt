use Rattle.conf_names.proofs.Joins.{found_joined}
use Rattle.conf_names.proofs.joints.is_joined.Goals as goal

pub returns : goal.returns
returns c = found_joined c.args.pipes.now c.args.tables c.in_ok-regions.regions.items c.args.joint c.index.result.now c.index-2.result.now c.in_ok-regions.ensures c.requires.joint c.index.ensures c.index-2.ensures
