use Rattle.filt_values.proofs.Elements.{in_pairs_is}
use Rattle.filt_values.proofs.members.in_pairs.Goals as goal

pub returns : goal.returns
returns c = in_pairs_is c.args.set.now (c.args.first, c.args.second) _ c.has.ensures
