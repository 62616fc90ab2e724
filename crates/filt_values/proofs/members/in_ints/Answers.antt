use Rattle.filt_values.proofs.Elements.{in_ints_is}
use Rattle.filt_values.proofs.members.in_ints.Goals as goal

pub returns : goal.returns
returns c = in_ints_is c.args.set.now c.args.number _ c.has.ensures
