use Rattle.filt_values.proofs.Elements.{in_nets_is}
use Rattle.filt_values.proofs.members.in_nets.Goals as goal

pub returns : goal.returns
returns c = in_nets_is c.args.set.now c.args.net.now _ c.has.ensures
