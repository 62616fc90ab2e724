use Rattle.filt_values.proofs.Elements.{covers_is}
use Rattle.filt_values.proofs.members.covers.Goals as goal

pub returns : goal.returns
returns c = covers_is c.args.net.now c.args.other.now _ c.covers.ensures
