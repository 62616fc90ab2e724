use Rattle.std.proofs.Common.{None}
use Rattle.conf_names.proofs.Firsts.{either_order}
use Rattle.conf_names.proofs.laws.order_does_not_matter.Goals as goal

pub returns : goal.returns
returns c rs others = either_order None rs others
