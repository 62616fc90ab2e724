use Rattle.std.proofs.Common.{◌∙◌}
use Rattle.rib.proofs.NetSteps.{rows-counted}
use Rattle.rib.proofs.nets.Nets.len.Goals as goal

pub returns : goal.returns
returns c = c.count_filled.ensures ∙ rows-counted c.args.self.now
