use Rattle.core_machine.proofs.Bridges.{bridge_passes}
use Rattle.core_machine.proofs.laws.bridges_keep_what_comes_by_them.Goals as goal

pub returns : goal.returns
returns c = λ rules d e num has within bridge. bridge_passes rules has within d e bridge num
