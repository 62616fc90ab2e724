use Rattle.core_setup.proofs.Bridged.{both_keep}
use Rattle.core_setup.proofs.laws.bridges_keep_their_own.Goals as goal

pub returns : goal.returns
returns c = both_keep c.bridges_keep_what_comes_by_them.ensures
