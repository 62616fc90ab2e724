use Rattle.core_setup.proofs.Admitted.{sources_are}
use Rattle.core_setup.proofs.laws.changes_tell_their_protocol.Goals as goal

pub returns : goal.returns
returns c = sources_are
