use Rattle.phase_pipes.proofs.Sourcing.{sources_are}
use Rattle.phase_pipes.proofs.laws.directions_know_their_sources.Goals as goal

pub returns : goal.returns
returns c = λ setup lane table sources is rules target held. sources_are setup lane table sources (c.setups_are_as_asked.ensures setup is) is rules target held
