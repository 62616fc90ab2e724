use Rattle.core_machine.proofs.Beginnings.{only_protocols, own_sources}
use Rattle.core_machine.proofs.laws.only_protocols_have_routes.Goals as goal

pub returns-clause-beyond : goal.returns-clause-beyond
returns-clause-beyond c = only_protocols

pub returns-clause-source : goal.returns-clause-source
returns-clause-source c = own_sources
