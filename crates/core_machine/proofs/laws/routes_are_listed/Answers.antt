use Rattle.core_machine.proofs.Listing.{listed}
use Rattle.core_machine.proofs.laws.routes_are_listed.Goals as goal

pub returns : goal.returns
returns c = listed
