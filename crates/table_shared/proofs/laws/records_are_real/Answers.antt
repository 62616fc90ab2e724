use Rattle.table_shared.specs.Records.{at_first}
use Rattle.table_shared.proofs.Histories.{real}
use Rattle.table_shared.proofs.laws.records_are_real.Goals as goal

pub returns : goal.returns
returns c = λ opening entries said are. real opening (at_first opening) entries said are
