use Rattle.table_shared.specs.Records.{at_first}
use Rattle.table_shared.proofs.Histories.{same_records}
use Rattle.table_shared.proofs.laws.records_are_one.Goals as goal

pub returns : goal.returns
returns c = λ opening entries said other are also. same_records c.words_spell_one_entry.ensures opening (at_first opening) entries said other are also
