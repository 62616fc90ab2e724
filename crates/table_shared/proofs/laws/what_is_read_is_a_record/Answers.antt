use Rattle.table_shared.proofs.Taken.{are_words, read_as}
use Rattle.table_shared.proofs.laws.what_is_read_is_a_record.Goals as goal

pub returns-clause-record : goal.returns-clause-record
returns-clause-record c = read_as

pub returns-clause-words : goal.returns-clause-words
returns-clause-words c = are_words
