use Rattle.phase_legal.proofs.Made.{exact_on}
use Rattle.phase_legal.proofs.laws.tables_have_what_operations_give.Goals as goal

pub returns : goal.returns
returns c = exact_on c.words_spell_one_entry.ensures
