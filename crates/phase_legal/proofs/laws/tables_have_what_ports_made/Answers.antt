use Rattle.phase_legal.proofs.Made.{those_none, those_said}
use Rattle.phase_legal.proofs.laws.tables_have_what_ports_made.Goals as goal

pub returns-clause-made : goal.returns-clause-made
returns-clause-made c = λ test opening before start port list said made are alone says.
    those_said c.words_spell_one_entry.ensures test opening before start port list said made are alone says

pub returns-clause-none : goal.returns-clause-none
returns-clause-none c = λ test opening before list said are none. those_none test opening none before list said are
