use Rattle.phase_legal.proofs.Made.{made_one, made_within}
use Rattle.phase_legal.proofs.laws.ports_know_what_they_made.Goals as goal

pub returns-clause-within : goal.returns-clause-within
returns-clause-within c = made_within

pub returns-clause-one : goal.returns-clause-one
returns-clause-one c = made_one c.words_spell_one_entry.ensures
