use Rattle.phase_legal.proofs.Stamping.{signals_are_legal}
use Rattle.phase_legal.proofs.laws.marks_become_signals.Goals as goal

pub returns : goal.returns
returns c = signals_are_legal c.words_spell_one_entry.ensures
