use Rattle.std.proofs.Common.{refl}
use Rattle.core_setup.proofs.Signalled.{disabled_down, enabled_up, others_stay}
use Rattle.core_setup.proofs.laws.pipes_obey_the_last_word.Goals as goal

pub returns-clause-first : goal.returns-clause-first
returns-clause-first c = refl

pub returns-clause-enabled : goal.returns-clause-enabled
returns-clause-enabled c = enabled_up

pub returns-clause-disabled : goal.returns-clause-disabled
returns-clause-disabled c = disabled_down

pub returns-clause-others : goal.returns-clause-others
returns-clause-others c = others_stay
