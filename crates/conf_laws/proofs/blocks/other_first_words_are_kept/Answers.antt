use Rattle.std.proofs.Common.{refl}
use Rattle.conf_laws.proofs.SignificantLaws.{other_first}
use Rattle.conf_laws.proofs.blocks.other_first_words_are_kept.Goals as goal

pub returns-clause-nothing : goal.returns-clause-nothing
returns-clause-nothing c = refl

pub returns-clause-word : goal.returns-clause-word
returns-clause-word c = other_first
