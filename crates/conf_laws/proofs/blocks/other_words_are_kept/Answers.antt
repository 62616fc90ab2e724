use Rattle.conf_laws.proofs.SignificantLaws.{others_kept}
use Rattle.conf_laws.proofs.blocks.other_words_are_kept.Goals as goal

pub returns : goal.returns
returns c = others_kept
