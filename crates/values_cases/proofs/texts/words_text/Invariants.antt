use Rattle.std.proofs.Common.{length}
use Rattle.values_cases.proofs.texts.words_text.Given as goal

abbrev pub decreases-loop-word : goal.decreases-loop-word
decreases-loop-word l = length l.rest
