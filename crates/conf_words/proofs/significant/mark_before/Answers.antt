use Rattle.std.proofs.Common.{arith}
use Rattle.conf_words.proofs.SpotSteps.{first_is}
use Rattle.conf_words.proofs.significant.mark_before.Goals as goal

pub loop-mark-init : goal.loop-mark-init
loop-mark-init c = (omega arith, λ text all. first_is text)
