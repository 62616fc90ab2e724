use Rattle.std.proofs.Common.{◌-◌, length}
use Rattle.conf_words.proofs.TokenSteps.{IsPassed}
use Rattle.conf_words.proofs.tokens.byte_past.Given as goal

abbrev pub invariant-loop-token : goal.invariant-loop-token
invariant-loop-token l = IsPassed l.text l.fn.spot l.past l.left l.here

abbrev pub decreases-loop-token : goal.decreases-loop-token
decreases-loop-token l = length l.text - l.here.at
