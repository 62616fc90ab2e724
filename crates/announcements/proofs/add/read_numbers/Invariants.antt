use Rattle.std.proofs.Common.{length}
use Rattle.text.specs.Lines.{words_of}
use Rattle.announcements.proofs.NumberRuns.{HaveNumbers}
use Rattle.announcements.proofs.add.read_numbers.Given as goal

abbrev pub invariant-loop-number : goal.invariant-loop-number
invariant-loop-number l = HaveNumbers (words_of l.text) l.numbers.numbers.items l.numbers.fit (words_of l.rest)

abbrev pub decreases-loop-number : goal.decreases-loop-number
decreases-loop-number l = length l.rest
