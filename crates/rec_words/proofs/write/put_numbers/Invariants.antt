use Rattle.std.proofs.Common.{◌≡◌, ◌≤◌, ◌+◌, ◌*◌, ◌++◌, length}
use Rattle.rec_words.specs.Spelling.{number_words}
use Rattle.rec_words.proofs.write.put_numbers.Given as goal

abbrev pub invariant-loop-left : goal.invariant-loop-left
invariant-loop-left l =
    (l.buf ++ number_words l.left ≡ l.initial.buf ++ number_words l.fn.numbers) × (2 * length l.buf + length l.left ≤ 2 * length l.initial.buf + length l.fn.numbers)

abbrev pub decreases-loop-left : goal.decreases-loop-left
decreases-loop-left l = length l.left
