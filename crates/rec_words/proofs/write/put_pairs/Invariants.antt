use Rattle.std.proofs.Common.{◌≡◌, ◌≤◌, ◌+◌, ◌*◌, ◌++◌, length, map}
use Rattle.std.specs.List.{AllByRecursion}
use Rattle.rec_words.specs.Entries.{IsPair}
use Rattle.rec_words.specs.Spelling.{number_words, pair_number}
use Rattle.rec_words.proofs.write.put_pairs.Given as goal

abbrev pub invariant-loop-left : goal.invariant-loop-left
invariant-loop-left l =
    (l.buf ++ number_words (map pair_number l.left) ≡ l.initial.buf ++ number_words (map pair_number l.fn.pairs)) × (2 * length l.buf + length l.left ≤ 2 * length l.initial.buf + length l.fn.pairs)
    × (AllByRecursion IsPair l.left → AllByRecursion IsPair l.fn.pairs)

abbrev pub decreases-loop-left : goal.decreases-loop-left
decreases-loop-left l = length l.left
