use Rattle.std.proofs.Common.{◌≡◌, ◌++◌, length}
use Rattle.std.specs.List.{flat_map}
use Rattle.rec_words.specs.Reading.{all_distinct, listed, numbers_in, split_word}
use Rattle.rec_words.proofs.read.are_distinct.Given as goal

abbrev pub invariant-loop-left : goal.invariant-loop-left
invariant-loop-left l = all_distinct (flat_map split_word l.left ++ listed l.fn.numbers.last) ≡ all_distinct (numbers_in l.fn.numbers)

abbrev pub decreases-loop-left : goal.decreases-loop-left
decreases-loop-left l = length l.left
