use Rattle.std.proofs.Common.{◌≡◌, ◌==◌, ◌++◌, length}
use Rattle.std.specs.List.{flat_map, list_any}
use Rattle.rec_words.specs.Reading.{listed, split_word}
use Rattle.rec_words.proofs.read.is_among.Given as goal

abbrev pub invariant-loop-left : goal.invariant-loop-left
invariant-loop-left l = list_any (λ other. other == l.fn.number) (flat_map split_word l.left ++ listed l.fn.last) ≡ list_any (λ other. other == l.fn.number) (flat_map split_word l.fn.pairs ++ listed l.fn.last)

abbrev pub decreases-loop-left : goal.decreases-loop-left
decreases-loop-left l = length l.left
