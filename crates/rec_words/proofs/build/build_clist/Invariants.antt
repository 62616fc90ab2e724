use Rattle.std.proofs.Common.{◌≡◌, map, take}
use Rattle.std.specs.List.{flat_map}
use Rattle.rec_words.specs.Reading.{pair_of, split_word}
use Rattle.rec_words.proofs.build.build_clist.Given as goal

abbrev pub invariant-loop-word : goal.invariant-loop-word
invariant-loop-word l = l.coms.items ≡ map pair_of (flat_map split_word (take l.word-index l.numbers.pairs.now))
