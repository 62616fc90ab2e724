use Rattle.std.proofs.Common.{◌≡◌, take}
use Rattle.std.specs.List.{flat_map}
use Rattle.rec_words.specs.Reading.{split_word}
use Rattle.rec_words.proofs.build.build_path.Given as goal

abbrev pub invariant-loop-word : goal.invariant-loop-word
invariant-loop-word l = l.path.items ≡ flat_map split_word (take l.word-index l.numbers.pairs.now)
