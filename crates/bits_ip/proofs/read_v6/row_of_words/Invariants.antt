use Rattle.std.proofs.Common.{map}
use Rattle.bits_ip.specs.Parts.{values, AreWords, IsRow}
use Rattle.bits_ip.proofs.read_v6.row_of_words.Given as goal

abbrev pub invariant-loop-word : goal.invariant-loop-word
invariant-loop-word l =
    let before = map (λ t. t.now) l.yielded in
    record {
      next : (goal.iterator-loop-word).can_next l.word-iterator;
      finite : (goal.iterator-loop-word).is_finite l.word-iterator;
      words : AreWords before;
      row : IsRow (values before) l.row.count l.row.bits;
    }
