use Rattle.std.proofs.Common.{◌≡◌, map, drop}
use Rattle.conf_tree.specs.Sentence.{is_one_of}
use Rattle.conf_tree.proofs.unsupported.is_one_of.Given as goal

-- No word before this place is the wanted one.
abbrev pub invariant-loop-other : goal.invariant-loop-other
invariant-loop-other l = is_one_of (map (λ other. other.now) l.words) l.word ≡ is_one_of (map (λ other. other.now) (drop l.other-index l.words)) l.word
