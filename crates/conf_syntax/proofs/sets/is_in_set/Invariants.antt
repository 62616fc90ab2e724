use Rattle.std.proofs.Common.{◌≡◌, false, List, ◌++◌, length}
use Rattle.conf_lex.specs.declared.word.Word.{Word}
use Rattle.conf_syntax.specs.Pairs.{has, is_bracket}
use Rattle.conf_syntax.proofs.sets.is_in_set.Given as goal

-- no bracket stands behind the words that are left
abbrev pub invariant-loop-left : goal.invariant-loop-left
invariant-loop-left l = (gone : List Word) × (l.words ≡ l.left ++ gone) × (has is_bracket gone ≡ false)

abbrev pub decreases-loop-left : goal.decreases-loop-left
decreases-loop-left l = length l.left
