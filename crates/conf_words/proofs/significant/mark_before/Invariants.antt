use Rattle.std.proofs.Common.{◌≤◌, ℕ, List}
use Rattle.conf_words.specs.Marks.{AreMarks, IsMark}
use Rattle.conf_words.proofs.significant.mark_before.Given as goal

abbrev pub invariant-loop-mark : goal.invariant-loop-mark
invariant-loop-mark l = (l.last.count ≤ l.place) × ((text : List ℕ) → AreMarks text l.marks → IsMark text l.last)
