use Rattle.std.proofs.Common.{ℕ, ◌≤◌, Bool, List, length}
use Rattle.filt_sets.specs.Search.{Tells}
use Rattle.filt_sets.proofs.Marks.{IsMarked}
use Rattle.filt_sets.proofs.mask.step_back.Given as goal

abbrev pub invariant-loop-place : goal.invariant-loop-place
invariant-loop-place l = record {
  within : l.place ≤ length l.path;
  marked : (later : List ℕ → Bool) → Tells later l.path l.fn.marks → IsMarked l.item later l.path l.marks l.place l.behind;
}

abbrev pub decreases-loop-place : goal.decreases-loop-place
decreases-loop-place l = l.place
