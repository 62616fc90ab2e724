use Rattle.std.proofs.Common.{◌≡◌, ℕ, ◌≤◌, List, []}
use Rattle.filt_code.specs.Codes.{Setting, mean}
use Rattle.filt_code.specs.Costs.{cost}
use Rattle.filt_meaning.specs.Flow.{Frame}
use Rattle.filt_route.specs.Seen.{around_in}
use Rattle.filt_meaning.specs.Values.{Val}
use Rattle.filt_vm.proofs.passing.passed.Given as goal

abbrev pub invariant-loop-next : goal.invariant-loop-next
invariant-loop-next l = record {
  means : (s : Setting) (vals : Frame) (os : List Val) → s.around ≡ around_in l.around → mean s l.code 0 vals os l.attrs ≡ mean s l.code l.place vals os l.attrs;
  cost : (fs : List ℕ) → cost fs l.code l.place ≤ cost fs l.code 0;
}

abbrev pub decreases-loop-next : goal.decreases-loop-next
decreases-loop-next l = cost [] l.code l.place
