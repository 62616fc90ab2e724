use Rattle.std.proofs.Common.{◌≡◌, ℕ, [], length, Some}
use Rattle.std.specs.Prelude.{slice_get}
use Rattle.std.specs.declared.alloc.Global.{Global}
use Rattle.std.specs.declared.vec.Vec.{Vec}
use Rattle.sys_run.specs.declared.player.Answered.{Answered}
use Rattle.sys_run.proofs.player.no_replies.Given as goal

abbrev pub invariant-loop-number : goal.invariant-loop-number
invariant-loop-number l =
    (length l.replies.items ≡ l._number)
    × ((a : ℕ) (held : Vec Answered Global) → slice_get l.replies.items a ≡ Some held → held.items ≡ [])
