use Rattle.std.proofs.Common.{◌≡◌, ℕ, [], length, Some}
use Rattle.std.specs.Prelude.{slice_get}
use Rattle.std.specs.declared.alloc.Global.{Global}
use Rattle.std.specs.declared.vec.Vec.{Vec}
use Rattle.phase_room.proofs.deals.no_lists.Given as goal

abbrev pub invariant-loop : goal.invariant-loop
invariant-loop g l =
    (length l.lists.items ≡ l.counter)
    × ((place : ℕ) (list : Vec g.row.T.Denot Global) → slice_get l.lists.items place ≡ Some list → list.items ≡ [])
