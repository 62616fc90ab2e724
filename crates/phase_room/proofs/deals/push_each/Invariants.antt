use Rattle.std.proofs.Common.{◌≡◌, ◌++◌, List, length}
use Rattle.phase_room.specs.Dealt.{AreLonger}
use Rattle.phase_room.proofs.deals.push_each.Given as goal

abbrev pub invariant-loop-item : goal.invariant-loop-item
invariant-loop-item g l =
    (done : List g.row.T.Denot) × (done ++ l.item-iterator.rest.items ≡ l.fn.items.items) × (l.place ≡ length done)
    × AreLonger l.fn.lists.items l.lists.items done
