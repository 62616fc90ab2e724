use Rattle.std.proofs.Common.{◌≡◌, take}
use Rattle.room_report.proofs.copies.copy_items.Given as goal

abbrev pub invariant-loop-item : goal.invariant-loop-item
invariant-loop-item l = l.copy ≡ take l.item-index l.items
