use Rattle.std.proofs.Common.{◌≡◌, take}
use Rattle.table_shared.specs.Opening.{lists_of}
use Rattle.room_open.specs.Sources.{lists_from}
use Rattle.room_open.proofs.sources.source_lists.Given as goal

abbrev pub invariant-loop-number : goal.invariant-loop-number
invariant-loop-number g l = lists_of l.lists.items ≡ lists_from l.table 0 (take l.number l.members)
