use Rattle.std.proofs.Common.{take}
use Rattle.core_setup.specs.Pairs.{Pairs}
use Rattle.room_first.specs.Inside.{IsFirstTable}
use Rattle.room_first.proofs.first.stand_tables.Given as goal

abbrev pub invariant-loop-table : goal.invariant-loop-table
invariant-loop-table l = Pairs (λ number table stood. IsFirstTable table stood) 0 (take l.table-index l.tables) l.stood.items
