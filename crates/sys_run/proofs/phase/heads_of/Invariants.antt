use Rattle.std.proofs.Common.{◌≡◌, length, map, take}
use Rattle.run_tables.specs.declared.table.Table.{Table}
use Rattle.sys_run.proofs.phase.heads_of.Given as goal

abbrev pub invariant-loop-table : goal.invariant-loop-table
invariant-loop-table l = l.heads.items ≡ map (λ (table : Table). length table.entries.items) (take l.table-index l.tables)
