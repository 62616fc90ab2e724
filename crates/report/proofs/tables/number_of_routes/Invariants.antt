use Rattle.std.proofs.Common.{◌≡◌, ◌≤◌, ◌*◌, ◌^◌, take}
use Rattle.attrs.specs.Table.{count_routes}
use Rattle.report.proofs.tables.number_of_routes.Given as goal

abbrev pub invariant-loop-row : goal.invariant-loop-row
invariant-loop-row l = (l.total ≡ count_routes (take l.row-index l.rows)) × (l.total ≤ l.row-index * 2 ^ 64)
