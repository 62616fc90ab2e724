use Rattle.std.proofs.Common.{◌≡◌, ◌++◌, List}
use Rattle.atomic_table.specs.Seated.{TableId}
use Rattle.jour_rule.specs.declared.views.Terms.{Terms}
use Rattle.jour_rule.specs.declared.views.View.{View as Seat}
use Rattle.jour.specs.Seats.{journal}
use Rattle.table_shared.specs.Opening.{TableOpening}
use Rattle.phase_legal.specs.Shown.{AreBeside}
use Rattle.phase_close.proofs.tables.close_tables.Given as goal

abbrev pub invariant-loop-table : goal.invariant-loop-table
invariant-loop-table g l = record {
  done : List (TableId × Terms TableOpening);
  all : done ++ l.table-iterator.rest.items ≡ l.fn.tables.items;
  beside : AreBeside (λ (t : TableId × Terms TableOpening) (closing : TableId × Seat TableOpening). journal closing ≡ t) done l.closings.items;
}
