use Rattle.std.proofs.Common.{◌≡◌, ◌++◌, List}
use Rattle.atomic_table.specs.Seated.{TableId}
use Rattle.jour_rule.specs.declared.views.View.{View as Seat}
use Rattle.jour.specs.Seats.{front}
use Rattle.table_shared.specs.Opening.{TableOpening}
use Rattle.table_shared.specs.Phases.{IsPhase}
use Rattle.table_shared.specs.declared.close.Phase.{Phase}
use Rattle.phase_legal.specs.Shown.{AreBeside}
use Rattle.phase_close.proofs.tables.end_tables.Given as goal

abbrev pub invariant-loop-closing : goal.invariant-loop-closing
invariant-loop-closing l = record {
  done : List (TableId × Seat TableOpening);
  all : done ++ l.closing-iterator.rest.items ≡ l.fn.closings.items;
  beside : AreBeside (λ (closing : TableId × Seat TableOpening) (phase : Phase). IsPhase closing.1.seen.terms (front closing.1) phase) done l.phases.items;
}
