use Rattle.std.proofs.Common.{◌≡◌}
use Rattle.std.specs.List.{AllByRecursion}
use Rattle.atomic_table.specs.Seated.{TableId}
use Rattle.jour_rule.specs.declared.views.View.{View as Seat}
use Rattle.jour.specs.Seats.{front, journal}
use Rattle.table_shared.specs.Opening.{TableOpening}
use Rattle.table_shared.specs.Phases.{IsRetired}
use Rattle.table_shared.proofs.close.retire_all.Given as goal

abbrev pub invariant-loop-port : goal.invariant-loop-port
invariant-loop-port l = record {
  same : (journal l.closing ≡ journal l.fn.closing) × (front l.closing.1 ≡ front l.fn.closing.1);
  left : AllByRecursion (λ (x : TableId × Seat TableOpening). journal x ≡ journal l.fn.closing) l.port-iterator.rest.items;
  done : AllByRecursion (IsRetired l.fn.closing.1.seen.terms (front l.fn.closing.1)) l.port-iterator.rest.items → AllByRecursion (IsRetired l.fn.closing.1.seen.terms (front l.fn.closing.1)) l.fn.ports.items;
}
