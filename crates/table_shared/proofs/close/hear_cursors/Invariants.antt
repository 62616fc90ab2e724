use Rattle.std.proofs.Common.{◌≡◌, Bool}
use Rattle.std.specs.List.{AllByRecursion}
use Rattle.atomic_table.specs.Seated.{TableId}
use Rattle.jour_rule.specs.declared.views.View.{View as Seat}
use Rattle.jour.specs.Seats.{front, journal}
use Rattle.table_shared.specs.Opening.{TableOpening}
use Rattle.table_shared.specs.Phases.{IsHeard}
use Rattle.table_shared.proofs.close.hear_cursors.Given as goal

abbrev pub invariant-loop-cursor : goal.invariant-loop-cursor
invariant-loop-cursor l = record {
  same : (journal l.closing ≡ journal l.fn.closing) × (front l.closing.1 ≡ front l.fn.closing.1);
  left : AllByRecursion (λ (x : (TableId × Seat TableOpening) × Bool). journal x.0 ≡ journal l.fn.closing) l.cursor-iterator.rest.items;
  done : AllByRecursion (λ (x : (TableId × Seat TableOpening) × Bool). IsHeard l.fn.closing.1.seen.terms (front l.fn.closing.1) x.0.1) l.cursor-iterator.rest.items → AllByRecursion (λ (x : (TableId × Seat TableOpening) × Bool). IsHeard l.fn.closing.1.seen.terms (front l.fn.closing.1) x.0.1) l.fn.cursors.items;
}
