use Rattle.std.proofs.Common.{◌≡◌}
use Rattle.std.specs.List.{AllByRecursion}
use Rattle.atomic_table.specs.Seated.{TableId}
use Rattle.jour_rule.specs.declared.views.View.{View as Seat}
use Rattle.jour.specs.Seats.{front, journal}
use Rattle.table_shared.specs.Opening.{TableOpening}
use Rattle.table_shared.specs.Phases.{IsHeard}
use Rattle.table_shared.proofs.close.hear_passes.Given as goal

abbrev pub invariant-loop-pass : goal.invariant-loop-pass
invariant-loop-pass l = record {
  same : (journal l.closing ≡ journal l.fn.closing) × (front l.closing.1 ≡ front l.fn.closing.1);
  left : AllByRecursion (λ (x : TableId × Seat TableOpening). journal x ≡ journal l.fn.closing) l.pass-iterator.rest.items;
  done : AllByRecursion (λ (x : TableId × Seat TableOpening). IsHeard l.fn.closing.1.seen.terms (front l.fn.closing.1) x.1) l.pass-iterator.rest.items → AllByRecursion (λ (x : TableId × Seat TableOpening). IsHeard l.fn.closing.1.seen.terms (front l.fn.closing.1) x.1) l.fn.passes.items;
}
