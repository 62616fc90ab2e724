use Rattle.std.proofs.Common.{◌≡◌, ℕ}
use Rattle.std.specs.List.{AllByRecursion}
use Rattle.atomic_table.specs.Seated.{TableId}
use Rattle.jour_rule.specs.declared.views.View.{View as Seat}
use Rattle.jour.specs.Seats.{front, journal}
use Rattle.phase_close.specs.Retired.{IsRetired}
use Rattle.phase_close.proofs.turns.retire_hands.Given as goal

abbrev pub invariant-loop-hand : goal.invariant-loop-hand
invariant-loop-hand l = record {
  same : (journal l.turns ≡ journal l.fn.turns) × (front l.turns.1 ≡ front l.fn.turns.1);
  left : AllByRecursion (λ (x : TableId × Seat ℕ). journal x ≡ journal l.fn.turns) l.hand-iterator.rest.items;
  done : AllByRecursion (IsRetired (journal l.fn.turns) (front l.fn.turns.1)) l.hand-iterator.rest.items → AllByRecursion (IsRetired (journal l.fn.turns) (front l.fn.turns.1)) l.fn.hands.items;
}
