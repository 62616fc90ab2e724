-- A hand or a stamp that has ended (`IsRetired`).
-- From: own.
-- Example: of four turns the first actor's hand had two, so these two alone are of its number.
use Rattle.std.specs.Prelude.{◌≡◌, ℕ, List}
use mathlib.Core.List.{IsPrefix}
use Rattle.atomic_table.specs.Seated.{TableId}
use Rattle.jour_rule.specs.declared.views.Entry.{Entry}
use Rattle.jour_rule.specs.declared.views.Terms.{Terms}
use Rattle.jour_rule.specs.declared.views.View.{View as Seat}
use Rattle.jour_rule.specs.Journal.{receipts}
use Rattle.jour.specs.Seats.{front, journal, number_of, own}

-- it was of this journal, the entries of its number are its receipts, and what it has seen begins
-- the list
pub record IsRetired (here : TableId × Terms ℕ) (list : List Entry) (hand : TableId × Seat ℕ)
    : Type 0 where
  pub here_is : journal hand ≡ here
  pub receipts : receipts here.1.start (number_of hand.1.role) list ≡ own hand.1
  pub heard : IsPrefix (front hand.1) list
