-- How the last head of a table is known once its ports make nothing any more: who made the last entry
-- has seen it, so a head that is no less than what each port has seen (`AreBelow`) is the last.
-- Not modelled: that rounds of turns come to an end.
-- From: own.
-- Example: two ports have made three entries, and none since. The one has seen two of them and the
-- other three, so a cursor that knows of three knows the table's last head.
use Rattle.std.specs.Prelude.{◌≡◌, ◌≤◌, ℕ, List, Contains}
use Rattle.atomic_table.specs.Seated.{TableId}
use Rattle.jour_rule.specs.declared.views.Entry.{Entry}
use Rattle.jour_rule.specs.declared.views.Terms.{Terms}
use Rattle.jour_rule.specs.declared.views.View.{View as Seat}
use Rattle.jour.specs.Seats.{head_of, number_of}
use Rattle.table_shared.specs.Opening.{TableOpening, sources_of}
use Rattle.table_shared.specs.Phases.{IsRetired}

-- the port of this number has ended in a table of these entries, and has seen up to this head at most
pub record IsBelow
    (terms : Terms TableOpening) (list : List Entry) (head number : ℕ)
    (port : TableId × Seat TableOpening) : Type 0 where
  pub number_is : number_of port.1.role ≡ number
  pub here : port.1.seen.terms ≡ terms
  pub retired : IsRetired terms list port
  pub seen : head_of port.1 ≤ head

-- so it is of each port that has a source
abbrev pub AreBelow : Terms TableOpening → List Entry → ℕ → Type 0
AreBelow terms list head =
    (number num : ℕ) → Contains (sources_of terms.opening number) num
    → (port : TableId × Seat TableOpening) × IsBelow terms list head number port
