-- What a phase has made, once its table is closed. Modelled: the entries with their ports and
-- positions, and the rows behind them. Form: the project's own.
use Rattle.std.specs.Prelude.{◌≡◌, ◌+◌, ◌<◌, ◌≤◌, ◌^◌, List, length, map, Bool}
use Rattle.std.specs.List.{AllByRecursion}
use mathlib.Core.List.{IsPrefix}
use Rattle.atomic_table.specs.Seated.{TableId}
use Rattle.attrs.specs.Table.{Shows}
use Rattle.jour_rule.specs.declared.views.Entry.{Entry}
use Rattle.jour_rule.specs.declared.views.Terms.{Terms}
use Rattle.jour_rule.specs.declared.views.View.{View as Seat}
use Rattle.jour_rule.specs.Journal.{receipts}
use Rattle.jour.specs.Seats.{front, known, own, number_of}
use Rattle.rib.specs.Rib.{AreOfFamily}
use Rattle.table_shared.specs.declared.close.Phase.{Phase}
use Rattle.table_shared.specs.Opening.{TableOpening}
use Rattle.table_shared.specs.Records.{AreRecords, at_first, content_after}

-- these are the entries of the phase, with the position before the first, their ports, and the rows
-- of what stands behind them
pub record IsPhase (terms : Terms TableOpening) (list : List Entry) (phase : Phase) : Type 0 where
  pub start : phase.from ≡ terms.start
  pub records : AreRecords terms.opening (at_first terms.opening) list phase.entries
  pub makers : phase.ports ≡ map (λ entry. entry.maker) list
  pub shows : Shows phase.rib.rows (content_after terms.opening phase.entries)
  pub family : phase.rib.family ≡ terms.opening.family
  pub nets : AreOfFamily terms.opening.family phase.rib.rows
  pub end : phase.from + length phase.entries < 2 ^ 63

-- a seat, by the table's words and its view
abbrev pub Seated : Type 0
Seated = TableId × Seat TableOpening

-- what the seat has seen begins the list, and the head that it knows is at most the list's
pub record IsHeard (terms : Terms TableOpening) (list : List Entry) (seat : Seat TableOpening)
    : Type 0 where
  pub seen : IsPrefix (front seat) list
  pub below : known seat ≤ terms.start + length list

-- the entries of the port's number are its receipts, and of what it knows the same holds
pub record IsRetired (terms : Terms TableOpening) (list : List Entry) (port : Seated) : Type 0 where
  pub receipts : receipts terms.start (number_of port.1.role) list ≡ own port.1
  pub heard : IsHeard terms list port.1

-- The table's phase has ended: its one list of entries is what the phase has, the ports are
-- retired, what each pass and cursor has seen begins the list, and no head that was told is above
-- it.
pub record IsClosed (terms : Terms TableOpening) (ports passes : List Seated)
    (cursors : List (Seated × Bool)) (made : Phase) : Type 0 where
  pub list : List Entry
  pub phase : IsPhase terms list made
  pub retired : AllByRecursion (IsRetired terms list) ports
  pub passed : AllByRecursion (λ pass. IsHeard terms list pass.1) passes
  pub read : AllByRecursion (λ cursor. IsHeard terms list cursor.0.1) cursors
