-- What tables give as a phase begins (`AreOpened`): by protocol its port of each table, by channel its
-- cursor, and by actor a pass, in the order of tables.
-- From: own.
-- Example: the third protocol's list has of each table the port of number 2.
use Rattle.std.specs.Prelude.{◌≡◌, ℕ, Bool, false, List, [], Some, slice_get}
use Rattle.std.specs.declared.alloc.Global.{Global}
use Rattle.std.specs.declared.vec.Vec.{Vec}
use Rattle.atomic_table.specs.Seated.{TableId}
use Rattle.jour_rule.specs.Moves.{position_of}
use Rattle.jour_rule.specs.declared.views.Terms.{Terms}
use Rattle.jour_rule.specs.declared.views.View.{View as Seat}
use Rattle.jour.specs.Seats.{front, journal, number_of, own}
use Rattle.phase_legal.specs.Shown.{AreBeside}
use Rattle.table_shared.specs.Opening.{TableOpening}
use Rattle.phase_room.specs.declared.opened.Opened.{Opened}

-- each list of a number has an item of each table
abbrev pub AreOfEach :
    {T X : Type 0} → (ℕ → T → X → Type 0) → List T → List (Vec X Global) → Type 0
AreOfEach {T} {X} P tables lists =
    (number : ℕ) (list : Vec X Global) → slice_get lists number ≡ Some list
    → AreBeside (P number) tables list.items

-- a port of a table of this number, under which nothing is made
abbrev pub IsPortOf : ℕ → TableId × Terms TableOpening → TableId × Seat TableOpening → Type 0
IsPortOf number table port =
    (journal port ≡ table) × (number_of port.1.role ≡ number) × (own port.1 ≡ [])

-- a closed cursor of a table of this number, which has seen nothing and stands where it begins
abbrev pub IsCursorOf :
    ℕ → TableId × Terms TableOpening → (TableId × Seat TableOpening) × Bool → Type 0
IsCursorOf number table cursor =
    (journal cursor.0 ≡ table) × (number_of cursor.0.1.role ≡ number)
    × (front cursor.0.1 ≡ []) × (position_of cursor.0.1.role ≡ table.1.start)
    × (cursor.1 ≡ false)

abbrev pub IsPassOf : ℕ → TableId × Terms TableOpening → TableId × Seat TableOpening → Type 0
IsPassOf number table pass = journal pass ≡ table

pub record AreOpened (opened : Opened) : Type 0 where
  pub ports : AreOfEach IsPortOf opened.tables.items opened.ports.items
  pub cursors : AreOfEach IsCursorOf opened.tables.items opened.cursors.items
  pub passes : AreOfEach IsPassOf opened.tables.items opened.passes.items
