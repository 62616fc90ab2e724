-- Which members of a room write a table (`Writes`), and that each port of a table which has a source
-- is one of such a member, whose number it has (`HasPorts`).
-- From: own.
-- Example: a pipe from the table 0 to the table 1 writes both: the direction out writes 1, and the
-- one back writes 0.
use Rattle.std.specs.Prelude.{◌≡◌, ◌⊎◌, ℕ, Contains, Some, slice_get}
use Rattle.atomic_table.specs.Seated.{TableId}
use Rattle.core_machine.specs.Rules.{Rules}
use Rattle.core_setup.specs.Setup.{Exports}
use Rattle.import_lock.specs.Terms.{PhaseTerms}
use Rattle.jour_rule.specs.declared.views.Terms.{Terms}
use Rattle.phase_pipes.specs.Sessions.{back_terms, out_terms}
use Rattle.phase_room.specs.Sessions.{protocol_terms}
use Rattle.table_shared.specs.Opening.{TableOpening, sources_of}
use Rattle.room_members.specs.declared.member.Member.{Member}
use Rattle.room_members.specs.declared.member.Member.TheVariants.{Own, Pipe}
use Rattle.room_members.specs.declared.room.Room.{Room}

module _ {J P : Type 0} (terms : P → PhaseTerms) (exports : P → ℕ → Exports) (rules : P → Rules) where
  -- it writes the table of the one number by a port of the other
  abbrev pub Writes : Member J P → (table port : ℕ) → Type 0
  Writes (Own session) table port =
      (session.table ≡ table) × ((protocol_terms terms session).port_number ≡ port)
  Writes (Pipe pipe) table port =
      ((pipe.peer ≡ table) × ((out_terms exports rules pipe).port_number ≡ port))
      ⊎ ((pipe.primary ≡ table) × ((back_terms exports rules pipe).port_number ≡ port))

  pub record HasPorts (room : Room J P) : Type 0 where
    pub each :
        (table : ℕ) (here : TableId × Terms TableOpening)
        → slice_get room.tables.items table ≡ Some here
        → (port num : ℕ) → Contains (sources_of here.1.opening port) num
        → (member : Member J P) × (slice_get room.members.items port ≡ Some member)
        × Writes member table port
