-- What stands as a phase begins, of a table (`StandsTable`), of a protocol with routes of its own
-- (`StandsSource`) and of its channel to a neighbour (`StandsChannel`), and the seats that each is
-- given for the phase (`AreSeats`, `AreChannelSeats`).
-- Turns, operations and the log are read backwards; entries are in their order.
-- Not modelled: pipes.
-- From: own.
-- Example: before the first phase no protocol has done an operation, and all tables are empty.
use Rattle.std.specs.Prelude.{◌≡◌, ℕ, ◌+◌, Bool, true, false, [], length, map, reverse, Option, Some, IfSome}
use Rattle.std.specs.List.{AllByRecursion}
use Rattle.atomic_table.specs.Seated.{TableId}
use Rattle.attrs.specs.History.{after, empty}
use Rattle.attrs.specs.Table.{route_in}
use Rattle.attrs.specs.declared.judge.Verdict.{Verdict}
use Rattle.attrs.specs.declared.route.Route.{Route}
use Rattle.bits_ip.specs.Prefix.{Net}
use Rattle.export_core.specs.Histories.{TellsBest, course_of}
use Rattle.export_core.specs.Standing.{is_open}
use Rattle.export_core.specs.States.{StandsFor, State}
use Rattle.import_core.specs.Importers.{Importing}
use Rattle.jour_rule.specs.Moves.{position_of}
use Rattle.jour_rule.specs.declared.views.Terms.{Terms}
use Rattle.jour_rule.specs.declared.views.View.{View as Seat}
use Rattle.jour.specs.Seats.{front, journal, number_of, own}
use Rattle.core_machine.specs.Lines.{ops_of}
use Rattle.core_machine.specs.Rules.{held, is_up}
use Rattle.core_machine.specs.Signals.{without_sends}
use Rattle.core_setup.specs.Announced.{IsOfFamily}
use Rattle.core_setup.specs.Protocols.{protocol_at, rules_of}
use Rattle.core_setup.specs.Setup.{Exports, IsSetup, IsSource, Protocol, Source, family_at}
use Rattle.phase_legal.specs.Stamps.{opens}
use Rattle.table_shared.specs.Opening.{TableOpening}
use Rattle.table_shared.specs.Records.{change_of}
use Rattle.import_lock.specs.Begun.{IsUnused}
use Rattle.import_lock.specs.Kept.{IsImporter}
use Rattle.import_lock.specs.Terms.{PhaseTerms}
use Rattle.phase_room.specs.Journals.{marks_terms, turns_terms}
use Rattle.phase_room.specs.Rooms.{BeginsTable, IsOwnPort, TableTerms}

-- its entries told the best routes, and it has what they leave
pub record StandsTable (table : TableTerms) : Type 0 where
  pub told : TellsBest table.before
  pub rows :
      (net : Net) (num : ℕ) → route_in table.rows net num
      ≡ after empty (map change_of table.before) net num

module _ {J : Type 0} (verdict : J → Net → Route → Verdict) where
  -- The importer is the protocol's behind its operations, and the table has what they accepted. What
  -- they announced is of the table's family.
  pub record StandsSource
      (phase : PhaseTerms) (number : ℕ) (source : Source) (table : TableTerms)
      (state : Importing J) : Type 0 where
    pub setup : IsSetup phase.setup
    pub protocol : Protocol
    pub protocol_is : protocol_at phase.setup number ≡ Some protocol
    pub body : protocol.body ≡ IsSource source
    pub family : family_at phase.setup.tables source.table ≡ Some table.family
    pub rows :
        (net : Net) → route_in table.rows net number
        ≡ held (rules_of phase.setup) number (ops_of (phase.past number)) net
    pub past : AllByRecursion (IsOfFamily table.family) (ops_of (phase.past number))
    pub importer : IsImporter verdict source (ops_of (phase.past number)) state

  -- The exporter goes by what the channel lets pass, stands for all entries of its table, has taken
  -- them while it was up, and withdraws nothing. It is up where the protocol's operations say so.
  pub record StandsChannel
      (phase : PhaseTerms) (number : ℕ) (exports : Exports) (table : TableTerms)
      (exporter : State J) : Type 0 where
    pub spec : exporter.spec ≡ exports.spec
    pub filter : verdict exporter.judge ≡ exports.filter
    pub neighbour : exports.spec.every ≡ false
    pub family : exports.spec.family ≡ table.family
    pub rest : exporter.flushing ≡ false
    pub stands : StandsFor verdict (course_of exports.spec table.before) exporter
    pub position : is_open exporter.log ≡ true → exporter.position ≡ length table.before
    pub up :
        opens false (without_sends (reverse exporter.log))
        ≡ is_up (rules_of phase.setup) number (ops_of (phase.past number))

-- its port of its table, which begins with what stands there, its turns with a hand for each actor and
-- one for starts, and its channel's stamp, if it has a channel; nothing of the phase is made, recorded
-- or marked
pub record AreSeats
    (phase : PhaseTerms) (number : ℕ) (table : TableTerms) (here : TableId × Terms TableOpening)
    (door : TableId × Seat TableOpening) (list : TableId × Seat ℕ)
    (marker : Option (TableId × Seat ℕ)) : Type 0 where
  pub begins : BeginsTable table here.1
  pub own_port : IsOwnPort number here.1.opening
  pub port : journal door ≡ here
  pub port_number : number_of door.1.role ≡ number
  pub unmade : own door.1 ≡ []
  pub turns : list.1.seen.terms ≡ turns_terms (phase.starter + 1)
  pub unturned : front list.1 ≡ []
  pub unused : IfSome marker IsUnused

-- its cursor of the table, which stands at the table's beginning where it is started, and its marks
pub record AreChannelSeats
    (table : TableTerms) (here : TableId × Terms TableOpening) (up : Bool)
    (reader : (TableId × Seat TableOpening) × Bool) (list : TableId × Seat ℕ) : Type 0 where
  pub begins : BeginsTable table here.1
  pub cursor : journal reader.0 ≡ here
  pub unread : front reader.0.1 ≡ []
  pub mode : reader.1 ≡ up
  pub position : up ≡ true → position_of reader.0.1.role ≡ length table.before
  pub marks : list.1.seen.terms ≡ marks_terms
  pub unmarked : front list.1 ≡ []
