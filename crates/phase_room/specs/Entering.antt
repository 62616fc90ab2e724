-- What stands of a protocol that enters a room, over the room's tables (`StandsIn`), and what its
-- session then is of (`IsNewSession`, `IsNewChannel`).
-- Entries before the phase are in their order.
-- Not modelled: pipes.
-- From: own.
-- Example: in the first phase nothing stands in its table.
use Rattle.std.specs.Prelude.{◌≡◌, ◌+◌, ℕ, List, Option, Some, reverse, slice_get}
use Rattle.atomic_table.specs.Seated.{TableId}
use Rattle.attrs.specs.declared.journal.JEntry.{JEntry}
use Rattle.attrs.specs.declared.judge.Verdict.{Verdict}
use Rattle.attrs.specs.declared.route.Route.{Route}
use Rattle.bits_ip.specs.Prefix.{Net}
use Rattle.core_setup.specs.Setup.{Exports, Source}
use Rattle.export_lock.specs.Terms.{ExportTerms}
use Rattle.import_core.specs.Importers.{Importing}
use Rattle.import_lock.specs.Terms.{PhaseTerms}
use Rattle.jour_rule.specs.declared.views.Terms.{Terms}
use Rattle.jour_rule.specs.declared.views.View.{View as Seat}
use Rattle.table_shared.specs.Opening.{TableOpening}
use Rattle.phase_room.specs.Journals.{turns_terms}
use Rattle.phase_room.specs.Locks.{export_terms}
use Rattle.phase_room.specs.Rooms.{BeginsTable, IsOwnPort, TableTerms}
use Rattle.phase_room.specs.Sessions.{protocol_terms}
use Rattle.phase_room.specs.Stands.{StandsSource}
use Rattle.phase_room.specs.declared.parts.ChannelPart.{ChannelPart}
use Rattle.phase_room.specs.declared.session.Session.{Session}

pub record StandsIn
    {J : Type 0} (verdict : J → Net → Route → Verdict) (phase : PhaseTerms)
    (tables : List (TableId × Terms TableOpening)) (number home : ℕ) (importer : Importing J)
    : Type 0 where
  pub source : Source
  pub home_is : home ≡ source.table
  pub here : TableId × Terms TableOpening
  pub here_is : slice_get tables home ≡ Some here
  pub stood : TableTerms
  pub begins : BeginsTable stood here.1
  pub own_port : IsOwnPort number here.1.opening
  pub stands : StandsSource verdict phase number source stood importer

-- It is over its table, its port has its number, and its turns have a hand for each actor and one
-- for starts.
pub record IsNewSession
    {J P : Type 0} (terms : P → PhaseTerms) (starter number home : ℕ) (session : Session J P)
    : Type 0 where
  pub table : session.table ≡ home
  pub port : (protocol_terms terms session).port_number ≡ number
  pub turns : (protocol_terms terms session).turns.1 ≡ turns_terms (starter + 1)

-- its channel's lock is of what the part has, and of these entries of its table before the phase
abbrev pub IsNewChannel :
    {J : Type 0} → (ℕ → Exports) → (before : List JEntry) → ChannelPart J → Option ExportTerms
    → Type 0
IsNewChannel exports before part lock =
    (marks : TableId × Seat ℕ)
    × (lock ≡ Some (export_terms (exports part.number) part.cursor before marks
    (reverse part.log.value.items)))
