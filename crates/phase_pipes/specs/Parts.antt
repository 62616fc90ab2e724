-- What a pipe's session begins a phase with: what stands of the pipe, and of each direction with its
-- cursor of the table that it reads and its port of the other (`IsDirectionPart`, `ArePipeParts`).
-- Entries before the phase are in their order.
-- Not modelled: protocols with routes of their own.
-- From: own.
-- Example: in the first phase all directions are up, so each cursor is started, where its table
-- begins.
use Rattle.std.specs.Prelude.{◌≡◌, ℕ, true, [], ◌∷◌, length}
use Rattle.atomic_table.specs.Seated.{TableId}
use Rattle.attrs.specs.declared.judge.Verdict.{Verdict}
use Rattle.attrs.specs.declared.route.Route.{Route}
use Rattle.bits_ip.specs.Prefix.{Net}
use Rattle.core_setup.specs.Protocols.{rules_of}
use Rattle.core_setup.specs.Setup.{Exports, Pipe}
use Rattle.export_core.specs.Standing.{is_open}
use Rattle.import_lock.specs.Terms.{PhaseTerms}
use Rattle.jour_rule.specs.Moves.{position_of}
use Rattle.jour_rule.specs.declared.views.Terms.{Terms}
use Rattle.jour.specs.Seats.{front, journal, number_of, own}
use Rattle.phase_room.specs.Rooms.{BeginsTable, TableTerms}
use Rattle.phase_room.specs.Stands.{StandsTable}
use Rattle.table_shared.specs.Opening.{TableOpening}
use Rattle.phase_pipes.specs.Ports.{EntersAlone}
use Rattle.phase_pipes.specs.Stands.{IsDirectionOf, StandsDirection, StandsPipe}
use Rattle.phase_pipes.specs.declared.parts.DirectionPart.{DirectionPart}
use Rattle.phase_pipes.specs.declared.parts.PipePart.{PipePart}

-- a table as a direction finds it: what stands in it, and its journal, which begins with that
pub record TableFound : Type 0 where
  pub stood : TableTerms
  pub here : TableId × Terms TableOpening
  pub begins : BeginsTable stood here.1

module _ {J : Type 0} (verdict : J → Net → Route → Verdict) (phase : PhaseTerms)
    (exports : ℕ → Exports) where
  -- The direction of the pipe of a number reads the one table and writes the other. Its cursor has
  -- seen nothing of the phase, and is started, where the table begins, if the direction is up. Its
  -- port alone has what it passes, and has made nothing.
  pub record IsDirectionPart (number : ℕ) (read written : TableFound) (part : DirectionPart J)
      : Type 0 where
    pub begun : StandsTable read.stood
    pub stands :
        StandsDirection verdict phase number part.number (exports part.number) read.stood
        written.stood part.exporter
    pub log : part.log.value.items ≡ part.exporter.log
    pub cursor : journal part.cursor.0 ≡ read.here
    pub unread : front part.cursor.0.1 ≡ []
    pub mode : part.cursor.1 ≡ is_open part.exporter.log
    pub position :
        is_open part.exporter.log ≡ true
        → position_of part.cursor.0.1.role ≡ length read.stood.before
    pub port : journal part.port ≡ written.here
    pub port_number : number_of part.port.1.role ≡ number
    pub unmade : own part.port.1 ≡ []
    pub enters :
        EntersAlone (rules_of phase.setup) part.number written.here.1.opening number

  -- The pipe's directions are the one from its primary table to its peer table, and the one back.
  pub record ArePipeParts
      (primary peer : TableFound) (part : PipePart) (out back : DirectionPart J) : Type 0 where
    pub pipe : Pipe
    pub stands : StandsPipe phase part.number pipe part.up
    pub primary_is : part.primary ≡ pipe.primary
    pub peer_is : part.peer ≡ pipe.peer
    pub belong : (rules_of phase.setup).belong part.number ≡ out.number ∷ back.number ∷ []
    pub out_of : IsDirectionOf phase.setup part.number out.number pipe.primary pipe.peer
    pub back_of : IsDirectionOf phase.setup part.number back.number pipe.peer pipe.primary
    pub out_is : IsDirectionPart part.number primary peer out
    pub back_is : IsDirectionPart part.number peer primary back
