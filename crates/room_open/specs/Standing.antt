-- What stands between two phases (`Stands`): of each table its rows and all its entries so far, of
-- each protocol with routes of its own its importer, and the exporter of its channel, if it has one,
-- and of each pipe whether it is up, and the exporters of its directions (`IsStandingPipe`).
-- Entries are in their order.
-- From: BIRD User's Guide, "Pipe"; own.
-- Example: before the first phase no table has an entry, all pipes are up, and all is as it is made.
use Rattle.std.specs.Prelude.{◌≡◌, ℕ, List, [], ◌∷◌, length, Some, slice_get}
use Rattle.attrs.specs.declared.judge.Verdict.{Verdict}
use Rattle.attrs.specs.declared.route.Route.{Route}
use Rattle.bits_ip.specs.Prefix.{Net}
use Rattle.core_setup.specs.Protocols.{exports_of, rules_of}
use Rattle.core_setup.specs.Setup.{Exports, IsSetup, Pipe as PlayedPipe}
use Rattle.import_lock.specs.Terms.{PhaseTerms}
use Rattle.phase_legal.specs.Shown.{AreBeside}
use Rattle.phase_open.specs.Standing.{IsStandingProtocol, IsStandingTable, table_stood}
use Rattle.phase_open.specs.declared.standing.StandingChannel.{StandingChannel}
use Rattle.phase_open.specs.declared.standing.StandingTable.{StandingTable}
use Rattle.phase_pipes.specs.Stands.{IsDirectionOf, StandsDirection, StandsPipe}
use Rattle.phase_room.specs.Rooms.{TableTerms}
use Rattle.room_open.specs.declared.standing.Standing.{Standing}
use Rattle.room_open.specs.declared.standing.StandingMember.{StandingMember}
use Rattle.room_open.specs.declared.standing.StandingMember.TheVariants.{Own, Pipe}
use Rattle.room_open.specs.declared.standing.StandingPipe.{StandingPipe}

module _ {J : Type 0} (verdict : J → Net → Route → Verdict) (phase : PhaseTerms)
    (exports : ℕ → Exports) where
  -- The direction of the pipe of a number reads the one table and writes the other, of which these
  -- stand. Under its number what is played has what it lets pass, with the sources that it passes.
  pub record IsStandingDirection
      (number reads writes : ℕ) (read written : TableTerms) (held : StandingChannel J)
      : Type 0 where
    pub of : IsDirectionOf phase.setup number held.number reads writes
    pub exports_are : exports held.number ≡ exports_of phase.setup held.number of.channel
    pub stands :
        StandsDirection verdict phase number held.number (exports held.number) read written
        held.exporter

  -- the pipe of a number, over tables of which these stand
  pub record IsStandingPipe
      (tables : List StandingTable) (number : ℕ) (held : StandingPipe J) : Type 0 where
    pub pipe : PlayedPipe
    pub stands : StandsPipe phase number pipe held.up
    pub primary_is : held.primary ≡ pipe.primary
    pub peer_is : held.peer ≡ pipe.peer
    pub belong : (rules_of phase.setup).belong number ≡ held.out.number ∷ held.back.number ∷ []
    pub primary : StandingTable
    pub primary_at : slice_get tables held.primary ≡ Some primary
    pub peer : StandingTable
    pub peer_at : slice_get tables held.peer ≡ Some peer
    pub out :
        IsStandingDirection number pipe.primary pipe.peer (table_stood primary)
        (table_stood peer) held.out
    pub back :
        IsStandingDirection number pipe.peer pipe.primary (table_stood peer)
        (table_stood primary) held.back

  -- the protocol of a number
  abbrev pub IsStandingMember : List StandingTable → ℕ → StandingMember J → Type 0
  IsStandingMember tables number (Own held) =
      IsStandingProtocol verdict phase exports tables number held
  IsStandingMember tables number (Pipe held) = IsStandingPipe tables number held

  pub record Stands (standing : Standing J) : Type 0 where
    pub setup : IsSetup phase.setup
    pub tables : AreBeside IsStandingTable phase.setup.tables standing.tables.items
    pub count : length standing.members.items ≡ length phase.setup.protocols
    pub members :
        (number : ℕ) (held : StandingMember J)
        → slice_get standing.members.items number ≡ Some held
        → IsStandingMember standing.tables.items number held
