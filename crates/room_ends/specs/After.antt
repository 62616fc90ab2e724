-- What a phase has made of what stood before it (`IsMadeOver`), and what stands behind the phase
-- (`StandsAfter`): what stood, and what the phase has made.
-- Entries are in their order.
-- From: own.
-- Example: behind a phase of one `add` the table has one entry more, and the importer is the one
-- that did it; behind a phase in which a pipe was switched off it is down.
use Rattle.std.specs.Prelude.{◌≡◌, ◌++◌, ℕ, length, is_some, Option, Some, None, slice_get, ⊤}
use Rattle.export_core.specs.States.{State}
use Rattle.table_shared.specs.declared.close.Phase.{Phase}
use Rattle.phase_close.specs.declared.seats.SessionEnded.{SessionEnded}
use Rattle.phase_open.specs.declared.standing.StandingChannel.{StandingChannel}
use Rattle.phase_open.specs.declared.standing.StandingProtocol.{StandingProtocol}
use Rattle.phase_open.specs.declared.standing.StandingTable.{StandingTable}
use Rattle.pipe_close.specs.declared.end.PipeEnded.{PipeEnded}
use Rattle.room_ends.specs.declared.ended.MemberEnded.{MemberEnded}
use Rattle.room_ends.specs.declared.ended.MemberEnded.TheVariants as ended
use Rattle.room_open.specs.declared.standing.Standing.{Standing}
use Rattle.room_open.specs.declared.standing.StandingMember.{StandingMember}
use Rattle.room_open.specs.declared.standing.StandingMember.TheVariants as standing
use Rattle.room_open.specs.declared.standing.StandingPipe.{StandingPipe}
use Rattle.room_ends.specs.declared.played.PlayedRoom.{PlayedRoom}

pub record IsTableAfter (old : StandingTable) (phase : Phase) (new : StandingTable) : Type 0 where
  pub family : new.family ≡ old.family
  pub rows : new.rows ≡ phase.rib
  pub before : new.before.items ≡ old.before.items ++ phase.entries

module _ {J : Type 0} where
  -- it imports to the same table, and has an exporter where there was one
  pub record IsSessionOver (held : StandingProtocol J) (session : SessionEnded J) : Type 0 where
    pub table : session.table ≡ held.table
    pub channel : is_some session.exporter ≡ is_some held.channel

  -- it is between the same tables
  pub record IsPipeOver (held : StandingPipe J) (pipe : PipeEnded J) : Type 0 where
    pub primary : pipe.primary ≡ held.primary
    pub peer : pipe.peer ≡ held.peer

  abbrev pub IsMemberOver : StandingMember J → MemberEnded J → Type 0
  IsMemberOver (standing.Own held) (ended.Own session) = IsSessionOver held session
  IsMemberOver (standing.Pipe held) (ended.Pipe pipe) = IsPipeOver held pipe
  IsMemberOver _ _ = ⊥

  -- each table and each protocol that stood has come to something, and so many actors were told
  -- something or nothing
  pub record IsMadeOver (old : Standing J) (actors : ℕ) (made : PlayedRoom J) : Type 0 where
    pub tables_count : length made.ended.phases.items ≡ length old.tables.items
    pub members_count : length made.ended.members.items ≡ length old.members.items
    pub told_count : length made.told.items ≡ actors
    pub members :
        (i : ℕ) (held : StandingMember J) (member : MemberEnded J)
        → slice_get old.members.items i ≡ Some held
        → slice_get made.ended.members.items i ≡ Some member → IsMemberOver held member

  -- the channel has its number, and the exporter that the phase left
  pub record IsExporterAfter (old : StandingChannel J) (exporter : State J) (new : StandingChannel J)
      : Type 0 where
    pub number : new.number ≡ old.number
    pub exporter_is : new.exporter ≡ exporter

  abbrev pub IsChannelAfter :
      Option (StandingChannel J) → Option (State J) → Option (StandingChannel J) → Type 0
  IsChannelAfter None exporter None = ⊤
  IsChannelAfter (Some old) (Some exporter) (Some new) = IsExporterAfter old exporter new
  IsChannelAfter old exporter new = ⊥

  pub record IsProtocolAfter
      (old : StandingProtocol J) (session : SessionEnded J) (new : StandingProtocol J)
      : Type 0 where
    pub table : new.table ≡ old.table
    pub importer : new.importer ≡ session.importer
    pub channel : IsChannelAfter old.channel session.exporter new.channel

  pub record IsPipeAfter (old : StandingPipe J) (pipe : PipeEnded J) (new : StandingPipe J)
      : Type 0 where
    pub primary : new.primary ≡ old.primary
    pub peer : new.peer ≡ old.peer
    pub up : new.up ≡ pipe.up
    pub out : IsExporterAfter old.out pipe.out new.out
    pub back : IsExporterAfter old.back pipe.back new.back

  abbrev pub IsMemberAfter : StandingMember J → MemberEnded J → StandingMember J → Type 0
  IsMemberAfter (standing.Own old) (ended.Own session) (standing.Own new) =
      IsProtocolAfter old session new
  IsMemberAfter (standing.Pipe old) (ended.Pipe pipe) (standing.Pipe new) =
      IsPipeAfter old pipe new
  IsMemberAfter _ _ _ = ⊥

  pub record StandsAfter (old : Standing J) (made : PlayedRoom J) (new : Standing J)
      : Type 0 where
    pub tables_count : length new.tables.items ≡ length old.tables.items
    pub tables :
        (t : ℕ) (stood : StandingTable) (phase : Phase) (stands : StandingTable)
        → slice_get old.tables.items t ≡ Some stood
        → slice_get made.ended.phases.items t ≡ Some phase
        → slice_get new.tables.items t ≡ Some stands → IsTableAfter stood phase stands
    pub members_count : length new.members.items ≡ length old.members.items
    pub members :
        (i : ℕ) (held : StandingMember J) (member : MemberEnded J) (holds : StandingMember J)
        → slice_get old.members.items i ≡ Some held
        → slice_get made.ended.members.items i ≡ Some member
        → slice_get new.members.items i ≡ Some holds → IsMemberAfter held member holds
