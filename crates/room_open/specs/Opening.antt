-- A phase that can begin (`IsOpening`), over what stood before it: the room, actors that have done
-- none of their lines, a hand for each protocol's start and a pass of each table for them, the
-- cursors that no channel reads by, and the entries before the phase.
-- From: own.
-- Example: in the first phase of one BGP protocol and a pipe, over two tables, with two actors, the
-- room has two members, each actor has two hands and two passes, and each of the three channels has
-- one spare cursor.
use Rattle.std.specs.Prelude.{◌≡◌, ◌+◌, ℕ, List, [], length, map, Some, slice_get}
use Rattle.atomic_table.specs.Seated.{TableId}
use Rattle.core_machine.specs.Rules.{Rules}
use Rattle.core_setup.specs.Channels.{channels}
use Rattle.core_setup.specs.Setup.{Exports}
use Rattle.export_lock.specs.Lanes.{LaneTerms}
use Rattle.import_lock.specs.Terms.{PhaseTerms}
use Rattle.jour_rule.specs.declared.views.Terms.{Terms}
use Rattle.phase_actors.specs.Acting.{IsDoing, IsPassOf}
use Rattle.phase_actors.specs.declared.actor.Actor.{Actor}
use Rattle.phase_legal.specs.Shown.{AreBeside}
use Rattle.phase_open.specs.Opening.{IsOpenChannel, IsOpenSession}
use Rattle.phase_open.specs.Standing.{table_stood}
use Rattle.phase_open.specs.declared.standing.StandingChannel.{StandingChannel}
use Rattle.phase_open.specs.declared.standing.StandingTable.{StandingTable}
use Rattle.phase_pipes.specs.Ports.{IsJoined}
use Rattle.phase_pipes.specs.Sessions.{back_terms, out_terms, pipe_terms}
use Rattle.phase_pipes.specs.declared.session.PipeSession.{PipeSession}
use Rattle.phase_room.specs.Begun.{IsNewHand}
use Rattle.phase_room.specs.Journals.{turns_terms}
use Rattle.table_shared.specs.Opening.{TableOpening}
use Rattle.room_members.specs.Members.{IsRoom, room_seen}
use Rattle.room_members.specs.Ports.{HasPorts}
use Rattle.room_members.specs.declared.member.Member.{Member}
use Rattle.room_members.specs.declared.member.Member.TheVariants as member
use Rattle.room_open.specs.declared.opening.Opening.{Opening}
use Rattle.room_open.specs.declared.standing.StandingMember.{StandingMember}
use Rattle.room_open.specs.declared.standing.StandingMember.TheVariants.{Own, Pipe}
use Rattle.room_open.specs.declared.standing.StandingPipe.{StandingPipe}

-- the journal of the table of a number begins with what stood
abbrev pub IsOpenTable : PhaseTerms → ℕ → StandingTable → TableId × Terms TableOpening → Type 0
IsOpenTable phase number stood here = IsJoined phase.setup number (table_stood stood) here.1

module _ {J P : Type 0} (terms : P → PhaseTerms) (exports : P → ℕ → Exports) (rules : P → Rules)
    (played : P) (tables : List StandingTable) where
  -- The lock of a direction that reads the table of this number is of the direction's number, of
  -- what it lets pass, its log and the table's entries before.
  pub record IsOpenLane (table : ℕ) (held : StandingChannel J) (lane : LaneTerms) : Type 0 where
    pub number : lane.number ≡ held.number
    pub channel : IsOpenChannel terms exports played tables table held lane.exports

  -- the session of the pipe of a number
  pub record IsOpenPipe (number : ℕ) (held : StandingPipe J) (session : PipeSession J P)
      : Type 0 where
    pub primary : session.primary ≡ held.primary
    pub peer : session.peer ≡ held.peer
    pub turns : (pipe_terms terms session).turns.1 ≡ turns_terms ((terms played).starter + 1)
    pub out_port : (out_terms exports rules session).port_number ≡ number
    pub back_port : (back_terms exports rules session).port_number ≡ number
    pub out : IsOpenLane held.primary held.out (out_terms exports rules session)
    pub back : IsOpenLane held.peer held.back (back_terms exports rules session)

  -- the protocol of a number, which is of its kind
  abbrev pub IsOpenMember : ℕ → StandingMember J → Member J P → Type 0
  IsOpenMember number (Own held) (member.Own session) =
      IsOpenSession terms exports played tables number held session
  IsOpenMember number (Pipe held) (member.Pipe session) = IsOpenPipe number held session
  IsOpenMember number _ _ = ⊥

  pub record IsOpening (members : List (StandingMember J)) (opening : Opening J P)
      : Type 0 where
    pub room : IsRoom terms exports rules opening.room
    pub ports : HasPorts terms exports rules opening.room
    pub played_is : opening.room.played.value ≡ played
    pub tables_count : length opening.room.tables.items ≡ length tables
    pub tables_are :
        (number : ℕ) (stood : StandingTable) (here : TableId × Terms TableOpening)
        → slice_get tables number ≡ Some stood
        → slice_get opening.room.tables.items number ≡ Some here
        → IsOpenTable (terms played) number stood here
    pub members_count : length opening.room.members.items ≡ length members
    pub members_are :
        (number : ℕ) (held : StandingMember J) (one : Member J P)
        → slice_get members number ≡ Some held
        → slice_get opening.room.members.items number ≡ Some one
        → IsOpenMember number held one
    -- actors, and the hands and passes for starts
    pub actors_count : length opening.actors.items ≡ (terms played).starter
    pub actors :
        (number : ℕ) (actor : Actor) → slice_get opening.actors.items number ≡ Some actor
        → (actor.number ≡ number)
        × IsDoing (terms played).setup (room_seen terms opening.room) [] actor
    pub starters :
        AreBeside (IsNewHand (terms played).starter) (room_seen terms opening.room).turns
        opening.starters.items
    pub passes : AreBeside IsPassOf opening.room.tables.items opening.passes.items
    pub spares : length opening.spares.items ≡ length (channels (terms played).setup)
    pub before : map (λ list. list.items) opening.before.items
        ≡ map (λ stood. stood.before.items) tables
