-- How what stood begins a phase: tables are opened one by one (`CanOpen`, `IsTableMore`,
-- `AreTablesOpen`), protocols enter a room of these tables (`AreLaid`, `CanEnter`, `CanEnterAll`,
-- `AreEntered`), and actors are given their seats (`IsSeated`).
-- Entries before the phase are in their order.
-- From: own.
-- Example: of two protocols that enter the second one has a port of number 1 of each table.
use Rattle.std.specs.Prelude.{◌≡◌, ◌⊎◌, ◌+◌, ◌≤◌, ℕ, Bool, List, [], ◌∷◌, ◌++◌, length, map, Some, slice_get}
use Rattle.std.specs.declared.alloc.Global.{Global}
use Rattle.std.specs.declared.vec.Vec.{Vec}
use Rattle.atomic_table.specs.Seated.{TableId}
use Rattle.attrs.specs.declared.journal.JEntry.{JEntry}
use Rattle.attrs.specs.declared.judge.Verdict.{Verdict}
use Rattle.attrs.specs.declared.route.Route.{Route}
use Rattle.bits_ip.specs.Prefix.{Net}
use Rattle.core_machine.specs.Rules.{Rules}
use Rattle.core_setup.specs.Channels.{Channel, channel_at, channels}
use Rattle.core_setup.specs.Pairs.{Pairs}
use Rattle.core_setup.specs.Setup.{Exports, Setup}
use Rattle.export_core.specs.Standing.{is_open}
use Rattle.import_lock.specs.Terms.{PhaseTerms}
use Rattle.jour_rule.specs.declared.views.Terms.{Terms}
use Rattle.jour_rule.specs.declared.views.View.{View as Seat}
use Rattle.phase_actors.specs.declared.actor.Actor.{Actor}
use Rattle.phase_legal.specs.Shown.{AreBeside, HandView, PassView}
use Rattle.phase_open.specs.Standing.{table_stood}
use Rattle.phase_open.specs.declared.standing.StandingChannel.{StandingChannel}
use Rattle.phase_open.specs.declared.standing.StandingTable.{StandingTable}
use Rattle.phase_pipes.specs.Ports.{IsJoined}
use Rattle.phase_pipes.specs.declared.parts.DirectionPart.{DirectionPart}
use Rattle.phase_room.specs.Opened.{AreOfEach, AreOpened, IsCursorOf, IsPortOf}
use Rattle.phase_room.specs.Rooms.{TableTerms}
use Rattle.phase_room.specs.Stands.{StandsTable}
use Rattle.phase_room.specs.declared.opened.Opened.{Opened}
use Rattle.phase_room.specs.declared.parts.ChannelPart.{ChannelPart}
use Rattle.room_members.specs.Begun.{IsBegun}
use Rattle.room_members.specs.declared.begun.Begun.{Begun}
use Rattle.table_shared.specs.Opening.{TableOpening}
use Rattle.room_open.specs.Opening.{IsOpenMember, IsOpenTable}
use Rattle.room_open.specs.Sources.{AreCounts, ArePorts}
use Rattle.room_open.specs.Standing.{IsStandingMember}
use Rattle.room_open.specs.declared.standing.StandingMember.{StandingMember}
use Rattle.room_open.specs.declared.standing.StandingMember.TheVariants.{Own, Pipe}

abbrev pub TableView : Type 0
TableView = TableId × Terms TableOpening

abbrev pub PortView : Type 0
PortView = TableId × Seat TableOpening

abbrev pub CursorView : Type 0
CursorView = (TableId × Seat TableOpening) × Bool

-- ---- tables

-- what is opened has a list for each protocol and channel of what is played
pub record CanOpen
    {J : Type 0} (setup : Setup) (members : List (StandingMember J)) (opened : Opened)
    : Type 0 where
  pub opened_is : AreOpened opened
  pub counts : AreCounts setup (length opened.cursors.items) members
  pub ports : length opened.ports.items ≡ length members

-- there is one table more, with what stood in it
pub record IsTableMore
    {J : Type 0} (setup : Setup) (members : List (StandingMember J)) (stood : TableTerms)
    (old new : Opened) : Type 0 where
  pub can : CanOpen setup members new
  pub passes : length new.passes.items ≡ length old.passes.items
  pub table : TableView
  pub tables : new.tables.items ≡ old.tables.items ++ table ∷ []
  pub terms : IsJoined setup (length old.tables.items) stood table.1

-- the table of a number begins with what stood
abbrev pub BeginsTable : Setup → ℕ → StandingTable → TableView → Type 0
BeginsTable setup number stood here = IsJoined setup number (table_stood stood) here.1

abbrev pub lists_before : List StandingTable → List (Vec JEntry Global)
lists_before stood = map (λ (table : StandingTable). table.before) stood

pub record AreTablesOpen
    {J : Type 0} (setup : Setup) (members : List (StandingMember J)) (actors : ℕ)
    (stood : List StandingTable) (opened : Opened) (before : List (Vec JEntry Global))
    : Type 0 where
  pub can : CanOpen setup members opened
  pub passes : length opened.passes.items ≡ actors
  pub tables : Pairs (BeginsTable setup) 0 stood opened.tables.items
  pub before_is : before ≡ lists_before stood

-- ---- protocols

-- the part has what stands of the channel, and this cursor, which is started where it is up
pub record IsOpenPart
    {J : Type 0} (held : StandingChannel J) (cursor : CursorView) (part : ChannelPart J)
    : Type 0 where
  pub number : part.number ≡ held.number
  pub exporter : part.exporter ≡ held.exporter
  pub log : part.log.value.items ≡ held.exporter.log
  pub cursor_is : part.cursor.0 ≡ cursor.0
  pub mode : part.cursor.1 ≡ is_open held.exporter.log

-- the same of a pipe's direction, which has this port too
pub record IsOpenDirection
    {J : Type 0} (held : StandingChannel J) (cursor : CursorView) (port : PortView)
    (part : DirectionPart J) : Type 0 where
  pub number : part.number ≡ held.number
  pub exporter : part.exporter ≡ held.exporter
  pub log : part.log.value.items ≡ held.exporter.log
  pub cursor_is : part.cursor.0 ≡ cursor.0
  pub mode : part.cursor.1 ≡ is_open held.exporter.log
  pub port_is : part.port ≡ port

-- the protocol has the channel of this number
abbrev pub HasNumber : {J : Type 0} → StandingMember J → ℕ → Type 0
HasNumber {J} (Own held) number =
    (channel : StandingChannel J) × (held.channel ≡ Some channel) × (channel.number ≡ number)
HasNumber (Pipe held) number = (held.out.number ≡ number) ⊎ (held.back.number ≡ number)

-- the channel of this number has a cursor of each table
abbrev pub HasCursors : List TableView → List (Vec CursorView Global) → ℕ → Type 0
HasCursors tables cursors number =
    (list : Vec CursorView Global) × (slice_get cursors number ≡ Some list)
    × AreBeside (IsCursorOf number) tables list.items

-- what stood lies in a room's tables
pub record AreLaid
    (phase : PhaseTerms) (stood : List StandingTable) (tables : List TableView)
    (before : List (Vec JEntry Global)) : Type 0 where
  pub count : length stood ≡ length phase.setup.tables
  pub tables_are : Pairs (IsOpenTable phase) 0 stood tables
  pub before_is : before ≡ lists_before stood
  pub begun :
      (number : ℕ) (table : StandingTable) → slice_get stood number ≡ Some table
      → StandsTable (table_stood table)

module _ {J : Type 0} (verdict : J → Net → Route → Verdict) (phase : PhaseTerms)
    (exports : ℕ → Exports) (stood : List StandingTable) (tables : List TableView)
    (before : List (Vec JEntry Global)) (cursors : List (Vec CursorView Global)) where
  pub record CanEnter (number : ℕ) (held : StandingMember J) : Type 0 where
    pub laid : AreLaid phase stood tables before
    pub held_is : IsStandingMember verdict phase exports stood number held
    pub cursors_are : (channel : ℕ) → HasNumber held channel → HasCursors tables cursors channel

  pub record CanEnterAll
      (ports : List (Vec PortView Global)) (members : List (StandingMember J)) : Type 0 where
    pub laid : AreLaid phase stood tables before
    pub told : ArePorts phase.setup members
    pub held :
        (number : ℕ) (one : StandingMember J) → slice_get members number ≡ Some one
        → IsStandingMember verdict phase exports stood number one
    pub ports_are : AreOfEach IsPortOf tables ports
    pub ports_count : length ports ≡ length members
    pub cursors_are : AreOfEach IsCursorOf tables cursors
    pub cursors_count : length cursors ≡ length (channels phase.setup)

module _ {J P : Type 0} (terms : P → PhaseTerms) (exports : P → ℕ → Exports) (rules : P → Rules)
    (played : P) (stood : List StandingTable) (tables : List TableView) where
  -- these protocols have entered a room of these tables
  pub record AreEntered (members : List (StandingMember J)) (begun : Begun J P) : Type 0 where
    pub begun_is : IsBegun terms exports rules begun
    pub played_is : begun.room.played.value ≡ played
    pub tables_are : begun.room.tables.items ≡ tables
    pub hands : length begun.hands.items ≡ (terms played).starter + 1
    pub members_are :
        Pairs (IsOpenMember terms exports rules played stood) 0 members begun.room.members.items

-- the cursors of channels whose protocols come from a number on are as they were
pub record AreLaterCursors (setup : Setup) (number : ℕ) (old new : List (Vec CursorView Global))
    : Type 0 where
  pub count : length new ≡ length old
  pub each :
      (place : ℕ) (channel : Channel) → channel_at setup place ≡ Some channel
      → number ≤ channel.owner → slice_get new place ≡ slice_get old place

-- ---- actors

-- the actor of a number has the hands and the passes of its place, and was told nothing
pub record IsSeated
    (hands : List (Vec HandView Global)) (passes : List (Vec PassView Global)) (number : ℕ)
    (actor : Actor) : Type 0 where
  pub number_is : actor.number ≡ number
  pub hands_are : slice_get hands number ≡ Some actor.hands
  pub passes_are : slice_get passes number ≡ Some actor.passes
  pub untold : actor.replies.items ≡ []
