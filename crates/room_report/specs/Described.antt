-- What must be told of a played phase that is reported (`IsDescribed`): the names and families of
-- tables, the names of protocols, as many actors as were told something or nothing, and by channel
-- how many items of its log were printed before the phase (`AreLogged`).
-- Not modelled: a pipe's tables, of which a report doesn't tell.
-- From: own.
-- Example: in the first phase of a protocol of BGP and a pipe all three channels have 0 items,
-- though the logs of the pipe's directions have begun.
use Rattle.std.specs.Prelude.{◌≡◌, ℕ, true, false, List, is_some, length, map, IfSome, Some, slice_get}
use Rattle.export_core.specs.Standing.{is_open}
use Rattle.export_core.specs.States.{State}
use Rattle.core_machine.specs.Legal.{Joined}
use Rattle.core_setup.specs.Channels.{Channel, channel_at}
use Rattle.core_setup.specs.Reports.{protocol_names}
use Rattle.core_setup.specs.Setup.{IsPipe, IsSource, Pipe as PlayedPipe, Protocol, Setup, Source}
use Rattle.sys_run.specs.Parts.{table_seen}
use Rattle.sys_run.specs.declared.parts.TableParts.{TableParts}
use Rattle.phase_close.specs.declared.seats.SessionEnded.{SessionEnded}
use Rattle.pipe_close.specs.declared.end.PipeEnded.{PipeEnded}
use Rattle.room_ends.specs.declared.ended.MemberEnded.{MemberEnded}
use Rattle.room_ends.specs.declared.ended.MemberEnded.TheVariants.{Own, Pipe}
use Rattle.room_ends.specs.declared.played.PlayedRoom.{PlayedRoom}

-- by channel how many items of its log were printed
abbrev pub AreLogged : Setup → Joined → List ℕ → Type 0
AreLogged setup past logged =
    (c : ℕ) (channel : Channel) → channel_at setup c ≡ Some channel
    → slice_get logged c ≡ Some (length (past.logs c))

module _ {J : Type 0} where
  -- what stands of a channel that is up isn't being withdrawn
  abbrev pub MayStand : State J → Type 0
  MayStand exporter = is_open exporter.log ≡ true → exporter.flushing ≡ false

  -- a protocol with routes of its own, and an exporter where it has a channel
  pub record IsSessionOf (protocol : Protocol) (session : SessionEnded J) : Type 0 where
    pub source : Source
    pub body : protocol.body ≡ IsSource source
    pub channel : is_some session.exporter ≡ is_some source.exports
    pub standing : IfSome session.exporter MayStand

  pub record IsPipeOf (protocol : Protocol) (pipe : PipeEnded J) : Type 0 where
    pub played : PlayedPipe
    pub body : protocol.body ≡ IsPipe played
    pub out : MayStand pipe.out
    pub back : MayStand pipe.back

  abbrev pub IsMemberOf : Protocol → MemberEnded J → Type 0
  IsMemberOf protocol (Own session) = IsSessionOf protocol session
  IsMemberOf protocol (Pipe pipe) = IsPipeOf protocol pipe

  pub record IsDescribed
      (setup : Setup) (tables : List TableParts) (names actors : List (List ℕ))
      (logged : List ℕ) (past : Joined) (made : PlayedRoom J) : Type 0 where
    pub tables_are : map table_seen tables ≡ setup.tables
    pub names_are : names ≡ protocol_names setup
    pub actors_count : length made.told.items ≡ length actors
    pub members :
        (i : ℕ) (protocol : Protocol) (member : MemberEnded J)
        → slice_get setup.protocols i ≡ Some protocol
        → slice_get made.ended.members.items i ≡ Some member → IsMemberOf protocol member
    pub logged_are : AreLogged setup past logged
