-- The protocols of a phase in a room (`IsRoom`): a member is the protocol of its number, of the phase,
-- over the room's tables; it has routes of its own or is a pipe (`IsMember`). A room as actors know it
-- has its journals alone (`room_seen`). Which lines a hand may record for a member (`MayRecord`).
-- Not modelled: who serves channels and directions.
-- From: BIRD User's Guide, "Pipe"; rooms are own.
-- Example: the room of a phase of one BGP protocol and a pipe has two members, over two tables.
use Rattle.std.specs.Prelude.{◌≡◌, ℕ, List, map, Some, slice_get}
use Rattle.atomic_table.specs.Seated.{TableId}
use Rattle.core_machine.specs.Rules.{Rules}
use Rattle.core_setup.specs.Protocols.{rules_of}
use Rattle.core_setup.specs.Setup.{Exports}
use Rattle.import_core.specs.declared.operation.Op.{Op}
use Rattle.import_lock.specs.Terms.{IsLineOf, PhaseTerms}
use Rattle.jour_rule.specs.declared.views.Terms.{Terms}
use Rattle.jour.specs.Seats.{journal}
use Rattle.phase_legal.specs.Shown.{AreBeside, PassView, Room as Journals}
use Rattle.phase_pipes.specs.Sessions.{IsPipeSession, back_terms, out_terms, pipe_terms}
use Rattle.phase_pipes.specs.Sources.{AreSourcesOf}
use Rattle.phase_room.specs.Sessions.{IsSession, channel_terms, protocol_terms}
use Rattle.pipe_lock.specs.Terms.{IsLineOf as IsPipeLineOf}
use Rattle.table_shared.specs.Opening.{TableOpening}
use Rattle.room_members.specs.declared.member.Member.{Member}
use Rattle.room_members.specs.declared.member.Member.TheVariants.{Own, Pipe}
use Rattle.room_members.specs.declared.room.Room.{Room}

module _ {J P : Type 0} (terms : P → PhaseTerms) where
  -- the journal of its turns
  abbrev pub turns_of : Member J P → TableId × Terms ℕ
  turns_of (Own session) = (protocol_terms terms session).turns
  turns_of (Pipe pipe) = (pipe_terms terms pipe).turns

  -- The number of its ports among those of their tables. A pipe's are of its number.
  abbrev pub port_of : Member J P → ℕ
  port_of (Own session) = (protocol_terms terms session).port_number
  port_of (Pipe pipe) = (pipe_terms terms pipe).number

  -- the line at a place is one that the hand of this number may record for it
  abbrev pub MayRecord : Member J P → (hand place : ℕ) → Op → Type 0
  MayRecord (Own session) hand place op =
      IsLineOf (protocol_terms terms session) hand place op
  MayRecord (Pipe pipe) hand place op = IsPipeLineOf (pipe_terms terms pipe) hand place op

  -- the room's journals, and the phase's lines and turns before it
  abbrev pub room_seen : Room J P → Journals
  room_seen room = record {
    rules = rules_of (terms room.played.value).setup;
    lines = (terms room.played.value).lines;
    past = (terms room.played.value).past;
    turns = map turns_of room.members.items;
    ports = map port_of room.members.items;
    tables = room.tables.items;
  }

  module _ (exports : P → ℕ → Exports) (rules : P → Rules) where
    -- the protocol of a number in a phase, over these tables
    abbrev pub IsMember :
        PhaseTerms → List (TableId × Terms TableOpening) → (number : ℕ) → Member J P → Type 0
    IsMember phase tables number (Own session) =
        IsSession phase tables number session.table (protocol_terms terms session)
        (channel_terms exports session)
    IsMember phase tables number (Pipe pipe) =
        IsPipeSession phase tables number pipe.primary pipe.peer (pipe_terms terms pipe)
        (out_terms exports rules pipe) (back_terms exports rules pipe)

    pub record IsRoom (room : Room J P) : Type 0 where
      pub sources : AreSourcesOf (terms room.played.value).setup room.sources.items
      pub members :
          (number : ℕ) (member : Member J P)
          → slice_get room.members.items number ≡ Some member
          → IsMember (terms room.played.value) room.tables.items number member

-- a pass of each table
abbrev pub ArePasses : List (TableId × Terms TableOpening) → List PassView → Type 0
ArePasses tables passes =
    AreBeside (λ (t : TableId × Terms TableOpening) (pass : PassView). journal pass ≡ t) tables
    passes
