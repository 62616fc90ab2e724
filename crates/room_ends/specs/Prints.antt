-- What is printed of a phase that threads have played (`Prints`): by table its entries and the rows
-- that they leave, by protocol of either kind its operations and what it has come to, by channel what
-- its log has more and what stands, and by actor what it was told.
-- Printed lists are read backwards; all others are in their order.
-- Not modelled: names, and in which order a report has all this.
-- From: own.
-- Example: of a phase of one `add` over an empty table one operation, one entry and one row are
-- printed.
use Rattle.std.specs.Prelude.{◌≡◌, ◌++◌, ◌∷◌, ℕ, List, [], length, map, reverse, Some, slice_get}
use Rattle.std.specs.List.{All}
use Rattle.attrs.specs.Table.{Shows}
use Rattle.export_core.specs.Histories.{change_of}
use Rattle.export_core.specs.Standing.{is_open, standing_at}
use Rattle.export_core.specs.States.{State}
use Rattle.export_core.specs.declared.log.Key.{Key}
use Rattle.import_core.specs.declared.step.Done.{Done}
use Rattle.core_machine.specs.Histories.{content_of, front}
use Rattle.core_machine.specs.Legal.{Joined, Printed, join}
use Rattle.core_machine.specs.Lines.{Line, Turn, ops_of}
use Rattle.core_machine.specs.Replies.{replies_to}
use Rattle.core_setup.specs.Channels.{Channel, channel_at}
use Rattle.core_setup.specs.Protocols.{pipe_mode, rules_of}
use Rattle.core_setup.specs.Reports.{dones}
use Rattle.core_setup.specs.Setup.{Setup}
use Rattle.show_route.specs.declared.query.Query.{Query}
use Rattle.import_lock.specs.declared.state.OpRecord.{OpRecord}
use Rattle.phase_legal.specs.Turns.{line_at, turn_in}
use Rattle.table_shared.specs.declared.close.Phase.{Phase}
use Rattle.phase_actors.specs.Acting.{replies_of}
use Rattle.phase_actors.specs.Texts.{IsAnswer}
use Rattle.phase_actors.specs.declared.actor.Told.{Told}
use Rattle.phase_close.specs.declared.seats.SessionEnded.{SessionEnded}
use Rattle.pipe_close.specs.declared.end.PipeEnded.{PipeEnded}
use Rattle.room_ends.specs.declared.ended.MemberEnded.{MemberEnded}
use Rattle.room_ends.specs.declared.ended.MemberEnded.TheVariants.{Own, Pipe}
use Rattle.room_ends.specs.declared.played.PlayedRoom.{PlayedRoom}

-- an operation by its record, with who asked for it: that of its line among the phase's
abbrev pub turn_of_record : List Line → OpRecord → Turn
turn_of_record lines r = turn_in (line_at lines r.line)

abbrev pub done_of : List Line → OpRecord → Done
done_of lines r = record { op = (turn_of_record lines r).op; over = r.over }

module _ (setup : Setup) (lines : List Line) (past : Joined) (p : Printed) where
  pub record PrintsTable (t : ℕ) (phase : Phase) : Type 0 where
    pub from_is : phase.from ≡ length (past.history t)
    pub entries : p.entries t ≡ reverse (map change_of phase.entries)
    pub rows : Shows phase.rib.rows (p.shown.rows t)

  pub record PrintsChannel {J : Type 0} (c : ℕ) (exporter : State J) : Type 0 where
    pub items : reverse exporter.log ≡ p.items c ++ past.logs c
    pub up : p.shown.up c ≡ is_open exporter.log
    pub standing : (k : Key) → p.shown.standing c k ≡ standing_at k exporter.log

  -- its operations, and with who asked for them
  pub record PrintsOps (i : ℕ) (ops : List OpRecord) : Type 0 where
    pub dones :
        reverse (dones (rules_of setup) i (ops_of (past.ops i)) (ops_of (p.ops i)))
        ≡ map (done_of lines) ops
    pub turns : p.ops i ≡ reverse (map (turn_of_record lines) ops)

  pub record PrintsSession {J : Type 0} (i : ℕ) (session : SessionEnded J) : Type 0 where
    pub ops : PrintsOps i session.ops.items
    pub mode : p.shown.modes i ≡ session.importer.imports.mode
    pub accepted : p.shown.accepted i ≡ length session.importer.imports.accepted
    pub channels :
        (c : ℕ) (channel : Channel) (exporter : State J) → channel_at setup c ≡ Some channel
        → channel.owner ≡ i → session.exporter ≡ Some exporter → PrintsChannel c exporter

  -- of a pipe whether it is up, and what its directions have more, under their numbers
  pub record PrintsPipe {J : Type 0} (i : ℕ) (pipe : PipeEnded J) : Type 0 where
    pub ops : PrintsOps i pipe.ops.items
    pub mode : p.shown.modes i ≡ pipe_mode pipe.up
    pub accepted : p.shown.accepted i ≡ 0
    pub out_number : ℕ
    pub back_number : ℕ
    pub belong : (rules_of setup).belong i ≡ out_number ∷ back_number ∷ []
    pub out : PrintsChannel out_number pipe.out
    pub back : PrintsChannel back_number pipe.back

  abbrev pub PrintsMember : {J : Type 0} → ℕ → MemberEnded J → Type 0
  PrintsMember i (Own session) = PrintsSession i session
  PrintsMember i (Pipe pipe) = PrintsPipe i pipe

  -- an actor was told the answer to a query, over the query's table as it stood at the position
  pub record PrintsText (told : Told) : Type 0 where
    pub query : Query
    pub query_is : slice_get setup.queries told.query ≡ Some query
    pub table_is : told.table ≡ query.table
    pub text :
        IsAnswer setup query (content_of (front told.at ((join past p).history told.table)))
        told.text.items

  pub record PrintsReplies (actor : ℕ) (told : List Told) : Type 0 where
    pub replies : replies_to actor p.replies ≡ replies_of actor told
    pub texts : All PrintsText told

  pub record Prints {J : Type 0} (made : PlayedRoom J) : Type 0 where
    pub tables :
        (t : ℕ) (phase : Phase) → slice_get made.ended.phases.items t ≡ Some phase
        → PrintsTable t phase
    pub members :
        (i : ℕ) (member : MemberEnded J) → slice_get made.ended.members.items i ≡ Some member
        → PrintsMember i member
    pub replies :
        (actor : ℕ) (told : List Told)
        → slice_get (map (λ list. list.items) made.told.items) actor ≡ Some told
        → PrintsReplies actor told
    -- by table, protocol and actor there is one of each
    pub tables_count : length made.ended.phases.items ≡ length setup.tables
    pub members_count : length made.ended.members.items ≡ length setup.protocols
