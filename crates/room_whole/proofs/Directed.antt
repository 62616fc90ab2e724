-- The marks of each direction of a pipe of a phase that was played tell all that the pipe's operations
-- signal, and its port has entered what its log says.
use Rattle.std.proofs.Common.{◌≡◌, ℕ, inl, inr, List, ◌++◌, length, reverse, Some, sym, ap, subst, ◌∙◌}
use Rattle.std.specs.Prelude.{slice_get}
use Rattle.attrs.specs.declared.route.Change.{Change}
use Rattle.export_core.specs.States.{State}
use Rattle.export_core.specs.declared.log.LogItem.{LogItem}
use Rattle.import_core.specs.declared.operation.Op.{Op}
use Rattle.core_machine.specs.Lines.{Turn, ops_of}
use Rattle.core_machine.specs.Signals.{AreSignals, notices, without_sends}
use Rattle.core_setup.specs.Channels.{Channel, channel_at, owner_at}
use Rattle.core_setup.specs.Protocols.{rules_of}
use Rattle.export_lock.proofs.Marking.{stamps_marks}
use Rattle.import_lock.specs.Kept.{items_of_stamp}
use Rattle.import_lock.specs.Terms.{PhaseTerms}
use Rattle.pipe_lock.specs.Terms.{PipeTerms, ops_told, past_ops}
use Rattle.phase_legal.specs.Turns.{turns_told}
use Rattle.phase_pipes.proofs.Owing.{has_entered, is_marked}
use Rattle.phase_ends.specs.Leaves.{HasEntered, IsMarked}
use Rattle.room_open.specs.declared.standing.StandingMember.TheVariants as standing
use Rattle.room_open.specs.declared.standing.StandingPipe.{StandingPipe}
use Rattle.room_ends.specs.declared.ended.MemberEnded.TheVariants as ends
use Rattle.room_whole.specs.Past.{IsChannelOf}
use Rattle.room_whole.proofs.Channelled.{IsOfDirection}
use Rattle.room_whole.proofs.Chosen.{IsPipeChoice, choice, items_at, items_of, pipe_turns_are, printed_more, turns_of}
use Rattle.room_whole.proofs.Given.{Given, entries_of, logs_of, pipe_of, rules_in, said_of, seen_of, setup_of}
use Rattle.room_whole.proofs.Protocolled.{room_of}
use Rattle.room_whole.proofs.Tabled.{known_table, table_starts}

module _ {J P : Type 0} (g : Given J P) (c : ℕ) (channel : Channel) (at : channel_at (setup_of g) c ≡ Some channel) (held : StandingPipe J) (held_at : slice_get g.old.members.items channel.owner ≡ Some (standing.Pipe held)) (own_choice : IsPipeChoice g channel.owner held (choice g channel.owner))
    (of : IsOfDirection g c channel held own_choice.facts) where
  abbrev key : PipeTerms
  key = pipe_of g own_choice.facts.session

  abbrev number : ℕ
  number = of.door.number

  setup_is : key.phase.setup ≡ setup_of g
  setup_is = ap (λ (z : PhaseTerms). z.setup) own_choice.facts.is.phase_is

  pub direction_reads : (rules_in g).reads c ≡ of.reads
  direction_reads = (λ j. (rules_of (sym setup_is j)).reads (sym of.door_is j)) ∙ of.is.reads_is

  pub direction_writes : (rules_in g).target c ≡ Some of.writes
  direction_writes = (λ j. (rules_of (sym setup_is j)).target (sym of.door_is j)) ∙ of.is.writes_is

  is_channel : IsChannelOf (standing.Pipe held) of.stood
  is_channel = elim of.side [ inl out ↦ inl out.0 | inr back ↦ inr back.0 ]

  stood_log : logs_of g c ≡ reverse of.stood.exporter.log
  stood_log = ap (logs_of g) (sym of.number) ∙ g.was.logs_are channel.owner (standing.Pipe held) of.stood held_at is_channel

  pub direction_log : items_of g c ++ logs_of g c ≡ reverse of.exporter.log
  direction_log =
      ap (λ (l : List LogItem). items_of g c ++ l) stood_log
      ∙ items_at g c channel at (standing.Pipe held) of.stood (ends.Pipe own_choice.facts.ended) of.exporter held_at own_choice.facts.ended_at of.side of.number

  -- ---- by the number that the pipe's lock has of it

  all_log : items_of g number ++ logs_of g number ≡ reverse of.ended.state.state.exporter.log
  all_log = ap (λ n. items_of g n ++ logs_of g n) of.door_is ∙ direction_log ∙ ap (λ (e : State J). reverse e.log) of.ended.exporter_is

  log_before : logs_of g number ≡ of.lane.exports.log
  log_before = ap (logs_of g) of.door_is ∙ stood_log ∙ sym of.begins.log

  owner_here : (rules_in g).owner number ≡ channel.owner
  owner_here = ap (rules_in g).owner of.door_is ∙ ap (owner_at (length (setup_of g).protocols)) at

  owner_is : (rules_in g).owner number ≡ key.number
  owner_is = owner_here ∙ sym own_choice.facts.is.number_is

  past_is : ops_of (g.past.ops ((rules_in g).owner number)) ≡ past_ops key
  past_is =
      ap (λ (f : ℕ → List Turn). ops_of (f ((rules_in g).owner number))) (sym g.same_past)
      ∙ (λ j. ops_of ((sym own_choice.facts.is.phase_is j).past (owner_is j)))

  told_is : ops_of (turns_of g ((rules_in g).owner number)) ≡ ops_told key own_choice.facts.done.list
  told_is =
      ap (λ i. ops_of (turns_of g i)) owner_here
      ∙ ap ops_of (pipe_turns_are g channel.owner held own_choice)
      ∙ ap (λ (z : PhaseTerms). ops_of (turns_told z.lines own_choice.facts.done.list)) (sym own_choice.facts.is.phase_is)

  starts_here : of.door.table.1.start ≡ length (g.past.history ((rules_in g).reads number))
  starts_here =
      table_starts g of.reads of.door.table (known_table g of.reads of.door.table of.is.read)
      ∙ ap (λ t. length (g.past.history t)) (sym (ap (rules_in g).reads of.door_is ∙ direction_reads))

  tells : without_sends (reverse of.ended.state.state.exporter.log) ≡ items_of_stamp of.ended.stamp ++ without_sends of.lane.exports.log
  tells =
      let left = of.ended.left in
      stamps_marks g.verdict of.lane.exports of.ended.state.state of.ended.stamp left.lane_is.1.direction.exporting left.marked.number left.told left.makers

  pub direction_marked : (made : List (ℕ × Change)) → IsMarked (seen_of g) g.past.history (logs_of g) (entries_of g) (said_of g) (printed_more g) c made
  direction_marked made =
      subst (λ n. IsMarked (seen_of g) g.past.history (logs_of g) (entries_of g) (said_of g) (printed_more g) n made) of.door_is
      (is_marked g.verdict (seen_of g) g.past.history (logs_of g) (entries_of g) (said_of g) (printed_more g) key (room_of g key.phase own_choice.facts.is.phase_is) of.reads of.writes of.door of.lane of.is
      (ops_told key own_choice.facts.done.list) of.ended.stamp of.ended.state of.ended.left all_log log_before tells owner_is told_is made of.door.table.1.opening starts_here (g.was.sound.within number)
      (subst (λ (l : List Op). AreSignals (rules_in g) (g.past.history ((rules_in g).reads number)) number (without_sends (logs_of g number)) (notices (rules_in g) ((rules_in g).owner number) l)) past_is (g.was.sound.signalled number)))

  pub direction_entered : HasEntered (seen_of g) g.past.history (logs_of g) (entries_of g) (said_of g) (printed_more g) c of.writes
  direction_entered =
      subst (λ n. HasEntered (seen_of g) g.past.history (logs_of g) (entries_of g) (said_of g) (printed_more g) n of.writes) of.door_is
      (has_entered g.verdict (seen_of g) g.past.history (logs_of g) (entries_of g) (said_of g) (printed_more g) key (room_of g key.phase own_choice.facts.is.phase_is) of.reads of.writes of.door of.lane of.is
      (ops_told key own_choice.facts.done.list) of.ended.stamp of.ended.state of.ended.left all_log log_before (g.was.sound.entered number of.writes (ap (rules_in g).target of.door_is ∙ direction_writes)))
