-- The marks of each channel of a phase that was played tell all that its protocol's operations signal,
-- and what each direction of a pipe has entered is what its log says.
use Rattle.std.proofs.Common.{◌≡◌, ℕ, List, [], ◌++◌, length, reverse, Some, None, sym, ap, subst, ◌∙◌, arith}
use Rattle.std.specs.Prelude.{◌==◌, slice_get}
use Rattle.attrs.proofs.Rows.{Contains-nothing}
use Rattle.attrs.specs.declared.journal.JEntry.{JEntry}
use Rattle.attrs.specs.declared.route.Change.{Change}
use Rattle.bits_ip.specs.declared.address.Family.TheVariants.{V4}
use Rattle.export_core.specs.States.{State}
use Rattle.export_core.specs.declared.log.LogItem.{LogItem}
use Rattle.import_core.specs.declared.operation.Op.{Op}
use Rattle.jour_rule.specs.Journal.{receipts}
use Rattle.jour_rule.specs.declared.views.Entry.{Entry}
use Rattle.core_machine.specs.Histories.{own}
use Rattle.core_machine.specs.Lines.{Turn, ops_of}
use Rattle.core_machine.specs.Rules.{changes}
use Rattle.core_machine.specs.Signals.{AreSignals, notices, without_sends}
use Rattle.core_setup.specs.Channels.{Channel, channel_at, owner_at, reads_at, target_at}
use Rattle.core_setup.proofs.Numbered.{beyond_none, none_some, some_same}
use Rattle.table_shared.specs.Opening.{TableOpening}
use Rattle.table_shared.specs.Records.{AreRecords, at_first}
use Rattle.import_lock.specs.Terms.{past_ops}
use Rattle.phase_legal.specs.Changes.{AreMade, IsAlone}
use Rattle.phase_legal.specs.Stamps.{AreFrom, AreStamps, HasPort, notices_from}
use Rattle.phase_legal.specs.Turns.{turns_told}
use Rattle.phase_close.proofs.Making.{is_marked}
use Rattle.phase_ends.specs.Leaves.{HasEntered, IsMarked}
use Rattle.phase_ends.proofs.Leaving.{by_option}
use Rattle.phase_open.specs.declared.standing.StandingProtocol.{StandingProtocol}
use Rattle.room_open.specs.declared.standing.StandingMember.TheVariants as standing
use Rattle.room_open.specs.declared.standing.StandingPipe.{StandingPipe}
use Rattle.room_ends.specs.declared.ended.MemberEnded.TheVariants as ends
use Rattle.room_whole.proofs.Channelled.{IsOfChannel, IsOfDirection, by_owner, channel_of, direction_of}
use Rattle.room_whole.proofs.Choose.{chosen_none}
use Rattle.room_whole.proofs.Chosen.{Choice, IsChoice, IsOwnChoice, IsPipeChoice, choice, choose, items_at, items_none, items_of, made_is, made_of, no_choice, own_choice, pipe_choice, printed_more, turns_are, turns_of}
use Rattle.room_whole.proofs.Directed.{direction_entered, direction_marked, direction_writes}
use Rattle.room_whole.proofs.Given.{Given, entries_of, key_of, lines_of, logs_of, phase_of, rules_in, said_of, seen_of, setup_of}
use Rattle.room_whole.proofs.Protocolled.{room_of}
use Rattle.room_whole.proofs.Tabled.{entries_none, known_table, no_table, said_none, table_starts}

module _ {J P : Type 0} (g : Given J P) where
  abbrev pub Marked : ℕ → List (ℕ × Change) → Type 0
  Marked c made = IsMarked (seen_of g) g.past.history (logs_of g) (entries_of g) (said_of g) (printed_more g) c made

  -- ---- a channel to a neighbour

  module _ (c : ℕ) (channel : Channel) (at : channel_at (setup_of g) c ≡ Some channel) (held : StandingProtocol J) (held_at : slice_get g.old.members.items channel.owner ≡ Some (standing.Own held)) (mine : IsOwnChoice g channel.owner held (choice g channel.owner))
      (of : IsOfChannel g c channel held mine.facts) where
    owner_is : (rules_in g).owner c ≡ channel.owner
    owner_is = ap (owner_at (length (setup_of g).protocols)) at

    pub reads_is : (rules_in g).reads c ≡ mine.facts.session.table
    reads_is = ap (reads_at (length (setup_of g).tables)) at ∙ of.reads

    no_target : (rules_in g).target c ≡ None
    no_target = ap target_at at ∙ of.target

    stood_log : logs_of g c ≡ reverse of.stood.exporter.log
    stood_log = ap (logs_of g) (sym of.number) ∙ g.was.logs_are channel.owner (standing.Own held) of.stood held_at of.stood_is

    logs_are : logs_of g c ≡ of.lock.log
    logs_are = stood_log ∙ sym of.begins.log

    pub joined_log : items_of g c ++ logs_of g c ≡ reverse of.exporter.log
    joined_log =
        ap (λ (l : List LogItem). items_of g c ++ l) stood_log
        ∙ items_at g c channel at (standing.Own held) of.stood (ends.Own mine.facts.ended) of.exporter held_at mine.facts.ended_at (of.stood_is, of.exporter_is) of.number

    past_is : ops_of (g.past.ops channel.owner) ≡ past_ops (key_of g mine.facts.session)
    past_is =
        ap (λ (f : ℕ → List Turn). ops_of (f channel.owner)) (sym g.same_past)
        ∙ (λ j. ops_of ((sym mine.facts.is.phase_is j).past (sym mine.facts.is.number_is j)))

    start_here : (key_of g mine.facts.session).port.1.start ≡ length (g.past.history ((rules_in g).reads c))
    start_here =
        let f = mine.facts in
        table_starts g f.session.table (key_of g f.session).port (known_table g f.session.table (key_of g f.session).port f.is.table) ∙ ap (λ t. length (g.past.history t)) (sym reads_is)

    port_here : HasPort (rules_in g) c (past_ops (key_of g mine.facts.session)) (g.past.history ((rules_in g).reads c)) (key_of g mine.facts.session).port.1.opening (entries_of g ((rules_in g).reads c)) (said_of g ((rules_in g).reads c)) mine.facts.done.made
    port_here =
        let f = mine.facts in
        let key = key_of g f.session in
        let opening : TableOpening = key.port.1.opening in
        let owner : key.number ≡ (rules_in g).owner c = f.is.number_is ∙ sym owner_is in
        let home : (rules_in g).reads c ≡ (rules_in g).table channel.owner = reads_is ∙ sym f.is.home_is in
        record {
          port = key.port_number;
          alone = subst (λ n. IsAlone (λ num. num == n) opening key.port_number) owner f.done.imports.terms.alone;
          records = subst (λ t. AreRecords opening (at_first opening) (entries_of g t) (said_of g t)) (sym reads_is) (known_table g f.session.table key.port f.is.table).records;
          says =
              subst (λ z. AreMade z f.done.made)
              (sym ((λ j. receipts (sym start_here j) (sym f.done.imports.port_number j) (entries_of g (reads_is j))) ∙ f.done.retired.receipts))
              f.done.imports.says;
          exact = (λ j. own (owner_is j) (g.past.history (home j))) ∙ g.was.sound.exact channel.owner ∙ (λ j. changes (rules_in g) (sym owner_is j) (past_is j));
        }

    marked_here : Marked c (made_of g ((rules_in g).owner c))
    marked_here =
        let f = mine.facts in
        let key = key_of g f.session in
        let h = g.past.history ((rules_in g).reads c) in
        let was : ops_of (g.past.ops ((rules_in g).owner c)) ≡ past_ops key = ap (λ n. ops_of (g.past.ops n)) owner_is ∙ past_is in
        subst (Marked c) (sym (ap (made_of g) owner_is ∙ made_is g channel.owner held mine))
        (is_marked g.verdict (seen_of g) g.past.history (logs_of g) (entries_of g) (said_of g) (printed_more g) key (room_of g key.phase f.is.phase_is) f.done.list f.done.made of.lock of.ended.state c of.ended.left (owner_is ∙ sym f.is.number_is) no_target
        (ap (turns_of g) owner_is ∙ turns_are g channel.owner held mine) (joined_log ∙ ap (λ (e : State J). reverse e.log) of.ended.exporter_is) logs_are key.port.1.opening start_here port_here (g.was.sound.within c)
        (subst (λ l. AreSignals (rules_in g) h c (without_sends (logs_of g c)) (notices (rules_in g) ((rules_in g).owner c) l)) was (g.was.sound.signalled c)))

  -- ---- a channel that isn't there

  module _ (c : ℕ) (none : channel_at (setup_of g) c ≡ None) where
    no_owner : (rules_in g).owner c ≡ length (setup_of g).protocols
    no_owner = ap (owner_at (length (setup_of g).protocols)) none

    no_choice_there : choice g ((rules_in g).owner c) ≡ no_choice
    no_choice_there =
        let many = g.stands.count in
        let far = no_owner in
        chosen_none g.old.members.items (IsChoice g) no_choice (choose g) ((rules_in g).owner c) (beyond_none g.old.members.items ((rules_in g).owner c) (omega (arith, many, far)))

    no_reads : (rules_in g).reads c ≡ length (setup_of g).tables
    no_reads = ap (reads_at (length (setup_of g).tables)) none

    no_entries : entries_of g ((rules_in g).reads c) ≡ []
    no_entries = ap (entries_of g) no_reads ∙ entries_none g (length (setup_of g).tables) (no_table g)

    no_said : said_of g ((rules_in g).reads c) ≡ []
    no_said = ap (said_of g) no_reads ∙ said_none g (length (setup_of g).tables) (no_table g)

    abbrev bare : TableOpening
    bare = record { family = V4; rows = []; ports = [] }

    no_port : HasPort (rules_in g) c (ops_of ((phase_of g).past ((rules_in g).owner c))) (g.past.history ((rules_in g).reads c)) bare (entries_of g ((rules_in g).reads c)) (said_of g ((rules_in g).reads c)) []
    no_port =
        let o = (rules_in g).owner c in
        let far = no_owner in
        let reads = no_reads in
        record {
          port = 0;
          alone = record { mine = λ num w. absurd (Contains-nothing num w); alone = λ other num w same. absurd (Contains-nothing num w) };
          records = subst (λ (z : List Entry × List JEntry). AreRecords bare (at_first bare) z.0 z.1) (λ j. (sym no_entries j, sym no_said j)) tt;
          says = subst (λ l. AreMade (receipts (length (g.past.history ((rules_in g).reads c))) 0 l) []) (sym no_entries) tt;
          exact = ap (own o) (g.was.no_history ((rules_in g).reads c) (omega (arith, reads))) ∙ sym (g.ruled.absent o (ops_of ((phase_of g).past o)) (omega (arith, far)));
        }

    unmarked : Marked c (made_of g ((rules_in g).owner c))
    unmarked =
        let o = (rules_in g).owner c in
        let r = rules_in g in
        let past : List Op = ops_of ((phase_of g).past o) in
        let ops : ops_of (turns_of g o) ≡ [] = ap (λ (z : Choice). ops_of (turns_told (lines_of g) (z.begun ++ z.rest))) no_choice_there in
        let items : items_of g c ≡ [] = items_none g c none in
        subst (Marked c) (sym (ap (λ (z : Choice). z.made) no_choice_there))
        (record {
          opening = bare;
          port = λ _. no_port;
          behind = subst (λ l. AreFrom (length (g.past.history (r.reads c))) (without_sends l)) (sym items) tt;
          stamps = subst (λ (z : List LogItem × List Op). AreStamps r o past (r.target c) [] (without_sends z.0) (notices_from r o past z.1)) (λ j. (sym items j, sym ops j)) tt;
          within = g.was.sound.within c;
          before = subst (λ (f : ℕ → List Turn). AreSignals r (g.past.history (r.reads c)) c (without_sends (logs_of g c)) (notices r o (ops_of (f o)))) (sym g.same_past) (g.was.sound.signalled c);
        })

  -- ---- all of them

  -- a channel with its protocol's choice
  pub by_channel : (c : ℕ) (Q : Type 0)
      → ((channel : Channel) → channel_at (setup_of g) c ≡ Some channel → (held : StandingProtocol J) → slice_get g.old.members.items channel.owner ≡ Some (standing.Own held) → (mine : IsOwnChoice g channel.owner held (choice g channel.owner)) → IsOfChannel g c channel held mine.facts → Q)
      → ((channel : Channel) → channel_at (setup_of g) c ≡ Some channel → (held : StandingPipe J) → slice_get g.old.members.items channel.owner ≡ Some (standing.Pipe held) → (mine : IsPipeChoice g channel.owner held (choice g channel.owner)) → IsOfDirection g c channel held mine.facts → Q)
      → (channel_at (setup_of g) c ≡ None → Q) → Q
  by_channel c Q own direction none =
      by_option (channel_at (setup_of g) c) Q
      (λ channel at.
      by_owner g c channel at Q (λ held held_at. let mine = own_choice g channel.owner held held_at in own channel at held held_at mine (channel_of g c channel at held mine.facts))
      (λ held held_at. let mine = pipe_choice g channel.owner held held_at in direction channel at held held_at mine (direction_of g c channel at held mine.facts)))
      none

  pub marked : (c : ℕ) → Marked c (made_of g ((rules_in g).owner c))
  marked c =
      by_channel c (Marked c (made_of g ((rules_in g).owner c))) (marked_here c) (λ channel at held held_at mine of. direction_marked g c channel at held held_at mine of (made_of g ((rules_in g).owner c))) (unmarked c)

  abbrev Entered : ℕ → ℕ → Type 0
  Entered d table = HasEntered (seen_of g) g.past.history (logs_of g) (entries_of g) (said_of g) (printed_more g) d table

  -- what writes a table is a direction of a pipe
  pub entered : (d table : ℕ) → (rules_in g).target d ≡ Some table → Entered d table
  entered d table writes =
      by_channel d (Entered d table) (λ channel at held held_at mine of. none_some (sym (no_target d channel at held held_at mine of) ∙ writes))
      (λ channel at held held_at mine of.
      subst (Entered d) (some_same (sym (direction_writes g d channel at held held_at mine of) ∙ writes)) (direction_entered g d channel at held held_at mine of))
      (λ none. none_some (sym (ap target_at none) ∙ writes))
