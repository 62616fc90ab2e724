-- The log of each channel of a phase that was played is one that it may have, and once its exporter is
-- at rest at the end of the table that it reads it is settled.
use Rattle.std.proofs.Common.{◌≡◌, ℕ, ◌+◌, ◌≤◌, Bool, true, false, List, [], ◌∷◌, ◌++◌, length, map, reverse, Option, Some, None, sym, ap, subst, ◌∙◌, arith, append-nil, length-append, is_some}
use Rattle.std.specs.Prelude.{◌==◌, IfSome, IsSome, slice_get}
use Rattle.std.proofs.lemmas.Bool.{false≢true}
use mathlib.Core.List.{IsPrefix}
use Rattle.atomic_table.specs.Seated.{TableId}
use Rattle.attrs.specs.declared.journal.JEntry.{JEntry}
use Rattle.attrs.specs.declared.route.Change.{Change}
use Rattle.attrs.specs.declared.route.Route.{Route}
use Rattle.bits_ip.specs.Prefix.{Net}
use Rattle.export_core.specs.Histories.{course_of as told_course}
use Rattle.export_core.specs.Logs.{Follows, Settled, stretch}
use Rattle.export_core.specs.Marks.{find}
use Rattle.export_core.specs.Passing.{value_by}
use Rattle.export_core.specs.States.{StandsFor, State, value_for}
use Rattle.export_core.specs.declared.log.Key.{Key}
use Rattle.export_core.specs.declared.log.LogItem.{LogItem}
use Rattle.export_core.specs.declared.passing.ExportSpec.{ExportSpec}
use Rattle.export_core.proofs.Stretches.{settles}
use Rattle.jour_rule.specs.declared.views.Terms.{Terms}
use Rattle.jour.specs.Seats.{front}
use Rattle.core_machine.specs.Histories.{content_of, own}
use Rattle.core_machine.specs.Match.{IsSpecOf, TellChosen}
use Rattle.core_machine.specs.Pipes.{course_of}
use Rattle.core_machine.proofs.Contents.{content_own}
use Rattle.core_setup.specs.Channels.{Channel, channel_at}
use Rattle.core_setup.specs.Protocols.{exports_of as exports_set, exports_to, sources}
use Rattle.core_setup.specs.Setup.{Exports}
use Rattle.core_setup.proofs.PairLemmas.{get_one, get_within}
use Rattle.core_setup.proofs.Passed.{spec_is, value_is}
use Rattle.export_lock.specs.Kept.{IsExporting}
use Rattle.export_lock.specs.Terms.{BeginsWith, ExportTerms}
use Rattle.export_lock.specs.declared.state.ExportState.{ExportState}
use Rattle.export_lock.proofs.Histories.{begins_shorter}
use Rattle.table_shared.specs.Opening.{TableOpening}
use Rattle.table_shared.specs.Records.{AreRecords, at_first, change_of}
use Rattle.table_shared.proofs.Records.{as_many}
use Rattle.phase_close.specs.Whole.{entries_in}
use Rattle.phase_ends.specs.Ends.{AreSourced}
use Rattle.phase_ends.proofs.Chosen.{tells_chosen}
use Rattle.phase_ends.proofs.Leaving.{by_option, those_append}
use Rattle.phase_ends.proofs.Sending.{sends_follow, sends_settle}
use Rattle.phase_open.specs.declared.standing.StandingProtocol.{StandingProtocol}
use Rattle.phase_open.specs.declared.standing.StandingTable.{StandingTable}
use Rattle.room_open.specs.declared.standing.StandingMember.TheVariants as standing
use Rattle.room_open.specs.declared.standing.StandingPipe.{StandingPipe}
use Rattle.room_ends.specs.Synced.{IsSettled, end_of}
use Rattle.room_ends.specs.declared.ended.MemberEnded.TheVariants as ends
use Rattle.room_whole.proofs.Channelled.{IsOfChannel, IsOfDirection}
use Rattle.room_whole.proofs.Chosen.{IsOwnChoice, IsPipeChoice, all_of, choice, items_none, items_of, news_of}
use Rattle.room_whole.proofs.Directed.{direction_log, direction_reads}
use Rattle.room_whole.proofs.EndedTurns.{beyond}
use Rattle.room_whole.proofs.Given.{Given, entries_of, exports_of, key_of, lists_of, logs_of, rules_in, said_of, setup_of}
use Rattle.room_whole.proofs.Marking.{by_channel, joined_log, reads_is}
use Rattle.room_whole.proofs.Sourced.{sourced_both, sourced_records}
use Rattle.room_whole.proofs.Tabled.{IsOfTable, history_is, known_table, no_strangers, no_way}
use Rattle.room_whole.proofs.TablesAfter.{history_next, tells_all}

none_behind : {X : Type 0} (xs ys : List X) → xs ++ ys ≡ [] → ys ≡ []
none_behind [] ys e = e
none_behind (x ∷ xs) ys e = absurd (let bad : x ∷ (xs ++ ys) ≡ [] = e in cc)

module _ {J P : Type 0} (g : Given J P) where
  -- ---- a table's entries tell what the rules choose

  module _ (t : ℕ) (here : TableId × Terms TableOpening) (of : IsOfTable g t here) where
    abbrev pub all_said : List JEntry
    all_said = of.stood.before.items ++ said_of g t

    pub all_history : reverse (map change_of all_said) ≡ news_of g t ++ g.past.history t
    all_history = history_next of.stood.before.items (said_of g t) ∙ ap (λ (h : List Change). news_of g t ++ h) (sym (history_is g t here of))

    all_sourced : AreSourced (reverse (map change_of all_said))
    all_sourced =
        subst AreSourced (sym all_history)
        (sourced_both (news_of g t) (g.past.history t) (sourced_records here.1.opening (at_first here.1.opening) (entries_of g t) (said_of g t) of.records) (g.was.sound.sourced t))

    nothing_of : (num : ℕ) → length (setup_of g).protocols ≤ num → own num (reverse (map change_of all_said)) ≡ []
    nothing_of num far =
        let way = no_way g t num (get_within (setup_of g).tables t of.table of.table_at) far in
        ap (own num) all_history
        ∙ those_append (λ n. n == num) (news_of g t) (g.past.history t)
        ∙ (λ j. no_strangers g t num way j ++ g.was.sound.strangers t num way j)

    few_sources : (front back : List JEntry) → all_said ≡ front ++ back → (net : Net) (num : ℕ) → (rules_in g).protocols ≤ num → content_of (reverse (map change_of front)) net num ≡ None
    few_sources front back e net num far =
        let split : own num (reverse (map change_of back)) ++ own num (reverse (map change_of front)) ≡ [] =
        sym (those_append (λ n. n == num) (reverse (map change_of back)) (reverse (map change_of front)))
        ∙ ap (own num) (sym (history_next front back))
        ∙ ap (λ (l : List JEntry). own num (reverse (map change_of l))) (sym e)
        ∙ nothing_of num far in
        content_own net num (reverse (map change_of front))
        ∙ ap (λ h. content_of h net num) (none_behind (own num (reverse (map change_of back))) (own num (reverse (map change_of front))) split)

    pub all_chosen : TellChosen (rules_in g) all_said
    all_chosen =
        tells_chosen (rules_in g) all_said g.ruled (tells_all (setup_of g) t of.stood here of.begins of.standing.begun (entries_of g t) (said_of g t) of.records) all_sourced few_sources

    -- the position of the last entry
    pub all_end : here.1.start + length (entries_of g t) ≡ length all_said
    all_end =
        let count = as_many here.1.opening (at_first here.1.opening) (entries_of g t) (said_of g t) of.records in
        let both = length-append of.stood.before.items (said_of g t) in
        let start = ap (λ z. z.start) of.begins.terms_are in
        omega (arith, count, both, start)

  -- the position of a table's last entry, as its list tells
  pub list_end : (t : ℕ) (here : TableId × Terms TableOpening) (there : slice_get g.opening.room.tables.items t ≡ Some here) → end_of (slice_get (lists_of g) t) ≡ length (all_said t here (known_table g t here there))
  list_end t here there =
      by_option (slice_get (lists_of g) t) (end_of (slice_get (lists_of g) t) ≡ length (all_said t here (known_table g t here there)))
      (λ l at.
      let same : here ≡ l.0 = sym (g.played.synced.over.tables_are.each t here l there at) in
      ap end_of at ∙ (λ j. (sym same j).1.start + length (sym (ap entries_in at) j)) ∙ all_end t here (known_table g t here there))
      (λ none. absurd (let inside = get_within g.opening.room.tables.items t here there in let many = g.played.synced.over.tables_are.count in let far = beyond (lists_of g) t none in omega (arith, inside, many, far)))

  -- ---- a channel that has read the table

  -- Its exporter goes by what the rules say of it, stands for all entries of the table, and rests at
  -- their end where it is up.
  pub record HasRead (c : ℕ) (exporter : State J) : Type 0 where
    pub home : ℕ
    pub here : TableId × Terms TableOpening
    pub there : slice_get g.opening.room.tables.items home ≡ Some here
    pub reads : (rules_in g).reads c ≡ home
    pub log : items_of g c ++ logs_of g c ≡ reverse exporter.log
    pub goes_by : IsSpecOf (rules_in g) c exporter.spec
    pub sends : (k : Key) (r : Route) → value_for g.verdict exporter k r ≡ (rules_in g).value c k r
    pub stands : StandsFor g.verdict (told_course exporter.spec (all_said home here (known_table g home here there))) exporter
    pub rests : IsSettled (length (all_said home here (known_table g home here there))) exporter

  module _ (c : ℕ) (exporter : State J) (h : HasRead c exporter) where
    abbrev table : IsOfTable g h.home h.here
    table = known_table g h.home h.here h.there

    abbrev told_here : List JEntry
    told_here = all_said h.home h.here table

    history_here : reverse (map change_of told_here) ≡ (all_of g).history ((rules_in g).reads c)
    history_here = all_history h.home h.here table ∙ ap (all_of g).history (sym h.reads)

    follows_here : Follows ((rules_in g).value c) (course_of (rules_in g) c ((all_of g).history ((rules_in g).reads c))) ((all_of g).logs c)
    follows_here =
        subst (λ (z : List Change × List LogItem). Follows ((rules_in g).value c) (course_of (rules_in g) c z.0) z.1) (λ j. (history_here j, sym h.log j))
        (sends_follow g.verdict (rules_in g) c told_here exporter g.ruled h.goes_by (all_chosen h.home h.here table) h.sends h.stands)

    settled_here : IsSome (stretch ((all_of g).logs c)) → Settled ((rules_in g).value c) (course_of (rules_in g) c ((all_of g).history ((rules_in g).reads c))) ((all_of g).logs c)
    settled_here up =
        let rest = h.rests (subst (λ (l : List LogItem). is_some (stretch l) ≡ true) h.log up) in
        subst (λ (z : List Change × List LogItem). Settled ((rules_in g).value c) (course_of (rules_in g) c z.0) z.1) (λ j. (history_here j, sym h.log j))
        (sends_settle g.verdict (rules_in g) c told_here exporter g.ruled h.goes_by (all_chosen h.home h.here table) h.sends h.stands
        (λ d end stands. settles (value_for g.verdict exporter) d exporter (length told_here) rest (λ k. ap (find k) rest.unmarked) rest.stays end stands))

  -- ---- what lies under a lock has read it

  module _ (c : ℕ) (channel : Channel) (at : channel_at (setup_of g) c ≡ Some channel) (every : Bool) (lock : ExportTerms) (state : ExportState J) (o : IsExporting g.verdict every lock state) (passes : lock.exports ≡ exports_set (setup_of g) c channel) where
    spec_here : state.exporter.spec ≡ (exports_set (setup_of g) c channel).spec
    spec_here = o.spec ∙ ap (λ (x : Exports). x.spec) passes

    filter_here : g.verdict state.exporter.judge ≡ (exports_set (setup_of g) c channel).filter
    filter_here = o.filter ∙ ap (λ (x : Exports). x.filter) passes

    goes_by_rules : IsSpecOf (rules_in g) c state.exporter.spec
    goes_by_rules = subst (IsSpecOf (rules_in g) c) (sym spec_here) (spec_is (setup_of g) g.stands.setup g.ruled.ways c channel at)

    sends_by_rules : (k : Key) (r : Route) → value_for g.verdict state.exporter k r ≡ (rules_in g).value c k r
    sends_by_rules k r = (λ j. value_by (spec_here j) (filter_here j) k r) ∙ value_is (setup_of g) g.stands.setup g.ruled.ways c channel at k r

    module _ (home : ℕ) (here : TableId × Terms TableOpening) (there : slice_get g.opening.room.tables.items home ≡ Some here) (reads : lock.table ≡ here) (seen : IsPrefix (front state.cursor.0.1) (entries_of g home))
        (stood : StandingTable) (stood_at : slice_get g.old.tables.items home ≡ Some stood) (before : lock.before ≡ stood.before.items) where
      before_here : lock.before ≡ (known_table g home here there).stood.before.items
      before_here = before ∙ ap (λ (z : StandingTable). z.before.items) (get_one g.old.tables.items home stood (known_table g home here there).stood stood_at (known_table g home here there).stood_at)

      begins : BeginsWith lock (front state.cursor.0.1) (lock.before ++ said_of g home)
      begins = begins_shorter lock (front state.cursor.0.1) (entries_of g home) (lock.before ++ said_of g home) seen (record {
        said = said_of g home;
        records = subst (λ (z : TableOpening). AreRecords z (at_first z) (entries_of g home) (said_of g home)) (sym (ap (λ (z : TableId × Terms TableOpening). z.1.opening) reads)) (known_table g home here there).records;
        begins = ([], append-nil (lock.before ++ said_of g home));
      })

      stands_by : StandsFor g.verdict (told_course state.exporter.spec (all_said home here (known_table g home here there))) state.exporter
      stands_by =
          subst (λ (z : ExportSpec × List JEntry). StandsFor g.verdict (told_course z.0 z.1) state.exporter) (λ j. (sym o.spec j, before_here j ++ said_of g home))
          (o.stands (lock.before ++ said_of g home) begins)

      has_read : (rules_in g).reads c ≡ home → items_of g c ++ logs_of g c ≡ reverse state.exporter.log → IsSettled (end_of (slice_get (lists_of g) home)) state.exporter → HasRead c state.exporter
      has_read of log rests = record {
        home = home;
        here = here;
        there = there;
        reads = of;
        log = log;
        goes_by = goes_by_rules;
        sends = sends_by_rules;
        stands = stands_by;
        rests = subst (λ n. IsSettled n state.exporter) (list_end home here there) rests;
      }

  pub own_read : (c : ℕ) (channel : Channel) → channel_at (setup_of g) c ≡ Some channel → (held : StandingProtocol J) → slice_get g.old.members.items channel.owner ≡ Some (standing.Own held) → (mine : IsOwnChoice g channel.owner held (choice g channel.owner)) → (of : IsOfChannel g c channel held mine.facts) → HasRead c of.exporter
  own_read c channel at held held_at mine of =
      let f = mine.facts in
      let key = key_of g f.session in
      let passes : exports_set (setup_of g) c channel ≡ channel.exports = ap (λ (o : Option ℕ). exports_to o (sources (setup_of g) c) channel.exports) of.target in
      let settled = subst (λ o. IfSome o (IsSettled (end_of (slice_get (lists_of g) f.ended.table)))) of.exporter_is (g.played.synced.settled channel.owner (ends.Own f.ended) f.ended_at) in
      subst (HasRead c) (sym of.ended.exporter_is)
      (has_read c channel at false of.lock of.ended.state of.ended.left.exports (of.begins.exports_are ∙ of.standing.exports_are ∙ sym passes) f.session.table key.port f.is.table of.together.table of.ended.heard.seen of.begins.stood
      (ap (slice_get g.old.tables.items) f.begins.table ∙ of.begins.stood_is) of.begins.before (reads_is g c channel at held held_at mine of) (joined_log g c channel at held held_at mine of ∙ ap (λ (e : State J). reverse e.log) of.ended.exporter_is)
      (subst (λ (z : ℕ × State J). IsSettled (end_of (slice_get (lists_of g) z.0)) z.1) (λ j. (f.table j, of.ended.exporter_is j)) settled))

  pub direction_read : (c : ℕ) (channel : Channel) → channel_at (setup_of g) c ≡ Some channel → (held : StandingPipe J) → slice_get g.old.members.items channel.owner ≡ Some (standing.Pipe held) → (mine : IsPipeChoice g channel.owner held (choice g channel.owner)) → (of : IsOfDirection g c channel held mine.facts) → HasRead c of.exporter
  direction_read c channel at held held_at mine of =
      subst (HasRead c) (sym of.ended.exporter_is)
      (has_read c channel at true of.lane.exports of.ended.state.state of.ended.left.lane_is.1.direction.exporting (of.begins.exports_are ∙ ap (exports_of g) of.number ∙ of.exports_are) of.reads of.door.table of.is.read of.is.lane_is.table
      of.ended.heard.seen of.begins.stood of.begins.stood_is of.begins.before (direction_reads g c channel at held held_at mine of) (direction_log g c channel at held held_at mine of ∙ ap (λ (e : State J). reverse e.log) of.ended.exporter_is)
      (subst (IsSettled (end_of (slice_get (lists_of g) of.reads))) of.ended.exporter_is of.settled))

  -- ---- all of them

  pub follows : (c : ℕ) → Follows ((rules_in g).value c) (course_of (rules_in g) c ((all_of g).history ((rules_in g).reads c))) ((all_of g).logs c)
  follows c =
      by_channel g c (Follows ((rules_in g).value c) (course_of (rules_in g) c ((all_of g).history ((rules_in g).reads c))) ((all_of g).logs c)) (λ channel at held held_at mine of. follows_here c of.exporter (own_read c channel at held held_at mine of))
      (λ channel at held held_at mine of. follows_here c of.exporter (direction_read c channel at held held_at mine of))
      (λ none. subst (Follows ((rules_in g).value c) (course_of (rules_in g) c ((all_of g).history ((rules_in g).reads c)))) (λ j. sym (items_none g c none) j ++ sym (g.was.no_logs c none) j) tt)

  pub settled : (c : ℕ) → IsSome (stretch ((all_of g).logs c)) → Settled ((rules_in g).value c) (course_of (rules_in g) c ((all_of g).history ((rules_in g).reads c))) ((all_of g).logs c)
  settled c =
      by_channel g c (IsSome (stretch ((all_of g).logs c)) → Settled ((rules_in g).value c) (course_of (rules_in g) c ((all_of g).history ((rules_in g).reads c))) ((all_of g).logs c))
      (λ channel at held held_at mine of. settled_here c of.exporter (own_read c channel at held held_at mine of)) (λ channel at held held_at mine of. settled_here c of.exporter (direction_read c channel at held held_at mine of))
      (λ none up. absurd (nothing_up ((all_of g).logs c) (λ j. items_none g c none j ++ g.was.no_logs c none j) up))
    where
      nothing_up : (log : List LogItem) → log ≡ [] → IsSome (stretch log) → ⊥
      nothing_up [] e up = false≢true up
      nothing_up (x ∷ log) e up = let bad : x ∷ log ≡ [] = e in cc
