-- What was printed until behind a phase is as legal phases leave it, and what stands tells it.
use Rattle.std.proofs.Common.{◌≡◌, ℕ, ◌≤◌, inl, inr, List, [], ◌∷◌, ◌++◌, length, map, reverse, Option, Some, None, refl, sym, ap, subst, ◌∙◌, arith}
use Rattle.std.specs.Prelude.{slice_get}
use Rattle.attrs.specs.declared.attributes.Attrs.{Attrs}
use Rattle.attrs.specs.declared.journal.JEntry.{JEntry}
use Rattle.attrs.specs.declared.route.Route.{Route}
use Rattle.export_core.specs.Logs.{Course, Follows}
use Rattle.export_core.specs.States.{State}
use Rattle.export_core.specs.declared.log.Key.{Key}
use Rattle.export_core.specs.declared.log.LogItem.{LogItem}
use Rattle.export_core.specs.declared.log.LogItem.TheVariants.{Down, Reload, Sent, Up}
use Rattle.core_machine.specs.Legal.{IsLegal, Joined, Printed, join}
use Rattle.core_machine.specs.Lines.{Line, Turn}
use Rattle.core_machine.specs.Pipes.{course_of}
use Rattle.core_machine.specs.Rules.{Rules}
use Rattle.core_machine.specs.Signals.{without_sends}
use Rattle.core_setup.specs.Channels.{channel_at}
use Rattle.core_setup.proofs.Numbered.{beyond_none, none_some, some_same}
use Rattle.core_setup.proofs.PairLemmas.{get_here, get_within}
use Rattle.table_shared.specs.Records.{at_first, change_of}
use Rattle.table_shared.specs.declared.close.Phase.{Phase}
use Rattle.phase_legal.specs.Stamps.{AreUpTo}
use Rattle.phase_close.specs.Whole.{said_in}
use Rattle.phase_ends.specs.Ends.{AreSourced}
use Rattle.phase_ends.proofs.Leaving.{by_option}
use Rattle.phase_open.specs.declared.standing.StandingChannel.{StandingChannel}
use Rattle.phase_open.specs.declared.standing.StandingTable.{StandingTable}
use Rattle.room_open.specs.declared.standing.Standing.{Standing}
use Rattle.room_open.specs.declared.standing.StandingMember.{StandingMember}
use Rattle.room_open.specs.declared.standing.StandingMember.TheVariants as standing
use Rattle.room_ends.specs.declared.ended.MemberEnded.{MemberEnded}
use Rattle.room_ends.specs.declared.ended.MemberEnded.TheVariants as ends
use Rattle.room_ends.specs.After.{IsChannelAfter, IsMemberAfter, StandsAfter}
use Rattle.room_whole.specs.Past.{HasPast, IsChannelOf, IsSound}
use Rattle.room_whole.proofs.Channelled.{EndsWith}
use Rattle.room_whole.proofs.Chosen.{news_of, no_items, printed}
use Rattle.room_whole.proofs.Ended.{log_printed, many_ended, no_ops}
use Rattle.room_whole.proofs.Given.{Given, entries_of, rules_in, said_of, setup_of}
use Rattle.room_whole.proofs.Phased.{entries_printed, many_phases}
use Rattle.room_whole.proofs.Sourced.{sourced_both, sourced_records}
use Rattle.room_whole.proofs.Tabled.{known_table, said_none}
use Rattle.room_whole.proofs.TablesAfter.{history_next}

-- ---- ups stand within the history

up_within : (value : Key → Route → Option Attrs) (c : Course) (log : List LogItem) → Follows value c log → AreUpTo c.len (without_sends log)
up_within value c [] f = tt
up_within value c (Up h ∷ log) f = (f.1.2, up_within value c log f.0)
up_within value c (Down ∷ log) f = up_within value c log f.0
up_within value c (Reload ∷ log) f = up_within value c log f.0
up_within value c (Sent x ∷ log) f = up_within value c log f.0

stays_sound : (rules : Rules) (first : ℕ → List Turn) (past : Joined) (lines : List Line) (p : Printed) → IsLegal rules first past lines p → ((t : ℕ) → AreSourced (past.history t)) → ((t : ℕ) → AreSourced (p.entries t)) → IsSound rules (join past p)
stays_sound rules first past lines p legal were are = record {
  real = legal.real;
  exact = legal.exact;
  entered = legal.entered;
  strangers = legal.no_others;
  sourced = λ t. sourced_both (p.entries t) (past.history t) (are t) (were t);
  within = λ c. up_within (rules.value c) (course_of rules c ((join past p).history (rules.reads c))) ((join past p).logs c) (legal.follows c);
  signalled = legal.signalled;
}

-- nothing, and nothing more
no_more : {X : Type 0} (new old : List X) → new ≡ [] → old ≡ [] → new ++ old ≡ []
no_more new old none before = ap (λ l. l ++ old) none ∙ before

-- ---- a channel that stands stood before

module _ {J : Type 0} where
  pub record Stood (held : StandingMember J) (ended : MemberEnded J) (new : StandingChannel J) : Type 0 where
    pub stood : StandingChannel J
    pub state : State J
    pub with : EndsWith held stood ended state
    pub number : new.number ≡ stood.number
    pub exporter_is : new.exporter ≡ state

  -- what its own channel was
  record OwnStood (old : Option (StandingChannel J)) (exporter : Option (State J)) (new : StandingChannel J) : Type 0 where
    stood : StandingChannel J
    state : State J
    held_is : old ≡ Some stood
    state_is : exporter ≡ Some state
    number : new.number ≡ stood.number
    exporter_is : new.exporter ≡ state

  own_stood : (old : Option (StandingChannel J)) (exporter : Option (State J)) (now : Option (StandingChannel J)) (new : StandingChannel J) → now ≡ Some new → IsChannelAfter old exporter now → OwnStood old exporter new
  own_stood None exporter None new at is = none_some at
  own_stood (Some held) None None new at is = none_some at
  own_stood (Some held) (Some state) None new at is = none_some at
  own_stood None None (Some now) new at is = absurd is
  own_stood None (Some state) (Some now) new at is = absurd is
  own_stood (Some held) None (Some now) new at is = absurd is
  own_stood (Some held) (Some state) (Some now) new at is = record {
    stood = held;
    state = state;
    held_is = refl;
    state_is = refl;
    number = ap (λ (z : StandingChannel J). z.number) (sym (some_same at)) ∙ is.number;
    exporter_is = ap (λ (z : StandingChannel J). z.exporter) (sym (some_same at)) ∙ is.exporter_is;
  }

  pub stood_before : (held : StandingMember J) (ended : MemberEnded J) (holds : StandingMember J) (new : StandingChannel J) → IsMemberAfter held ended holds → IsChannelOf holds new → Stood held ended new
  stood_before (standing.Own held) (ends.Own ended) (standing.Own holds) new after of =
      let s = own_stood held.channel ended.exporter holds.channel new of after.channel in
      record { stood = s.stood; state = s.state; with = (s.held_is, s.state_is); number = s.number; exporter_is = s.exporter_is }
  stood_before (standing.Pipe held) (ends.Pipe ended) (standing.Pipe holds) new after of = elim of [
    | inl out ↦ record {
      stood = held.out;
      state = ended.out;
      with = inl (refl, refl);
      number = ap (λ (z : StandingChannel J). z.number) (sym out) ∙ after.out.number;
      exporter_is = ap (λ (z : StandingChannel J). z.exporter) (sym out) ∙ after.out.exporter_is;
    }
    | inr back ↦ record {
      stood = held.back;
      state = ended.back;
      with = inr (refl, refl);
      number = ap (λ (z : StandingChannel J). z.number) (sym back) ∙ after.back.number;
      exporter_is = ap (λ (z : StandingChannel J). z.exporter) (sym back) ∙ after.back.exporter_is;
    }
  ]
  stood_before (standing.Own held) (ends.Own ended) (standing.Pipe holds) new after of = absurd after
  stood_before (standing.Own held) (ends.Pipe ended) holds new after of = absurd after
  stood_before (standing.Pipe held) (ends.Own ended) holds new after of = absurd after
  stood_before (standing.Pipe held) (ends.Pipe ended) (standing.Own holds) new after of = absurd after

-- ---- what stands tells what was printed

module _ {J P : Type 0} (g : Given J P) (behind : Standing J) (after : StandsAfter g.old g.made behind) where
  history_now : (t : ℕ) (stood : StandingTable) → slice_get behind.tables.items t ≡ Some stood → (join g.past (printed g)).history t ≡ reverse (map change_of stood.before.items)
  history_now t stood at =
      let inside = get_within behind.tables.items t stood at in
      let many = after.tables_count in
      let phases = many_phases g in
      let before = get_here g.old.tables.items t (omega (arith, inside, many)) in
      let phase = get_here g.made.ended.phases.items t (omega (arith, inside, many, phases)) in
      let next = after.tables t before.0 phase.0 stood before.1 phase.1 at in
      (λ i. entries_printed g t phase.0 phase.1 i ++ g.was.history t before.0 before.1 i)
      ∙ sym (history_next before.0.before.items phase.0.entries)
      ∙ ap (λ (es : List JEntry). reverse (map change_of es)) (sym next.before)

  log_now : (i : ℕ) (held : StandingMember J) (member : MemberEnded J) (channel : StandingChannel J) → slice_get g.old.members.items i ≡ Some held → slice_get g.made.ended.members.items i ≡ Some member → Stood held member channel → (join g.past (printed g)).logs channel.number ≡ reverse channel.exporter.log
  log_now i held member channel held_at member_at s =
      ap (λ (c : ℕ). (printed g).items c ++ g.past.logs c) s.number
      ∙ log_printed g i held s.stood member s.state held_at member_at s.with
      ∙ ap (λ (e : State J). reverse e.log) (sym s.exporter_is)

  logs_now : (i : ℕ) (holds : StandingMember J) (channel : StandingChannel J) → slice_get behind.members.items i ≡ Some holds → IsChannelOf holds channel → (join g.past (printed g)).logs channel.number ≡ reverse channel.exporter.log
  logs_now i holds channel at of =
      let inside = get_within behind.members.items i holds at in
      let many = after.members_count in
      let all = many_ended g in
      let held = get_here g.old.members.items i (omega (arith, inside, many)) in
      let member = get_here g.made.ended.members.items i (omega (arith, inside, many, all)) in
      log_now i held.0 member.0 channel held.1 member.1 (stood_before held.0 member.0 holds channel (after.members i held.0 member.0 holds held.1 member.1 at) of)

  sourced_entries : (t : ℕ) → AreSourced ((printed g).entries t)
  sourced_entries t =
      by_option (slice_get g.opening.room.tables.items t) (AreSourced (news_of g t))
      (λ here at. sourced_records here.1.opening (at_first here.1.opening) (entries_of g t) (said_of g t) (known_table g t here at).records)
      (λ none. subst (λ (l : List JEntry). AreSourced (reverse (map change_of l))) (sym (said_none g t none)) tt)

  no_entries : (t : ℕ) → length (setup_of g).tables ≤ t → (printed g).entries t ≡ []
  no_entries t far =
      let all = many_phases g in
      let many = g.stands.tables.count in
      ap (λ (o : Option Phase). reverse (map change_of (said_in o))) (beyond_none g.made.ended.phases.items t (omega (arith, far, all, many)))

  no_ops_here : (i : ℕ) → length (setup_of g).protocols ≤ i → (printed g).ops i ≡ []
  no_ops_here i far =
      let many = g.stands.count in
      no_ops g i (beyond_none g.old.members.items i (omega (arith, far, many)))

  pub past_behind : (first : ℕ → List Turn) (lines : List Line) → IsLegal (rules_in g) first g.past lines (printed g) → HasPast (setup_of g) (join g.past (printed g)) behind
  past_behind first lines legal = record {
    logs = (join g.past (printed g)).logs;
    sound = stays_sound (rules_in g) first g.past lines (printed g) legal g.was.sound.sourced sourced_entries;
    printed = λ c. inl refl;
    history = history_now;
    no_history = λ t far. no_more ((printed g).entries t) (g.past.history t) (no_entries t far) (g.was.no_history t far);
    no_ops = λ i far. no_more ((printed g).ops i) (g.past.ops i) (no_ops_here i far) (g.was.no_ops i far);
    logs_are = logs_now;
    no_logs = λ c none. no_more ((printed g).items c) (g.past.logs c) (no_items g c none) (nothing_printed c none);
  }
    where
      -- of a channel that isn't there nothing was printed
      nothing_printed : (c : ℕ) → channel_at (setup_of g) c ≡ None → g.past.logs c ≡ []
      nothing_printed c none = elim (g.was.printed c) [ inl all ↦ all ∙ g.was.no_logs c none | inr nothing ↦ nothing ]
