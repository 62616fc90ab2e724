-- What is known of each table of a room that has ended, and of each member.
use Rattle.std.proofs.Common.{◌≡◌, ℕ, List, [], Some, None, refl, sym, ap, subst, ◌∙◌, arith}
use Rattle.std.specs.Prelude.{Option, slice_get}
use mathlib.Core.List.{IsPrefix}
use Rattle.atomic_table.specs.Seated.{TableId}
use Rattle.attrs.specs.declared.journal.JEntry.{JEntry}
use Rattle.attrs.specs.declared.judge.Verdict.{Verdict}
use Rattle.attrs.specs.declared.route.Route.{Route}
use Rattle.bits_ip.specs.Prefix.{Net}
use Rattle.core_setup.proofs.Numbered.{all_at, none_some}
use Rattle.core_setup.proofs.PairLemmas.{get_here, get_within}
use Rattle.jour_rule.specs.declared.views.Entry.{Entry}
use Rattle.jour_rule.specs.declared.views.Terms.{Terms}
use Rattle.jour.specs.Seats.{front}
use Rattle.phase_close.specs.Closed.{IsSessionEnded, SessionTerms}
use Rattle.phase_close.specs.Whole.{ArePassesHeard, IsOver, PassesView, entries_at, entries_in, said_at, said_in}
use Rattle.phase_close.specs.declared.session.SessionLeft.{SessionLeft}
use Rattle.phase_close.proofs.Over.{is_ending}
use Rattle.phase_legal.specs.Shown.{HandView, PassView}
use Rattle.pipe_close.specs.Ended.{IsPipeOver}
use Rattle.pipe_close.specs.Left.{PipeLocks}
use Rattle.pipe_close.specs.declared.close.PipeLeft.{PipeLeft}
use Rattle.pipe_rest.specs.declared.member.MemberLeft.{MemberLeft}
use Rattle.pipe_rest.specs.declared.member.MemberLeft.TheVariants as lefts
use Rattle.room_ends.specs.Ended.{EndsMember, IsPipeDone, IsRoomEnded, IsSessionDone}
use Rattle.room_ends.specs.declared.ended.MemberEnded.{MemberEnded}
use Rattle.room_ends.specs.declared.ended.MemberEnded.TheVariants as ends
use Rattle.room_ends.specs.declared.ended.RoomEnded.{RoomEnded}
use Rattle.table_shared.specs.Opening.{TableOpening}
use Rattle.table_shared.specs.Records.{AreRecords, at_first}
use Rattle.table_shared.specs.declared.close.Phase.{Phase}

module _ {J : Type 0} (verdict : J → Net → Route → Verdict) (tables : List (TableId × Terms TableOpening)) (left : List (MemberLeft J)) (actors : List PassesView) (ended : RoomEnded J) (is : IsRoomEnded verdict tables left actors ended) where
  pub has_records : (t : ℕ) (table : TableId × Terms TableOpening) → slice_get tables t ≡ Some table → AreRecords table.1.opening (at_first table.1.opening) (entries_at is.lists t) (said_at ended.phases.items t)
  has_records t table at =
      let inside = get_within tables t table at in
      let many = is.tables_are.count in
      let all = is.phases.count in
      let l = get_here is.lists t (omega (arith, inside, many)) in
      let phase = get_here ended.phases.items t (omega (arith, inside, many, all)) in
      let opening = ap (λ (z : TableId × Terms TableOpening). z.1.opening) (is.tables_are.each t table l.0 at l.1) in
      let entries = sym (ap entries_in l.1) in
      let said = sym (ap said_in phase.1) in
      subst (λ (z : TableOpening × List Entry × List JEntry). AreRecords z.0 (at_first z.0) z.1 z.2) (λ j. (opening j, entries j, said j)) (is.phases.each t l.0 phase.0 l.1 phase.1).records

  pub says_none : (t : ℕ) → slice_get tables t ≡ None → said_at ended.phases.items t ≡ []
  says_none t none = by_phase (slice_get ended.phases.items t) refl
    where
      by_phase : (o : Option Phase) → slice_get ended.phases.items t ≡ o → said_in o ≡ []
      by_phase None e = refl
      by_phase (Some phase) e =
          let inside = get_within ended.phases.items t phase e in
          let many = is.tables_are.count in
          let all = is.phases.count in
          let table = get_here tables t (omega (arith, inside, many, all)) in
          none_some (sym none ∙ table.1)

  pub has_seen : (actor : ℕ) (passes : PassesView) → slice_get actors actor ≡ Some passes → (t : ℕ) (pass : PassView) → slice_get passes.items t ≡ Some pass → IsPrefix (front pass.1) (entries_at is.lists t)
  has_seen actor passes at t pass there =
      let heard = all_at (ArePassesHeard is.lists) actors actor passes is.passes at in
      let inside = get_within passes.items t pass there in
      let many = heard.count in
      let l = get_here is.lists t (omega (arith, inside, many)) in
      subst (IsPrefix (front pass.1)) (sym (ap entries_in l.1)) (heard.each t l.0 pass l.1 there).seen

  -- ---- what was left of members has ended

  own_done : (number : ℕ) (one : SessionLeft J) (e : MemberEnded J) → slice_get ended.members.items number ≡ Some e → EndsMember verdict is.lists (lefts.Own one) e → (key : SessionTerms) → IsOver verdict tables key one → IsSessionDone verdict is.lists ended.members.items number key one.table
  own_done number one (ends.Pipe e) there end key over = absurd end
  own_done number one (ends.Own e) there end key over =
      let done = end.1 key (is_ending tables is.lists is.tables_are verdict key one over) in
      record {
        ended = e;
        there = there;
        table_is = end.0;
        session = subst (λ z. IsSessionEnded verdict key z e) (sym (ap (entries_at is.lists) (sym end.0) ∙ ap entries_in done.there)) done.session;
      }

  pipe_done : (number : ℕ) (one : PipeLeft J) (e : MemberEnded J) → slice_get ended.members.items number ≡ Some e → EndsMember verdict is.lists (lefts.Pipe one) e → (key : PipeLocks) (hands : List HandView) → IsPipeOver verdict tables key hands one → IsPipeDone verdict is.lists ended.members.items number key hands one.primary one.peer
  pipe_done number one (ends.Own e) there end key hands over = absurd end
  pipe_done number one (ends.Pipe e) there end key hands over =
      record { ended = e; there = there; primary_is = end.primary_is; peer_is = end.peer_is; pipe = end.pipe tables is.tables_are key hands over }

  pub session_done : (number : ℕ) (one : SessionLeft J) → slice_get left number ≡ Some (lefts.Own one) → (key : SessionTerms) → IsOver verdict tables key one → IsSessionDone verdict is.lists ended.members.items number key one.table
  session_done number one at key over =
      let inside = get_within left number (lefts.Own one) at in
      let count = is.members.count in
      let e = get_here ended.members.items number (omega (arith, inside, count)) in
      own_done number one e.0 e.1 (is.members.each number (lefts.Own one) e.0 at e.1) key over

  pub pipe_has_ended : (number : ℕ) (one : PipeLeft J) → slice_get left number ≡ Some (lefts.Pipe one) → (key : PipeLocks) (hands : List HandView) → IsPipeOver verdict tables key hands one → IsPipeDone verdict is.lists ended.members.items number key hands one.primary one.peer
  pipe_has_ended number one at key hands over =
      let inside = get_within left number (lefts.Pipe one) at in
      let count = is.members.count in
      let e = get_here ended.members.items number (omega (arith, inside, count)) in
      pipe_done number one e.0 e.1 (is.members.each number (lefts.Pipe one) e.0 at e.1) key hands over
