-- Each member of a room whose phase has ended has ended as a session or as a pipe.
use Rattle.std.proofs.Common.{◌≡◌, ◌∙◌, ℕ, List, Some, ap, arith, subst}
use Rattle.std.specs.Prelude.{slice_get}
use Rattle.attrs.specs.declared.judge.Verdict.{Verdict}
use Rattle.attrs.specs.declared.route.Route.{Route}
use Rattle.bits_ip.specs.Prefix.{Net}
use Rattle.core_machine.specs.Rules.{Rules}
use Rattle.core_setup.specs.Setup.{Exports}
use Rattle.core_setup.proofs.PairLemmas.{get_here, get_within}
use Rattle.import_lock.specs.Terms.{PhaseTerms}
use Rattle.phase_close.specs.Rooms.{HandsView}
use Rattle.phase_close.specs.Whole.{PassesView}
use Rattle.phase_pipes.specs.Sessions.{IsPipeSession, back_terms, out_terms, pipe_terms}
use Rattle.phase_pipes.specs.declared.session.PipeSession.{PipeSession}
use Rattle.phase_room.specs.Sessions.{IsSession, channel_terms, protocol_terms}
use Rattle.phase_room.specs.declared.session.Session.{Session}
use Rattle.pipe_close.proofs.Sessions.{is_over}
use Rattle.pipe_rest.specs.declared.member.MemberLeft.{MemberLeft}
use Rattle.pipe_rest.specs.declared.member.MemberLeft.TheVariants as lefts
use Rattle.room_ends.specs.Ended.{IsPipeDone, IsSessionDone}
use Rattle.room_ends.specs.Left.{IsMemberLeft, locks_of, session_key}
use Rattle.room_ends.specs.Synced.{IsSynced}
use Rattle.room_ends.specs.declared.ended.RoomEnded.{RoomEnded}
use Rattle.room_close.proofs.Recorded.{pipe_has_ended, session_done}
use Rattle.room_members.specs.Members.{IsRoom}
use Rattle.room_members.specs.declared.member.Member.{Member}
use Rattle.room_members.specs.declared.member.Member.TheVariants as members
use Rattle.room_members.specs.declared.room.Room.{Room}

module _ {J P : Type 0} (terms : P → PhaseTerms) (exports : P → ℕ → Exports) (rules : P → Rules) (verdict : J → Net → Route → Verdict) (room : Room J P) (is : IsRoom terms exports rules room) (hands : List HandsView) (passes : List PassesView) (ended : RoomEnded J)
    (synced : IsSynced verdict terms exports rules room hands passes ended) (number : ℕ) (own : HandsView) (mine : slice_get hands number ≡ Some own) where
  left_at : (member : Member J P) → slice_get room.members.items number ≡ Some member → (left : MemberLeft J) × (slice_get synced.lefts number ≡ Some left) × IsMemberLeft terms exports rules verdict member own left
  left_at member at =
      let inside = get_within room.members.items number member at in
      let count = synced.left.count in
      let left = get_here synced.lefts number (omega (arith, inside, count)) in
      (left.0, left.1, synced.left.each number member left.0 at left.1 own mine)

  own_left : (session : Session J P) (left : MemberLeft J) → slice_get synced.lefts number ≡ Some left → IsSession (terms room.played.value) room.tables.items number session.table (protocol_terms terms session) (channel_terms exports session)
      → IsMemberLeft terms exports rules verdict (members.Own session) own left → IsSessionDone verdict synced.over.lists ended.members.items number (session_key terms exports session own) session.table
  own_left session (lefts.Pipe left) there s l = absurd l
  own_left session (lefts.Own left) there s l =
      let key = session_key terms exports session own in
      subst (IsSessionDone verdict synced.over.lists ended.members.items number key) l.table
      (session_done verdict room.tables.items synced.lefts passes ended synced.over number left there key (record { left_is = l.left_is; channel_is = s.channel_is; there = ap (slice_get room.tables.items) l.table ∙ s.table }))

  pipe_left : (pipe : PipeSession J P) (left : MemberLeft J) → slice_get synced.lefts number ≡ Some left → IsPipeSession (terms room.played.value) room.tables.items number pipe.primary pipe.peer (pipe_terms terms pipe) (out_terms exports rules pipe) (back_terms exports rules pipe)
      → IsMemberLeft terms exports rules verdict (members.Pipe pipe) own left → IsPipeDone verdict synced.over.lists ended.members.items number (locks_of terms exports rules pipe) own.items pipe.primary pipe.peer
  pipe_left pipe (lefts.Own left) there s l = absurd l
  pipe_left pipe (lefts.Pipe left) there s l =
      let key = locks_of terms exports rules pipe in
      let over = is_over verdict (terms room.played.value) room.tables.items number pipe.primary pipe.peer key s own.items left l.left_is l.primary l.peer in
      subst (λ (z : ℕ × ℕ). IsPipeDone verdict synced.over.lists ended.members.items number key own.items z.0 z.1) (λ j. (l.primary j, l.peer j))
      (pipe_has_ended verdict room.tables.items synced.lefts passes ended synced.over number left there key own.items over)

  pub own_ended : (session : Session J P) → slice_get room.members.items number ≡ Some (members.Own session) → IsSessionDone verdict synced.over.lists ended.members.items number (session_key terms exports session own) session.table
  own_ended session at = let left = left_at (members.Own session) at in own_left session left.0 left.1 (is.members number (members.Own session) at) left.2

  pub pipe_ended : (pipe : PipeSession J P) → slice_get room.members.items number ≡ Some (members.Pipe pipe) → IsPipeDone verdict synced.over.lists ended.members.items number (locks_of terms exports rules pipe) own.items pipe.primary pipe.peer
  pipe_ended pipe at = let left = left_at (members.Pipe pipe) at in pipe_left pipe left.0 left.1 (is.members number (members.Pipe pipe) at) left.2
