-- What a phase that threads have played has made of what stood before it (`made_over`), as the way it
-- began and ended tells of each protocol with routes of its own (`IsEndedSession`) and of each pipe
-- (`HasPipeEnded`).
use Rattle.std.proofs.Common.{◌≡◌, ℕ, List, length, Option, Some, None, is_some, refl, ap, subst, ◌∙◌, arith}
use Rattle.std.specs.Prelude.{slice_get}
use Rattle.std.proofs.lemmas.List.{length-map}
use Rattle.attrs.specs.declared.judge.Verdict.{Verdict}
use Rattle.attrs.specs.declared.route.Change.{Change}
use Rattle.attrs.specs.declared.route.Route.{Route}
use Rattle.bits_ip.specs.Prefix.{Net}
use Rattle.export_core.specs.States.{State}
use Rattle.jour_rule.specs.declared.views.Entry.{Entry}
use Rattle.core_machine.specs.Lines.{Act}
use Rattle.core_machine.specs.Rules.{Rules}
use Rattle.core_setup.specs.Setup.{Exports}
use Rattle.core_setup.proofs.PairLemmas.{get_here, get_one, get_within}
use Rattle.import_lock.specs.Terms.{ImportTerms, PhaseTerms}
use Rattle.export_lock.specs.Terms.{ExportTerms}
use Rattle.phase_room.specs.Sessions.{IsSession, channel_terms, protocol_terms}
use Rattle.phase_room.specs.declared.session.Session.{Session}
use Rattle.phase_pipes.specs.Sessions.{IsPipeSession, back_terms, out_terms, pipe_terms}
use Rattle.phase_pipes.specs.declared.session.PipeSession.{PipeSession}
use Rattle.phase_actors.specs.declared.actor.Actor.{Actor}
use Rattle.phase_close.specs.Closed.{AreChannelsEnded, IsSessionEnded}
use Rattle.phase_close.specs.Rooms.{HandsView}
use Rattle.phase_close.specs.Whole.{entries_at}
use Rattle.phase_close.specs.declared.seats.SessionEnded.{SessionEnded}
use Rattle.phase_open.specs.Opening.{AreOpenChannels, IsOpenSession}
use Rattle.phase_open.specs.declared.standing.StandingChannel.{StandingChannel}
use Rattle.phase_open.specs.declared.standing.StandingProtocol.{StandingProtocol}
use Rattle.pipe_close.specs.Ended.{IsPipeEnded}
use Rattle.pipe_close.specs.declared.end.PipeEnded.{PipeEnded}
use Rattle.room_members.specs.Members.{IsMember}
use Rattle.room_members.specs.declared.member.Member.{Member}
use Rattle.room_members.specs.declared.member.Member.TheVariants as members
use Rattle.room_open.specs.Opening.{IsOpenMember, IsOpenPipe, IsOpening}
use Rattle.room_open.specs.declared.opening.Opening.{Opening}
use Rattle.room_open.specs.declared.standing.Standing.{Standing}
use Rattle.room_open.specs.declared.standing.StandingMember.{StandingMember}
use Rattle.room_open.specs.declared.standing.StandingMember.TheVariants as standing
use Rattle.room_open.specs.declared.standing.StandingPipe.{StandingPipe}
use Rattle.room_ends.specs.Left.{locks_of, session_key}
use Rattle.room_ends.specs.declared.ended.MemberEnded.{MemberEnded}
use Rattle.room_ends.specs.declared.ended.MemberEnded.TheVariants as ends
use Rattle.room_close.proofs.Done.{own_ended, pipe_ended}
use Rattle.room_ends.specs.Played.{IsPlayed}
use Rattle.room_ends.specs.declared.played.PlayedRoom.{PlayedRoom}
use Rattle.room_ends.specs.After.{IsMadeOver, IsMemberOver, IsPipeOver, IsSessionOver}

module _ {J P : Type 0} (verdict : J → Net → Route → Verdict) (terms : P → PhaseTerms) (exports : P → ℕ → Exports) (rules : P → Rules) (played : P) (old : Standing J) (opening : Opening J P) (starts : List Act) (made : PlayedRoom J)
    (opens : IsOpening terms exports rules played old.tables.items old.members.items opening) (is_played : IsPlayed verdict terms exports rules opening.room starts made) where
  -- a protocol with routes of its own
  pub record IsEndedSession (i : ℕ) (held : StandingProtocol J) : Type 0 where
    pub session : Session J P
    pub session_at : slice_get opening.room.members.items i ≡ Some (members.Own session)
    pub is : IsSession (terms opening.room.played.value) opening.room.tables.items i session.table (protocol_terms terms session) (channel_terms exports session)
    pub begins : IsOpenSession terms exports played old.tables.items i held session
    pub hands : HandsView
    pub hands_at : slice_get is_played.hands i ≡ Some hands
    pub ended : SessionEnded J
    pub ended_at : slice_get made.ended.members.items i ≡ Some (ends.Own ended)
    pub done :
        IsSessionEnded verdict (session_key terms exports session hands) (entries_at is_played.synced.over.lists session.table) ended
    pub table : ended.table ≡ session.table

  -- a pipe
  pub record HasPipeEnded (i : ℕ) (held : StandingPipe J) : Type 0 where
    pub session : PipeSession J P
    pub session_at : slice_get opening.room.members.items i ≡ Some (members.Pipe session)
    pub is : IsPipeSession (terms opening.room.played.value) opening.room.tables.items i session.primary session.peer (pipe_terms terms session) (out_terms exports rules session) (back_terms exports rules session)
    pub begins : IsOpenPipe terms exports rules played old.tables.items i held session
    pub hands : HandsView
    pub hands_at : slice_get is_played.hands i ≡ Some hands
    pub ended : PipeEnded J
    pub ended_at : slice_get made.ended.members.items i ≡ Some (ends.Pipe ended)
    pub done : IsPipeEnded verdict is_played.synced.over.lists (locks_of terms exports rules session) hands.items ended
    pub primary : ended.primary ≡ session.primary
    pub peer : ended.peer ≡ session.peer

  -- what has the number of a member that stood
  pub record IsPlace (i : ℕ) (held : StandingMember J) : Type 0 where
    pub member : Member J P
    pub member_at : slice_get opening.room.members.items i ≡ Some member
    pub is : IsMember terms exports rules (terms opening.room.played.value) opening.room.tables.items i member
    pub begins : IsOpenMember terms exports rules played old.tables.items i held member
    pub hands : HandsView
    pub hands_at : slice_get is_played.hands i ≡ Some hands

  place : (i : ℕ) (held : StandingMember J) → slice_get old.members.items i ≡ Some held → IsPlace i held
  place i held at =
      let inside = get_within old.members.items i held at in
      let rooms = opens.members_count in
      let dealt = is_played.hands_count in
      let member = get_here opening.room.members.items i (omega (arith, inside, rooms)) in
      let hands = get_here is_played.hands i (omega (arith, inside, rooms, dealt)) in
      record {
        member = member.0;
        member_at = member.1;
        is = opens.room.members i member.0 member.1;
        begins = opens.members_are i held member.0 at member.1;
        hands = hands.0;
        hands_at = hands.1;
      }

  own_done : (i : ℕ) (held : StandingProtocol J) (hands : HandsView) (m : Member J P) → slice_get opening.room.members.items i ≡ Some m → slice_get is_played.hands i ≡ Some hands
      → IsMember terms exports rules (terms opening.room.played.value) opening.room.tables.items i m → IsOpenMember terms exports rules played old.tables.items i (standing.Own held) m → IsEndedSession i held
  own_done i held hands (members.Pipe session) m_at hands_at is begins = absurd begins
  own_done i held hands (members.Own session) m_at hands_at is begins =
      let done = own_ended terms exports rules verdict opening.room opens.room is_played.hands is_played.passes made.ended is_played.synced i hands hands_at session m_at in
      record {
        session = session;
        session_at = m_at;
        is = is;
        begins = begins;
        hands = hands;
        hands_at = hands_at;
        ended = done.ended;
        ended_at = done.there;
        done = done.session;
        table = done.table_is;
      }

  pipe_done : (i : ℕ) (held : StandingPipe J) (hands : HandsView) (m : Member J P) → slice_get opening.room.members.items i ≡ Some m → slice_get is_played.hands i ≡ Some hands
      → IsMember terms exports rules (terms opening.room.played.value) opening.room.tables.items i m → IsOpenMember terms exports rules played old.tables.items i (standing.Pipe held) m → HasPipeEnded i held
  pipe_done i held hands (members.Own session) m_at hands_at is begins = absurd begins
  pipe_done i held hands (members.Pipe session) m_at hands_at is begins =
      let done = pipe_ended terms exports rules verdict opening.room opens.room is_played.hands is_played.passes made.ended is_played.synced i hands hands_at session m_at in
      record {
        session = session;
        session_at = m_at;
        is = is;
        begins = begins;
        hands = hands;
        hands_at = hands_at;
        ended = done.ended;
        ended_at = done.there;
        done = done.pipe;
        primary = done.primary_is;
        peer = done.peer_is;
      }

  pub ended_session : (i : ℕ) (held : StandingProtocol J) → slice_get old.members.items i ≡ Some (standing.Own held) → IsEndedSession i held
  ended_session i held at = let p = place i (standing.Own held) at in own_done i held p.hands p.member p.member_at p.hands_at p.is p.begins

  pub ended_pipe : (i : ℕ) (held : StandingPipe J) → slice_get old.members.items i ≡ Some (standing.Pipe held) → HasPipeEnded i held
  ended_pipe i held at = let p = place i (standing.Pipe held) at in pipe_done i held p.hands p.member p.member_at p.hands_at p.is p.begins

  -- an exporter is left where there was one
  kept : (table : ℕ) (key : ImportTerms) (list : List Entry) (changes : List (ℕ × Change)) (entries : List Entry) (old_channel : Option (StandingChannel J)) (lock : Option ExportTerms) (exporter : Option (State J))
      → AreOpenChannels terms exports played old.tables.items table old_channel lock → AreChannelsEnded verdict key list changes entries lock exporter → is_some exporter ≡ is_some old_channel
  kept table key list changes entries None None None begins ended = refl
  kept table key list changes entries None None (Some e) begins ended = absurd ended
  kept table key list changes entries None (Some l) exporter begins ended = absurd begins
  kept table key list changes entries (Some c) None exporter begins ended = absurd begins
  kept table key list changes entries (Some c) (Some l) None begins ended = absurd ended
  kept table key list changes entries (Some c) (Some l) (Some e) begins ended = refl

  member_over : (i : ℕ) (held : StandingMember J) (member : MemberEnded J) → slice_get old.members.items i ≡ Some held → slice_get made.ended.members.items i ≡ Some member → IsMemberOver held member
  member_over i (standing.Own held) member held_at member_at =
      let f = ended_session i held held_at in
      let same : ends.Own f.ended ≡ member = get_one made.ended.members.items i (ends.Own f.ended) member f.ended_at member_at in
      let over : IsSessionOver held f.ended = record {
        table = f.table ∙ f.begins.table;
        channel =
            kept held.table (protocol_terms terms f.session) f.done.list f.done.made (entries_at is_played.synced.over.lists f.session.table) held.channel (channel_terms exports f.session) f.ended.exporter f.begins.channels
            f.done.channels;
      } in
      subst (λ (m : MemberEnded J). IsMemberOver (standing.Own held) m) same over
  member_over i (standing.Pipe held) member held_at member_at =
      let f = ended_pipe i held held_at in
      let same : ends.Pipe f.ended ≡ member = get_one made.ended.members.items i (ends.Pipe f.ended) member f.ended_at member_at in
      let over : IsPipeOver held f.ended = record {
        primary = f.primary ∙ f.begins.primary;
        peer = f.peer ∙ f.begins.peer;
      } in
      subst (λ (m : MemberEnded J). IsMemberOver (standing.Pipe held) m) same over

  pub phases_made : length made.ended.phases.items ≡ length old.tables.items
  phases_made =
      let all = is_played.synced.over.phases.count in
      let many = is_played.synced.over.tables_are.count in
      let here = opens.tables_count in
      omega (arith, all, many, here)

  pub members_made : length made.ended.members.items ≡ length old.members.items
  members_made =
      let all = is_played.synced.over.members.count in
      let many = is_played.synced.left.count in
      let here = opens.members_count in
      omega (arith, all, many, here)

  pub made_over : IsMadeOver old (terms played).starter made
  made_over = record {
    tables_count = phases_made;
    members_count = members_made;
    told_count = ap length is_played.told ∙ length-map is_played.actors (λ (actor : Actor). actor.replies) ∙ is_played.actors_count ∙ ap (λ (z : P). (terms z).starter) opens.played_is;
    members = member_over;
  }
