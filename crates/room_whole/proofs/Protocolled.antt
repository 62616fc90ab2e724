-- What is known of each protocol of a phase that was played: of one with routes of its own
-- (`IsOfProtocol`), of a pipe (`IsOfPipe`), and of the turns of either (`HasTurns`).
use Rattle.std.proofs.Common.{◌≡◌, ℕ, List, ◌++◌, reverse, Some, refl, sym, ap, subst, ◌∙◌}
use Rattle.std.specs.Prelude.{slice_get}
use mathlib.Core.List.{IsPrefix}
use Rattle.atomic_table.specs.Seated.{TableId}
use Rattle.core_setup.specs.Protocols.{rules_of}
use Rattle.core_setup.proofs.Numbered.{all_at}
use Rattle.jour_rule.specs.Journal.{receipts}
use Rattle.jour_rule.specs.declared.views.Entry.{Entry}
use Rattle.jour_rule.specs.declared.views.Terms.{Terms}
use Rattle.jour.specs.Seats.{front, number_of, own}
use Rattle.phase_legal.specs.Ended.{AreTurns}
use Rattle.phase_legal.specs.Shown.{HandView}
use Rattle.phase_legal.specs.Turns.{AreTurnsOf}
use Rattle.import_lock.specs.Calls.{IsRoomOf}
use Rattle.import_lock.specs.Terms.{PhaseTerms}
use Rattle.phase_room.specs.Sessions.{IsSession}
use Rattle.phase_room.specs.declared.session.Session.{Session}
use Rattle.phase_pipes.specs.Sessions.{IsPipeSession, back_terms, out_terms}
use Rattle.phase_pipes.specs.declared.session.PipeSession.{PipeSession}
use Rattle.phase_actors.proofs.Places.{get_map}
use Rattle.phase_close.specs.Closed.{IsSessionEnded}
use Rattle.phase_close.specs.Retired.{IsRetired}
use Rattle.phase_close.specs.Rooms.{HandsView}
use Rattle.phase_close.specs.Turned.{AreTurned}
use Rattle.phase_close.specs.Whole.{entries_at}
use Rattle.phase_close.specs.declared.seats.SessionEnded.{SessionEnded}
use Rattle.phase_close.proofs.Turned.{hand_said, turned}
use Rattle.phase_open.specs.Opening.{IsOpenSession}
use Rattle.phase_open.specs.Standing.{IsStandingProtocol}
use Rattle.phase_open.specs.declared.standing.StandingProtocol.{StandingProtocol}
use Rattle.pipe_close.specs.Ended.{IsPipeEnded}
use Rattle.pipe_close.specs.Turned.{ArePipeTurned}
use Rattle.pipe_close.specs.declared.end.PipeEnded.{PipeEnded}
use Rattle.pipe_close.proofs.Turned.{hand_said as pipe_hand_said, turned as pipe_turned}
use Rattle.room_members.specs.Members.{turns_of}
use Rattle.room_members.specs.declared.member.Member.TheVariants as members
use Rattle.room_open.specs.Opening.{IsOpenPipe}
use Rattle.room_open.specs.Standing.{IsStandingPipe}
use Rattle.room_open.specs.declared.standing.StandingMember.TheVariants as standing
use Rattle.room_open.specs.declared.standing.StandingPipe.{StandingPipe}
use Rattle.room_ends.specs.declared.ended.MemberEnded.TheVariants as ends
use Rattle.room_ends.specs.Played.{HasStarted}
use Rattle.room_whole.proofs.Over.{ended_pipe, ended_session}
use Rattle.room_whole.proofs.Given.{Given, exports_of, key_of, lines_of, lists_of, lock_of, locks_in, phase_of, pipe_of, seats_of, seen_of}

module _ {J P : Type 0} (g : Given J P) where
  pub record IsOfProtocol (i : ℕ) (held : StandingProtocol J) : Type 0 where
    pub standing : IsStandingProtocol g.verdict (phase_of g) (exports_of g) g.old.tables.items i held
    pub session : Session J P
    pub session_at : slice_get g.opening.room.members.items i ≡ Some (members.Own session)
    pub is : IsSession (phase_of g) g.opening.room.tables.items i session.table (key_of g session) (lock_of g session)
    pub begins : IsOpenSession g.terms g.exports g.opening.room.played.value g.old.tables.items i held session
    pub hands : HandsView
    pub hands_at : slice_get g.played.hands i ≡ Some hands
    pub ended : SessionEnded J
    pub ended_at : slice_get g.made.ended.members.items i ≡ Some (ends.Own ended)
    pub done : IsSessionEnded g.verdict (seats_of g session hands.items) (entries_at (lists_of g) session.table) ended
    pub table : ended.table ≡ session.table
    pub starter : HandView
    pub starter_place : ℕ
    pub starter_at : slice_get hands.items starter_place ≡ Some starter
    pub has_started : HasStarted (phase_of g).starter g.starts i starter
    pub turned : AreTurned (seen_of g) (key_of g session) done.list (front starter.1)

  pub record IsOfPipe (i : ℕ) (held : StandingPipe J) : Type 0 where
    pub standing : IsStandingPipe g.verdict (phase_of g) (exports_of g) g.old.tables.items i held
    pub session : PipeSession J P
    pub session_at : slice_get g.opening.room.members.items i ≡ Some (members.Pipe session)
    pub is : IsPipeSession (phase_of g) g.opening.room.tables.items i session.primary session.peer (pipe_of g session) (out_terms g.exports g.rules session) (back_terms g.exports g.rules session)
    pub begins : IsOpenPipe g.terms g.exports g.rules g.opening.room.played.value g.old.tables.items i held session
    pub hands : HandsView
    pub hands_at : slice_get g.played.hands i ≡ Some hands
    pub ended : PipeEnded J
    pub ended_at : slice_get g.made.ended.members.items i ≡ Some (ends.Pipe ended)
    pub done : IsPipeEnded g.verdict (lists_of g) (locks_in g session) hands.items ended
    pub primary : ended.primary ≡ session.primary
    pub peer : ended.peer ≡ session.peer
    pub starter : HandView
    pub starter_place : ℕ
    pub starter_at : slice_get hands.items starter_place ≡ Some starter
    pub has_started : HasStarted (phase_of g).starter g.starts i starter
    pub turned : ArePipeTurned (seen_of g) (pipe_of g session) done.list (front starter.1)

  -- what actors know of the room is of the phase
  pub room_of : (phase : PhaseTerms) → phase ≡ phase_of g → IsRoomOf phase (seen_of g)
  room_of phase is = record {
    rules = ap (λ (z : PhaseTerms). rules_of z.setup) (sym is);
    lines = ap (λ (z : PhaseTerms). z.lines) (sym is);
    past = ap (λ (z : PhaseTerms). z.past) (sym is);
  }

  starter_is : (phase : PhaseTerms) → phase ≡ phase_of g → (n : ℕ) → n ≡ (phase_of g).starter → n ≡ phase.starter
  starter_is phase is n e = e ∙ sym (ap (λ (z : PhaseTerms). z.starter) is)

  pub known : (i : ℕ) (held : StandingProtocol J) → slice_get g.old.members.items i ≡ Some (standing.Own held) → IsOfProtocol i held
  known i held at =
      let e = ended_session g.verdict g.terms g.exports g.rules g.opening.room.played.value g.old g.opening g.starts g.made g.opens g.played i held at in
      let start = g.played.starters i e.hands e.hands_at in
      record {
        standing = g.stands.members i (standing.Own held) at;
        session = e.session;
        session_at = e.session_at;
        is = e.is;
        begins = e.begins;
        hands = e.hands;
        hands_at = e.hands_at;
        ended = e.ended;
        ended_at = e.ended_at;
        done = e.done;
        table = e.table;
        starter = start.0;
        starter_place = start.1.0;
        starter_at = start.1.1;
        has_started = start.2;
        turned =
            turned (key_of g e.session) e.done.list e.hands.items e.ended.ops.items e.done.imports.turns start.1.0 start.0 start.1.1 (seen_of g) (room_of (key_of g e.session).phase e.is.phase_is)
            (starter_is (key_of g e.session).phase e.is.phase_is (number_of start.0.1.role) start.2.number_is) start.2.starts_alone;
      }

  pub known_pipe : (i : ℕ) (held : StandingPipe J) → slice_get g.old.members.items i ≡ Some (standing.Pipe held) → IsOfPipe i held
  known_pipe i held at =
      let e = ended_pipe g.verdict g.terms g.exports g.rules g.opening.room.played.value g.old g.opening g.starts g.made g.opens g.played i held at in
      let start = g.played.starters i e.hands e.hands_at in
      record {
        standing = g.stands.members i (standing.Pipe held) at;
        session = e.session;
        session_at = e.session_at;
        is = e.is;
        begins = e.begins;
        hands = e.hands;
        hands_at = e.hands_at;
        ended = e.ended;
        ended_at = e.ended_at;
        done = e.done;
        primary = e.primary;
        peer = e.peer;
        starter = start.0;
        starter_place = start.1.0;
        starter_at = start.1.1;
        has_started = start.2;
        turned =
            pipe_turned (pipe_of g e.session) e.done.list e.hands.items e.ended.ops.items e.done.turns start.1.0 start.0 start.1.1 (seen_of g) (room_of (pipe_of g e.session).phase e.is.phase_is)
            (starter_is (pipe_of g e.session).phase e.is.phase_is (number_of start.0.1.role) start.2.number_is) start.2.starts_alone;
      }

  -- ---- turns, of either kind

  -- Those of its start come first. An actor's are those of its hand, which has seen a front of all.
  pub record HasTurns (i : ℕ) (begun rest : List Entry) : Type 0 where
    pub journal : TableId × Terms ℕ
    pub journal_at : slice_get (seen_of g).turns i ≡ Some journal
    pub hands : HandsView
    pub hands_at : slice_get g.played.hands i ≡ Some hands
    pub phase : PhaseTerms
    pub phase_is : phase ≡ phase_of g
    pub are : AreTurns (seen_of g) phase.starter begun rest
    pub start : are.start ≡ journal.1.start
    pub starter : HandView
    pub has_started : HasStarted (phase_of g).starter g.starts i starter
    pub begun_is : begun ≡ front starter.1
    pub said :
        (k : ℕ) (hand : HandView) → slice_get hands.items k ≡ Some hand → (actor : ℕ) → number_of hand.1.role ≡ actor → AreTurnsOf actor i (reverse (lines_of g)) (own hand.1)
        → AreTurnsOf actor i (reverse (lines_of g)) (receipts journal.1.start actor (begun ++ rest))
    pub heard : (k : ℕ) (hand : HandView) → slice_get hands.items k ≡ Some hand → IsPrefix (front hand.1) (begun ++ rest)

  pub own_turns : (i : ℕ) (held : StandingProtocol J) (f : IsOfProtocol i held) → HasTurns i (front f.starter.1) f.turned.rest
  own_turns i held f =
      let key = key_of g f.session in
      record {
        journal = key.turns;
        journal_at = get_map (turns_of g.terms) g.opening.room.members.items i (members.Own f.session) f.session_at;
        hands = f.hands;
        hands_at = f.hands_at;
        phase = key.phase;
        phase_is = f.is.phase_is;
        are = f.turned.turns;
        start = f.turned.start;
        starter = f.starter;
        has_started = f.has_started;
        begun_is = refl;
        said = λ k hand at actor number is.
            subst (λ l. AreTurnsOf actor i (reverse (lines_of g)) (receipts key.turns.1.start actor l)) (sym f.turned.all)
            (hand_said key f.done.list f.hands.items f.ended.ops.items f.done.imports.turns k hand at actor i (reverse (lines_of g)) number is);
        heard = λ k hand at. subst (IsPrefix (front hand.1)) (sym f.turned.all) (all_at (IsRetired key.turns f.done.list) f.hands.items k hand f.done.imports.turns.retired at).heard;
      }

  pub pipe_turns : (i : ℕ) (held : StandingPipe J) (f : IsOfPipe i held) → HasTurns i (front f.starter.1) f.turned.rest
  pipe_turns i held f =
      let key = pipe_of g f.session in
      record {
        journal = key.turns;
        journal_at = get_map (turns_of g.terms) g.opening.room.members.items i (members.Pipe f.session) f.session_at;
        hands = f.hands;
        hands_at = f.hands_at;
        phase = key.phase;
        phase_is = f.is.phase_is;
        are = f.turned.turns;
        start = f.turned.start;
        starter = f.starter;
        has_started = f.has_started;
        begun_is = refl;
        said = λ k hand at actor number is.
            subst (λ l. AreTurnsOf actor i (reverse (lines_of g)) (receipts key.turns.1.start actor l)) (sym f.turned.all)
            (pipe_hand_said key f.done.list f.hands.items f.ended.ops.items f.done.turns k hand at actor i (reverse (lines_of g)) number is);
        heard = λ k hand at. subst (IsPrefix (front hand.1)) (sym f.turned.all) (all_at (IsRetired key.turns f.done.list) f.hands.items k hand f.done.turns.retired at).heard;
      }
