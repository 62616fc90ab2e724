-- The members of a room and the hands of their turns (`CanClose`), and what is left of them all once
-- their locks are open and their hands and stamps have ended (`AreMembersLeft`).
-- Not modelled: phases with a fault, which are cut off.
-- From: own.
-- Example: with two actors each member, a pipe too, has three hands, the last one for starts.
use Rattle.std.specs.Prelude.{◌≡◌, ℕ, List, length, Some, slice_get}
use Rattle.std.specs.List.{AllByRecursion}
use Rattle.atomic_table.specs.Seated.{TableId}
use Rattle.attrs.specs.declared.judge.Verdict.{Verdict}
use Rattle.attrs.specs.declared.route.Route.{Route}
use Rattle.bits_ip.specs.Prefix.{Net}
use Rattle.core_machine.specs.Rules.{Rules}
use Rattle.core_setup.specs.Setup.{Exports}
use Rattle.import_lock.specs.Terms.{PhaseTerms}
use Rattle.jour_rule.specs.declared.views.Terms.{Terms}
use Rattle.jour.specs.Seats.{journal}
use Rattle.phase_close.specs.Closed.{SessionTerms}
use Rattle.phase_close.specs.Rooms.{HandsView, IsLeftOf}
use Rattle.phase_legal.specs.Shown.{AreBeside}
use Rattle.phase_pipes.specs.Sessions.{back_terms, out_terms, pipe_terms}
use Rattle.phase_pipes.specs.declared.session.PipeSession.{PipeSession}
use Rattle.phase_room.specs.Sessions.{channel_terms, protocol_terms}
use Rattle.phase_room.specs.declared.session.Session.{Session}
use Rattle.pipe_close.specs.Left.{IsPipeLeft, PipeLocks}
use Rattle.pipe_close.specs.declared.close.PipeLeft.{PipeLeft}
use Rattle.pipe_rest.specs.declared.member.MemberLeft.{MemberLeft}
use Rattle.pipe_rest.specs.declared.member.MemberLeft.TheVariants as lefts
use Rattle.room_members.specs.Members.{IsMember, turns_of}
use Rattle.room_members.specs.declared.member.Member.{Member}
use Rattle.room_members.specs.declared.member.Member.TheVariants as members
use Rattle.table_shared.specs.Opening.{TableOpening}

module _ {J P : Type 0} (terms : P → PhaseTerms) where
  -- each is of the turns of the member
  abbrev pub AreHandsOf : Member J P → HandsView → Type 0
  AreHandsOf member hands = AllByRecursion (λ hand. journal hand ≡ turns_of terms member) hands.items

  -- the locks of a session, and these hands of its turns
  abbrev pub session_key : (P → ℕ → Exports) → Session J P → HandsView → SessionTerms
  session_key exports session hands = record {
    protocol = protocol_terms terms session;
    channel = channel_terms exports session;
    hands = hands.items;
  }

  module _ (exports : P → ℕ → Exports) (rules : P → Rules) where
    -- by member the protocol of its number, of this phase and over these tables, and its hands
    pub record CanClose
        (phase : PhaseTerms) (tables : List (TableId × Terms TableOpening))
        (all : List (Member J P)) (hands : List HandsView) : Type 0 where
      pub members_are :
          (number : ℕ) (member : Member J P) → slice_get all number ≡ Some member
          → IsMember terms exports rules phase tables number member
      pub hands_are : AreBeside AreHandsOf all hands

    -- the locks of a pipe and of its directions
    abbrev pub locks_of : PipeSession J P → PipeLocks
    locks_of pipe = record {
      pipe = pipe_terms terms pipe;
      out = out_terms exports rules pipe;
      back = back_terms exports rules pipe;
    }

    module _ (verdict : J → Net → Route → Verdict) where
      pub record IsPipeLeftOf (pipe : PipeSession J P) (hands : HandsView) (left : PipeLeft J)
          : Type 0 where
        pub primary : left.primary ≡ pipe.primary
        pub peer : left.peer ≡ pipe.peer
        pub left_is : IsPipeLeft verdict (locks_of pipe) hands.items left

      abbrev pub IsMemberLeft : Member J P → HandsView → MemberLeft J → Type 0
      IsMemberLeft (members.Own session) hands (lefts.Own left) =
          IsLeftOf terms exports verdict session hands left
      IsMemberLeft (members.Pipe pipe) hands (lefts.Pipe left) = IsPipeLeftOf pipe hands left
      IsMemberLeft _ hands _ = ⊥

      pub record AreMembersLeft
          (all : List (Member J P)) (hands : List HandsView) (left : List (MemberLeft J))
          : Type 0 where
        pub count : length left ≡ length all
        pub each :
            (number : ℕ) (member : Member J P) (one : MemberLeft J)
            → slice_get all number ≡ Some member → slice_get left number ≡ Some one
            → (own : HandsView) → slice_get hands number ≡ Some own
            → IsMemberLeft member own one
