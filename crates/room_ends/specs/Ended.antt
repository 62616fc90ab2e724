-- What a room has come to once its tables are closed (`IsRoomEnded`): what was left of each member
-- has ended there (`EndsMember`). What comes of a member so (`IsSessionDone`, `IsPipeDone`).
-- From: own.
-- Example: of a room of two tables, one protocol and a pipe between the tables, the second list has
-- what the pipe's direction out made.
use Rattle.std.specs.Prelude.{◌≡◌, ℕ, List, Some, slice_get}
use Rattle.std.specs.List.{AllByRecursion}
use Rattle.atomic_table.specs.Seated.{TableId}
use Rattle.attrs.specs.declared.judge.Verdict.{Verdict}
use Rattle.attrs.specs.declared.route.Route.{Route}
use Rattle.bits_ip.specs.Prefix.{Net}
use Rattle.jour_rule.specs.declared.views.Terms.{Terms}
use Rattle.phase_close.specs.Closed.{EndsOver, IsEnding, IsSessionEnded, SessionTerms, TableList}
use Rattle.phase_close.specs.Whole.{ArePassesHeard, PassesView, entries_at}
use Rattle.phase_close.specs.declared.seats.SessionEnded.{SessionEnded}
use Rattle.phase_legal.specs.Shown.{AreBeside, HandView}
use Rattle.pipe_close.specs.Ended.{AreListsOf, CanEnd, EndsPipe, IsPipeEnded}
use Rattle.pipe_close.specs.Left.{PipeLocks}
use Rattle.pipe_close.specs.declared.end.PipeEnded.{PipeEnded}
use Rattle.pipe_rest.specs.declared.member.MemberLeft.{MemberLeft}
use Rattle.pipe_rest.specs.declared.member.MemberLeft.TheVariants as lefts
use Rattle.room_ends.specs.declared.ended.MemberEnded.{MemberEnded}
use Rattle.room_ends.specs.declared.ended.MemberEnded.TheVariants as ends
use Rattle.room_ends.specs.declared.ended.RoomEnded.{RoomEnded}
use Rattle.table_shared.specs.Opening.{TableOpening}
use Rattle.table_shared.specs.Phases.{IsPhase}
use Rattle.table_shared.specs.declared.close.Phase.{Phase}

module _ {J : Type 0} (verdict : J → Net → Route → Verdict) where
  -- its tables are among these
  abbrev pub CanEndMember : List TableList → MemberLeft J → Type 0
  CanEndMember lists (lefts.Own left) = (key : SessionTerms) × IsEnding verdict lists key left
  CanEndMember lists (lefts.Pipe left) = CanEnd verdict lists left

  -- what was left has ended there
  abbrev pub EndsMember : List TableList → MemberLeft J → MemberEnded J → Type 0
  EndsMember lists (lefts.Own left) (ends.Own ended) = EndsOver verdict lists left ended
  EndsMember lists (lefts.Pipe left) (ends.Pipe ended) = EndsPipe verdict lists left ended
  EndsMember lists _ _ = ⊥

  -- Each table has one list of entries, of which the phases tell; the seats of all members have
  -- ended there, and so have the actors' passes.
  pub record IsRoomEnded
      (tables : List (TableId × Terms TableOpening)) (left : List (MemberLeft J))
      (actors : List PassesView) (ended : RoomEnded J) : Type 0 where
    pub lists : List TableList
    pub tables_are : AreListsOf tables lists
    pub phases :
        AreBeside (λ (l : TableList) (phase : Phase). IsPhase l.0.1 l.1 phase) lists
        ended.phases.items
    pub members : AreBeside (EndsMember lists) left ended.members.items
    pub passes : AllByRecursion (ArePassesHeard lists) actors

  -- ---- a member of a room that has ended

  -- the one of this number was a session over the table of a number, which has ended there
  pub record IsSessionDone
      (lists : List TableList) (all : List (MemberEnded J)) (number : ℕ) (key : SessionTerms)
      (table : ℕ) : Type 0 where
    pub ended : SessionEnded J
    pub there : slice_get all number ≡ Some (ends.Own ended)
    pub table_is : ended.table ≡ table
    pub session : IsSessionEnded verdict key (entries_at lists table) ended

  -- it was a pipe between the tables of these numbers, which has ended in both
  pub record IsPipeDone
      (lists : List TableList) (all : List (MemberEnded J)) (number : ℕ) (key : PipeLocks)
      (hands : List HandView) (primary peer : ℕ) : Type 0 where
    pub ended : PipeEnded J
    pub there : slice_get all number ≡ Some (ends.Pipe ended)
    pub primary_is : ended.primary ≡ primary
    pub peer_is : ended.peer ≡ peer
    pub pipe : IsPipeEnded verdict lists key hands ended
