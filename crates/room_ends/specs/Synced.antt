-- A phase that has ended with all at rest (`IsSynced`): what is left of its members, which is over its
-- tables, and of each channel and each direction of a pipe that is up that it has read and sent all
-- to the end of the table that it reads (`IsSettled`).
-- From: own.
-- Example: behind a phase in which p1 announced one net to a table from which a pipe passes it on, p2,
-- which was up there, has sent it, stands at the position of its entry and has no mark; the pipe's
-- direction back, which has nothing to pass, stands at that position too.
use Rattle.std.specs.Prelude.{◌≡◌, ◌+◌, ℕ, true, List, length, Option, Some, None, IfSome, slice_get}
use Rattle.attrs.specs.declared.judge.Verdict.{Verdict}
use Rattle.attrs.specs.declared.route.Route.{Route}
use Rattle.bits_ip.specs.Prefix.{Net}
use Rattle.core_machine.specs.Rules.{Rules}
use Rattle.core_setup.specs.Setup.{Exports}
use Rattle.export_core.specs.Calls.{IsAtRest}
use Rattle.export_core.specs.Standing.{is_open}
use Rattle.export_core.specs.States.{State}
use Rattle.import_lock.specs.Terms.{PhaseTerms}
use Rattle.phase_close.specs.Closed.{TableList}
use Rattle.phase_close.specs.Rooms.{HandsView}
use Rattle.phase_close.specs.Whole.{PassesView}
use Rattle.pipe_rest.specs.declared.member.MemberLeft.{MemberLeft}
use Rattle.room_ends.specs.Ended.{IsRoomEnded}
use Rattle.room_ends.specs.Left.{AreMembersLeft}
use Rattle.room_ends.specs.declared.ended.MemberEnded.{MemberEnded}
use Rattle.room_ends.specs.declared.ended.MemberEnded.TheVariants.{Own, Pipe}
use Rattle.room_ends.specs.declared.ended.RoomEnded.{RoomEnded}
use Rattle.room_members.specs.declared.room.Room.{Room}

-- the position of a table's last entry
abbrev pub end_of : Option TableList → ℕ
end_of None = 0
end_of (Some list) = list.0.1.start + length list.1

-- what is up has read and sent all up to this position
abbrev pub IsSettled : {J : Type 0} → ℕ → State J → Type 0
IsSettled end exporter = is_open exporter.log ≡ true → IsAtRest exporter end

-- of a protocol its channel, where it has one, and of a pipe both directions
abbrev pub IsSettledMember : {J : Type 0} → List TableList → MemberEnded J → Type 0
IsSettledMember lists (Own session) =
    IfSome session.exporter (IsSettled (end_of (slice_get lists session.table)))
IsSettledMember lists (Pipe pipe) =
    IsSettled (end_of (slice_get lists pipe.primary)) pipe.out
    × IsSettled (end_of (slice_get lists pipe.peer)) pipe.back

module _ {J P : Type 0} (verdict : J → Net → Route → Verdict) (terms : P → PhaseTerms)
    (exports : P → ℕ → Exports) (rules : P → Rules) where
  pub record IsSynced
      (room : Room J P) (hands : List HandsView) (passes : List PassesView) (ended : RoomEnded J)
      : Type 0 where
    pub lefts : List (MemberLeft J)
    pub left : AreMembersLeft terms exports rules verdict room.members.items hands lefts
    pub over : IsRoomEnded verdict room.tables.items lefts passes ended
    pub settled :
        (number : ℕ) (member : MemberEnded J)
        → slice_get ended.members.items number ≡ Some member
        → IsSettledMember over.lists member
