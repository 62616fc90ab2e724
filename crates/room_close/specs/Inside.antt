-- What is known of a room behind its members' turns to rest, once its tables are closed
-- (`EndsAtRest`): all that is up has read to heads that are no less than any port has seen.
-- Not modelled: that these are the tables' last heads, which takes that nobody else has a port.
-- From: own.
-- Example: a direction of a pipe that is down has read no further, and rests by being down.
use Rattle.std.specs.Prelude.{ℕ, List, length}
use Rattle.std.specs.List.{AllByRecursion}
use Rattle.atomic_table.specs.Seated.{TableId}
use Rattle.attrs.specs.declared.judge.Verdict.{Verdict}
use Rattle.attrs.specs.declared.route.Route.{Route}
use Rattle.attrs.specs.declared.route.Src.{Src}
use Rattle.bits_ip.specs.Prefix.{Net}
use Rattle.jour_rule.specs.declared.views.Terms.{Terms}
use Rattle.phase_close.specs.Whole.{PassesView}
use Rattle.phase_legal.specs.Shown.{AreBeside}
use Rattle.pipe_rest.specs.Heads.{AreHeads, HasRead}
use Rattle.pipe_rest.specs.Later.{IsLaterMember}
use Rattle.pipe_rest.specs.declared.member.MemberLeft.{MemberLeft}
use Rattle.room_ends.specs.Ended.{IsRoomEnded}
use Rattle.room_ends.specs.declared.ended.RoomEnded.{RoomEnded}
use Rattle.table_shared.specs.Opening.{TableOpening}

module _ {J : Type 0} (verdict : J → Net → Route → Verdict) where
  pub record EndsAtRest
      (tables : List (TableId × Terms TableOpening)) (sources : List Src)
      (left : List (MemberLeft J)) (passes : List PassesView) (ended : RoomEnded J) : Type 0 where
    pub later : List (MemberLeft J)
    pub goes : AreBeside (IsLaterMember verdict sources) left later
    pub heads : List ℕ
    pub heads_are : AreHeads (length tables) later heads
    pub read : AllByRecursion (HasRead heads) later
    pub over : IsRoomEnded verdict tables later passes ended
