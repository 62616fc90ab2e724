-- The lines of a phase as actors have them, and that they can be done in a room (`IsScript`,
-- `CanDo`).
-- A line that names what is played and fits it can be done in a room that has all of it
-- (`NamesWhatIs`, `HasAll`).
-- Lines are in their order.
-- Not modelled: lines that drive a channel by hand, which actors pass by.
-- From: own.
-- Example: `@p1 add 10.0.0.0/8` can be done where p1 has a session whose table is of IPv4, and
-- `@p1 reload k1` where k1 is a pipe.
use Rattle.std.specs.Prelude.{◌≡◌, ◌<◌, ◌^◌, ℕ, List, length, map, Some, slice_get, ⊤}
use Rattle.import_core.specs.declared.operation.Op.{Op}
use Rattle.show_route.specs.declared.query.Query.{Query}
use Rattle.script_lines.specs.declared.script.Line.{Line}
use Rattle.script_lines.specs.declared.script.Line.TheVariants as lines
use Rattle.core_setup.specs.Announced.{IsOfFamily}
use Rattle.core_setup.specs.Setup.{FitsQuery}
use Rattle.sys_run.specs.Scripts.{line_of}
use Rattle.import_lock.specs.Terms.{PhaseTerms}
use Rattle.phase_legal.specs.Shown.{AreBeside}
use Rattle.phase_actors.specs.Script.{IsTableOf}
use Rattle.phase_room.specs.Sessions.{protocol_terms}
use Rattle.room_members.specs.declared.member.Member.{Member}
use Rattle.room_members.specs.declared.member.Member.TheVariants.{Own, Pipe}
use Rattle.room_members.specs.declared.room.Room.{Room}

module _ {J P : Type 0} (terms : P → PhaseTerms) where
  -- What the operation announces is of the family of the member's table. A pipe imports nothing.
  abbrev pub FitsMember : Member J P → Op → Type 0
  FitsMember (Own session) op =
      IsOfFamily (protocol_terms terms session).port.1.opening.family op
  FitsMember (Pipe pipe) op = ⊤

  module _ (room : Room J P) where
    -- the protocol of a number is a member, and the operation fits it
    pub record CanApply (protocol : ℕ) (op : Op) : Type 0 where
      pub member : Member J P
      pub member_at : slice_get room.members.items protocol ≡ Some member
      pub fits : FitsMember member op

    -- the query of a number is there, and so is all that it names
    pub record CanShow (number : ℕ) : Type 0 where
      pub query : Query
      pub query_at : slice_get (terms room.played.value).setup.queries number ≡ Some query
      pub table : query.table < length room.tables.items
      pub fits :
          FitsQuery (terms room.played.value).setup.tables
          (terms room.played.value).setup.protocols (terms room.played.value).setup.choices query

    abbrev pub CanDo : Line → Type 0
    CanDo (lines.Take channel count) = ⊤
    CanDo (lines.Push channel count) = ⊤
    CanDo (lines.Apply actor line protocol op) = CanApply protocol op
    CanDo (lines.Show actor query) = CanShow query

    -- These are the queries and the lines of the phase. Each line can be done, and a line's place is
    -- a number of 32 bits.
    pub record IsScript (queries : List Query) (lines : List Line) : Type 0 where
      pub queries_are : (terms room.played.value).setup.queries ≡ queries
      pub lines_are : (terms room.played.value).lines ≡ map (line_of queries) lines
      pub can : (n : ℕ) (line : Line) → slice_get lines n ≡ Some line → CanDo line
      pub few : length lines < 2 ^ 32

    -- each table has its journal, and each protocol is a member
    pub record HasAll : Type 0 where
      pub tables : AreBeside IsTableOf (terms room.played.value).setup.tables room.tables.items
      pub members :
          length room.members.items ≡ length (terms room.played.value).setup.protocols
