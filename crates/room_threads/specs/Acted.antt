-- What an actor is through its lines (`IsActed`), and from what it begins (`IsReady`).
-- From: own.
-- Example: an actor that had a fault is known to have its seats, and no more.
use Rattle.std.specs.Prelude.{◌≡◌, ℕ, List, [], reverse, None}
use Rattle.core_machine.specs.Rules.{Rules}
use Rattle.core_setup.specs.Setup.{Exports, Setup}
use Rattle.import_lock.specs.Terms.{PhaseTerms}
use Rattle.phase_legal.specs.Shown.{Room as Journals}
use Rattle.room_members.specs.Members.{IsRoom, room_seen}
use Rattle.room_members.specs.declared.room.Room.{Room}
use Rattle.script_lines.specs.declared.script.Line.{Line}
use Rattle.show_route.specs.declared.query.Query.{Query}
use Rattle.phase_actors.specs.Acting.{IsDoing, IsSeated}
use Rattle.room_actors.specs.Script.{IsScript}
use Rattle.phase_actors.specs.declared.actor.Actor.{Actor}
use Rattle.room_threads.specs.declared.actor.Acted.{Acted}

-- it has its seats, and where there was no fault it has done all its lines
pub record IsActed (setup : Setup) (room : Journals) (acted : Acted) : Type 0 where
  pub seats : IsSeated room acted.actor
  pub done : acted.fault ≡ None → IsDoing setup room (reverse room.lines) acted.actor

module _ {J P : Type 0} (terms : P → PhaseTerms) where
  -- It has done nothing yet, in a room in which its lines can be done. Who answers queries has what
  -- is played.
  pub record IsReady
      (exports : P → ℕ → Exports) (rules : P → Rules) (answers : Setup) (room : Room J P)
      (queries : List Query) (lines : List Line) (actor : Actor) : Type 0 where
    pub room_is : IsRoom terms exports rules room
    pub setup : answers ≡ (terms room.played.value).setup
    pub script : IsScript terms room queries lines
    pub new : IsDoing (terms room.played.value).setup (room_seen terms room) [] actor

  -- the same, in what is played in a room
  abbrev pub HasActed : Room J P → Acted → Type 0
  HasActed room acted = IsActed (terms room.played.value).setup (room_seen terms room) acted
