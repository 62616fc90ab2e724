-- What an actor has done and was told, line by line (`IsDoing`), and whose seats it has, whatever it
-- has done (`HasSeats`).
-- Lines are read backwards; what an actor was told is in its order.
-- From: own.
-- Example: an actor that has done `@p1 show route` alone was told one text, and its hands have
-- recorded nothing.
use Rattle.std.specs.Prelude.{◌≡◌, ℕ, List, map, reverse}
use Rattle.std.specs.List.{All}
use Rattle.atomic_table.specs.Seated.{TableId}
use Rattle.jour_rule.specs.declared.views.Terms.{Terms}
use Rattle.jour.specs.Seats.{journal}
use Rattle.table_shared.specs.Opening.{TableOpening}
use Rattle.core_machine.specs.Lines.{Line, Reply}
use Rattle.core_machine.specs.Replies.{questions}
use Rattle.core_setup.specs.Setup.{Setup}
use Rattle.phase_legal.specs.Shown.{AreBeside, AreTold, HandView, IsActing, IsHandOf, PassView, Room}
use Rattle.phase_actors.specs.Texts.{IsText}
use Rattle.phase_actors.specs.declared.actor.Actor.{Actor}
use Rattle.phase_actors.specs.declared.actor.Told.{Told}

-- what the actor of a number was told, without its text
abbrev pub reply_of : ℕ → Told → Reply
reply_of actor told = record {
  actor = actor;
  table = told.table;
  at = told.at;
  query = told.query;
}

-- in the order in which the machine has replies, read backwards
abbrev pub replies_of : ℕ → List Told → List Reply
replies_of actor told = reverse (map (reply_of actor) told)

module _ (setup : Setup) (room : Room) (actor : ℕ) where
  -- It has done its lines among these, and was told what they ask.
  pub record HasDone
      (done : List Line) (hands : List HandView) (passes : List PassView) (told : List Told)
      : Type 0 where
    pub acting : IsActing room actor done hands passes
    pub replies : AreTold room actor hands passes (questions actor done) (replies_of actor told)
    pub texts : All (IsText setup passes) told

-- the same of an actor
abbrev pub IsDoing : Setup → Room → List Line → Actor → Type 0
IsDoing setup room done actor =
    HasDone setup room actor.number done actor.hands.items actor.passes.items actor.replies.items

-- a pass of a table
abbrev pub IsPassOf : TableId × Terms TableOpening → PassView → Type 0
IsPassOf table pass = journal pass ≡ table

-- its hands are of the protocols' turns, under its number, and its passes of the tables
pub record HasSeats (room : Room) (number : ℕ) (hands : List HandView) (passes : List PassView)
    : Type 0 where
  pub hands_are : AreBeside (IsHandOf room number) room.turns hands
  pub passes_are : AreBeside IsPassOf room.tables passes

abbrev pub IsSeated : Room → Actor → Type 0
IsSeated room actor = HasSeats room actor.number actor.hands.items actor.passes.items
