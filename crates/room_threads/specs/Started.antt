-- Actors whose threads run or that are done (`IsStarted`, `AreStarted`): what their threads owe is of
-- this room.
-- From: own.
-- Example: where no thread could be started the actor is done before the next one begins.
use Rattle.std.specs.Prelude.{◌≡◌, ℕ, List, map}
use Rattle.std.specs.List.{All}
use Rattle.import_lock.specs.Terms.{PhaseTerms}
use Rattle.room_members.specs.declared.room.Room.{Room}
use Rattle.phase_actors.specs.declared.actor.Actor.{Actor}
use Rattle.room_threads.specs.Acted.{HasActed}
use Rattle.room_threads.specs.declared.actor.Acted.{Acted}
use Rattle.room_threads.specs.declared.actor.Started.{Started}
use Rattle.room_threads.specs.declared.actor.Started.TheVariants.{Done, Running}

module _ {J P : Type 0} where
  abbrev pub IsStarted : (P → PhaseTerms) → Room J P → Started J P → Type 0
  IsStarted terms room (Running handle) = handle.promise.room.value ≡ room
  IsStarted terms room (Done acted) = HasActed terms room acted

  abbrev pub number_in : Started J P → ℕ
  number_in (Running handle) = handle.promise.actor
  number_in (Done acted) = acted.actor.number

abbrev pub number_of : Actor → ℕ
number_of actor = actor.number

abbrev pub acted_number : Acted → ℕ
acted_number acted = acted.actor.number

-- all of them, with the numbers of these actors, in their order
pub record AreStarted
    {J P : Type 0} (terms : P → PhaseTerms) (room : Room J P)
    (actors : List Actor) (all : List (Started J P)) : Type 0 where
  pub each : All (IsStarted terms room) all
  pub numbers : map number_in all ≡ map number_of actors

-- each has acted, with the numbers of these actors, in their order
pub record HaveActed
    {J P : Type 0} (terms : P → PhaseTerms) (room : Room J P)
    (numbers : List ℕ) (all : List Acted) : Type 0 where
  pub each : All (HasActed terms room) all
  pub numbers_are : map acted_number all ≡ numbers
