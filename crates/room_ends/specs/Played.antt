-- What a phase has come to once its threads have returned (`IsPlayed`): each actor has done its
-- lines and was told what it asked; their hands, and those for starts, have ended with the room, and so
-- have their passes; a hand for starts has seen the start of its protocol, if there was one, and
-- nothing else.
-- Not modelled: phases with a fault.
-- From: own.
-- Example: in the first phase of a static protocol, a pipe and two actors each of the two lists has
-- three hands; the third one has seen one turn of the static protocol, and none of the pipe.
use Rattle.std.specs.Prelude.{◌≡◌, ◌<◌, ℕ, List, length, map, reverse, Some, slice_get}
use Rattle.std.specs.List.{All}
use Rattle.attrs.specs.declared.judge.Verdict.{Verdict}
use Rattle.attrs.specs.declared.route.Route.{Route}
use Rattle.bits_ip.specs.Prefix.{Net}
use Rattle.import_core.specs.declared.operation.Op.TheVariants.{Start}
use Rattle.core_machine.specs.Lines.{Act, Apply, Ask, Line, Show, turn_of}
use Rattle.core_machine.specs.Legal.{started}
use Rattle.core_machine.specs.Rules.{Rules}
use Rattle.core_setup.specs.Setup.{Exports}
use Rattle.import_lock.specs.Terms.{PhaseTerms}
use Rattle.jour.specs.Seats.{front, number_of}
use Rattle.phase_legal.specs.Shown.{HandView}
use Rattle.phase_legal.specs.Turns.{AreOfActors, AreStarts, start_turn}
use Rattle.phase_actors.specs.Acting.{IsDoing}
use Rattle.phase_actors.specs.declared.actor.Actor.{Actor}
use Rattle.phase_close.specs.Rooms.{HandsView}
use Rattle.phase_close.specs.Whole.{PassesView}
use Rattle.room_ends.specs.Synced.{IsSynced}
use Rattle.room_members.specs.Members.{room_seen}
use Rattle.room_members.specs.declared.room.Room.{Room}
use Rattle.room_ends.specs.declared.played.PlayedRoom.{PlayedRoom}

-- the start of the protocol of a number, which no actor asks for
abbrev pub start_act : ℕ → Act
start_act number = record { actor = 0; line = 0; protocol = number; op = Start }

-- the starts of these protocols, one after another; read backwards
abbrev pub starts_of : List ℕ → List Act
starts_of numbers = map start_act (reverse numbers)

-- each is the turn of a start, which no actor asks for
abbrev pub AreStartActs : List Act → Type 0
AreStartActs starts = All (λ (a : Act). turn_of a ≡ start_turn) starts

-- the lines are of actors and name protocols with numbers below these
pub record AreOfFew (actors protocols : ℕ) (lines : List Line) : Type 0 where
  pub acts : AreOfActors actors lines
  pub asks : (n : ℕ) (q : Ask) → slice_get lines n ≡ Some (Show q) → q.actor < actors
  pub names : (n : ℕ) (a : Act) → slice_get lines n ≡ Some (Apply a) → a.protocol < protocols

-- it is at some place of the list
abbrev pub HasItem : {X : Type 0} → List X → X → Type 0
HasItem items item = (place : ℕ) × (slice_get items place ≡ Some item)

-- the hand of a protocol's start: it has seen as many turns as there are starts of it, all starts
pub record HasStarted (starter : ℕ) (starts : List Act) (number : ℕ) (hand : HandView)
    : Type 0 where
  pub number_is : number_of hand.1.role ≡ starter
  pub starts_alone : AreStarts (front hand.1)
  pub count : length (front hand.1) ≡ length (started starts number)

module _ {J P : Type 0} (verdict : J → Net → Route → Verdict) (terms : P → PhaseTerms)
    (exports : P → ℕ → Exports) (rules : P → Rules) where
  -- an actor that has done all lines of the phase, whose seats are among those that have ended
  pub record HasPlayed
      (room : Room J P) (hands : List HandsView) (passes : List PassesView) (number : ℕ)
      (actor : Actor) : Type 0 where
    pub number_is : actor.number ≡ number
    pub doing :
        IsDoing (terms room.played.value).setup (room_seen terms room)
        (reverse (terms room.played.value).lines) actor
    pub hands_ended :
        (protocol : ℕ) (hand : HandView) (list : HandsView)
        → slice_get actor.hands.items protocol ≡ Some hand → slice_get hands protocol ≡ Some list
        → HasItem list.items hand
    pub passes_ended : HasItem passes actor.passes

  -- the starts are what no actor asks for
  pub record IsPlayed (room : Room J P) (starts : List Act) (played : PlayedRoom J) : Type 0 where
    pub hands : List HandsView
    pub hands_count : length hands ≡ length room.members.items
    pub passes : List PassesView
    pub synced : IsSynced verdict terms exports rules room hands passes played.ended
    pub actors : List Actor
    pub actors_count : length actors ≡ (terms room.played.value).starter
    pub acted :
        (number : ℕ) (actor : Actor) → slice_get actors number ≡ Some actor
        → HasPlayed room hands passes number actor
    pub told : played.told.items ≡ map (λ (actor : Actor). actor.replies) actors
    pub starters :
        (number : ℕ) (list : HandsView) → slice_get hands number ≡ Some list
        → (hand : HandView) × HasItem list.items hand
        × HasStarted (terms room.played.value).starter starts number hand
