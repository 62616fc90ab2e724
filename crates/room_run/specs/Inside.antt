-- What the parts of a phase that is played promise each other: of the seats for starts
-- (`AreStartSeats`, `HaveStarted`), of what actors hear of starts (`HasHeard`), of actors (`AreNew`,
-- `HaveAllActed`), and of seats that are dealt by protocol and by actor (`AreDealt`).
-- From: own.
-- Example: with two actors and one protocol one list of three hands is dealt.
use Rattle.std.specs.Prelude.{◌≡◌, ◌≢◌, ◌+◌, ◌++◌, ◌∷◌, ℕ, List, [], length, map, reverse, Some, slice_get, ⊤}
use Rattle.std.specs.List.{All, AllByRecursion}
use Rattle.std.specs.declared.alloc.Global.{Global}
use Rattle.std.specs.declared.vec.Vec.{Vec}
use Rattle.atomic_table.specs.Seated.{TableId}
use Rattle.core_machine.specs.Lines.{Act}
use Rattle.import_lock.specs.Terms.{PhaseTerms}
use Rattle.jour_rule.specs.declared.views.Entry.{Entry}
use Rattle.jour_rule.specs.declared.views.Terms.{Terms}
use mathlib.Core.List.{IsPrefix}
use Rattle.jour.specs.Seats.{front, journal, number_of, own}
use Rattle.phase_legal.specs.Shown.{AreBeside, HandView, IsSeen, PassView, Room as Journals}
use Rattle.phase_legal.specs.Turns.{place_of}
use Rattle.phase_room.specs.Dealt.{AreLonger}
use Rattle.phase_actors.specs.Acting.{IsDoing, IsPassOf}
use Rattle.phase_actors.specs.declared.actor.Actor.{Actor}
use Rattle.phase_actors.specs.declared.actor.Told.{Told}
use Rattle.room_threads.specs.Acted.{HasActed}
use Rattle.room_threads.specs.declared.actor.Acted.{Acted}
use Rattle.phase_close.specs.Rooms.{HandsView}
use Rattle.phase_close.specs.Whole.{ArePassesOf, PassesView}
use Rattle.room_ends.specs.Left.{AreHandsOf}
use Rattle.room_members.specs.Members.{room_seen}
use Rattle.room_members.specs.declared.room.Room.{Room}
use Rattle.room_ends.specs.Played.{HasItem, HasStarted}
use Rattle.room_run.specs.declared.dealing.Dealt.{Dealt}

-- ---- starts

-- a hand for the start of a protocol with these turns, which are of hands up to its number
pub record IsStarter (starter : ℕ) (turns : TableId × Terms ℕ) (hand : HandView) : Type 0 where
  pub journal_is : journal hand ≡ turns
  pub number_is : number_of hand.1.role ≡ starter
  pub hands_are : hand.1.seen.terms.opening ≡ starter + 1

-- a hand has recorded a start, and has seen nothing else since
pub record StartsOnce (old new : HandView) : Type 0 where
  pub here : journal new ≡ journal old
  pub number : number_of new.1.role ≡ number_of old.1.role
  pub turn : Entry
  pub place : place_of turn ≡ 0
  pub more : front new.1 ≡ front old.1 ++ turn ∷ []

-- by protocol the hands for starts, once these were done
abbrev pub HaveStarted : (starter : ℕ) → List Act → List HandView → Type 0
HaveStarted starter starts hands =
    (number : ℕ) (hand : HandView) → slice_get hands number ≡ Some hand
    → HasStarted starter starts number hand

-- ---- what actors hear

-- A hand has seen more of its turns, all that another one has seen among them, and none of them is
-- its own.
pub record HasHeard (other old new : HandView) : Type 0 where
  pub here : journal new ≡ journal old
  pub number : number_of new.1.role ≡ number_of old.1.role
  pub grown : IsPrefix (front old.1) (front new.1)
  pub said : own new.1 ≡ own old.1
  pub heard : IsPrefix (front other.1) (front new.1)

-- what the turns of a protocol gave of which a hand knows is seen by the pass of its table
abbrev pub IsAllSeen : Journals → (protocol : ℕ) → HandView → List PassView → Type 0
IsAllSeen room protocol hand passes =
    (port : ℕ) (pass : PassView) → slice_get room.ports protocol ≡ Some port
    → slice_get passes (room.rules.table protocol) ≡ Some pass
    → IsSeen room protocol port hand pass

-- no turn is by the hand of this number
abbrev pub AreOfOthers : (hand : ℕ) → List Entry → Type 0
AreOfOthers hand [] = ⊤
AreOfOthers hand (e ∷ es) = (e.maker ≢ hand) × AreOfOthers hand es

-- ---- seats

-- each hand of an actor stands in the list of its protocol
abbrev pub AreAmong : List HandView → List HandsView → Type 0
AreAmong mine hands =
    (protocol : ℕ) (hand : HandView) (list : HandsView) → slice_get mine protocol ≡ Some hand
    → slice_get hands protocol ≡ Some list → HasItem list.items hand

-- one list of hands, by protocol, and one of passes, by table, more
pub record Deals (hands : List HandView) (passes : PassesView) (old new : Dealt) : Type 0 where
  pub hands_are : AreLonger old.hands.items new.hands.items hands
  pub passes_are : new.passes.items ≡ old.passes.items ++ passes ∷ []

-- an actor's, and what it was told
pub record DealsActor (actor : Actor) (old new : Dealt) : Type 0 where
  pub seats : Deals actor.hands.items actor.passes old new
  pub told : new.told.items ≡ old.told.items ++ actor.replies ∷ []

abbrev pub actor_of : Acted → Actor
actor_of acted = acted.actor

abbrev pub replies_in : Actor → Vec Told Global
replies_in actor = actor.replies

-- ---- over a room

module _ {J P : Type 0} (terms : P → PhaseTerms) where
  -- by protocol the hand for its start, and by table a pass
  pub record AreStartSeats
      (room : Room J P) (hands : List HandView) (passes : List PassView) : Type 0 where
    pub hands_are :
        AreBeside (IsStarter (terms room.played.value).starter) (room_seen terms room).turns hands
    pub passes_are : AreBeside IsPassOf room.tables.items passes

  -- an actor that has done all its lines, whose seats are among these
  pub record IsDealt (room : Room J P) (dealt : Dealt) (actor : Actor) : Type 0 where
    pub doing :
        IsDoing (terms room.played.value).setup (room_seen terms room)
        (reverse (terms room.played.value).lines) actor
    pub hands_among : AreAmong actor.hands.items dealt.hands.items
    pub passes_among : HasItem dealt.passes.items actor.passes

  -- the seats of these actors, and what they were told
  pub record AreDealt (room : Room J P) (actors : List Actor) (dealt : Dealt) : Type 0 where
    pub hands_are : AreBeside (AreHandsOf terms) room.members.items dealt.hands.items
    pub passes_are : AllByRecursion (ArePassesOf room.tables.items) dealt.passes.items
    pub told : dealt.told.items ≡ map replies_in actors
    pub each :
        (k : ℕ) (actor : Actor) → slice_get actors k ≡ Some actor → IsDealt room dealt actor

  -- an actor that has done none of its lines yet
  abbrev pub IsNew : Room J P → Actor → Type 0
  IsNew room actor =
      IsDoing (terms room.played.value).setup (room_seen terms room) [] actor

  -- all actors of the phase, by their numbers, before their lines
  pub record AreNew (room : Room J P) (actors : List Actor) : Type 0 where
    pub count : length actors ≡ (terms room.played.value).starter
    pub each :
        (k : ℕ) (actor : Actor) → slice_get actors k ≡ Some actor
        → (actor.number ≡ k) × IsNew room actor

  -- all actors of the phase, by their numbers, behind their lines or their first fault
  pub record HaveAllActed (room : Room J P) (all : List Acted) : Type 0 where
    pub count : length all ≡ (terms room.played.value).starter
    pub numbers :
        (k : ℕ) (acted : Acted) → slice_get all k ≡ Some acted → acted.actor.number ≡ k
    pub each : All (HasActed terms room) all
