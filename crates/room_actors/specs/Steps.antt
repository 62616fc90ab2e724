-- What an operation does to the seats of an actor: a hand has seen more, and passes no less
-- (`AreUsed`); its line is recorded, and what it gave is seen (`IsRecorded`).
-- Not modelled: what a question does, and what a line does to the actor (specs/Steps of
-- phase_actors).
-- From: own.
-- Example: an operation of p1 changes the actor's hand of p1 and no other hand. One of a pipe has
-- no pass see more.
use Rattle.std.specs.Prelude.{◌≡◌, ◌++◌, ◌∷◌, ℕ, List, [], Some, slice_get, slice_set}
use Rattle.jour.specs.Seats.{number_of, own}
use Rattle.phase_legal.specs.Shown.{AreGrown, HandView, IsGrown, IsSeen, PassView, Room}
use Rattle.phase_legal.specs.Turns.{turn_words, words_in}

-- the hand of a protocol, and passes
pub record AreUsed
    (protocol : ℕ) (hands hands_new : List HandView) (passes passes_new : List PassView)
    : Type 0 where
  pub hand : HandView
  pub hand_at : slice_get hands protocol ≡ Some hand
  pub hand_new : HandView
  pub hands_are : hands_new ≡ slice_set hands protocol hand_new
  pub number : number_of hand_new.1.role ≡ number_of hand.1.role
  pub hand_grown : IsGrown hand hand_new
  pub passes_grown : AreGrown passes passes_new

-- The line of a place is recorded, and what the protocol's turns gave until then is seen by the pass
-- of its table. A pipe has none.
pub record IsRecorded
    (room : Room) (protocol place : ℕ) (hand hand_new : HandView) (passes_new : List PassView)
    : Type 0 where
  pub said : words_in (own hand_new.1) ≡ words_in (own hand.1) ++ turn_words place ∷ []
  pub seen :
      (port : ℕ) (pass : PassView) → slice_get room.ports protocol ≡ Some port
      → slice_get passes_new (room.rules.table protocol) ≡ Some pass
      → IsSeen room protocol port hand_new pass
