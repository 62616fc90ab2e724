-- Actors that are given their seats, and what has begun once they are.
use Rattle.std.proofs.Common.{◌≡◌, ℕ, ◌≤◌, arith, List, [], ◌∷◌, ◌++◌, length, Some, sym, ap, subst, ◌∙◌}
use Rattle.std.specs.Prelude.{slice_get}
use Rattle.std.specs.declared.alloc.Global.{Global}
use Rattle.std.specs.declared.vec.Vec.{Vec}
use Rattle.jour.specs.Seats.{front}
use Rattle.core_setup.specs.Setup.{Setup}
use Rattle.core_setup.proofs.PairLemmas.{get_here, get_within}
use Rattle.phase_legal.specs.Shown.{AreBeside, HandView, PassView, Room as Journals}
use Rattle.phase_room.specs.Begun.{IsNewHand}
use Rattle.phase_room.specs.Opened.{AreOfEach, IsPassOf}
use Rattle.phase_room.proofs.Dealing.{last_or_before}
use Rattle.phase_actors.specs.Acting.{HasDone, HasSeats, IsDoing, IsPassOf as IsShown}
use Rattle.phase_actors.specs.declared.actor.Actor.{Actor}
use Rattle.phase_actors.proofs.Doing.{done_nothing}
use Rattle.room_open.specs.Laid.{IsSeated}
use Rattle.room_open.specs.Lists.{AreLater}

-- ---- one more

pub seated_more : (hands now : List (Vec HandView Global)) (passes shown : List (Vec PassView Global)) (number : ℕ) (actor : Actor) → AreLater number hands now → AreLater number passes shown → IsSeated now shown number actor → IsSeated hands passes number actor
seated_more hands now passes shown number actor own other is =
    let least : number ≤ number = omega arith in record {
      number_is = is.number_is;
      hands_are = sym (own.each number least) ∙ is.hands_are;
      passes_are = sym (other.each number least) ∙ is.passes_are;
      untold = is.untold;
    }

pub all_seated : (hands : List (Vec HandView Global)) (passes : List (Vec PassView Global)) (actors more : List Actor) (actor : Actor) (number : ℕ) → ((i : ℕ) (one : Actor) → slice_get actors i ≡ Some one → IsSeated hands passes i one) → length actors ≡ number → IsSeated hands passes number actor → more ≡ actors ++ actor ∷ []
    → (i : ℕ) (one : Actor) → slice_get more i ≡ Some one → IsSeated hands passes i one
all_seated hands passes actors more actor number were many last e i one at =
    last_or_before (λ k (a : Actor). IsSeated hands passes k a) actors actor one i were (subst (λ k. IsSeated hands passes k actor) (sym many) last) (ap (λ z. slice_get z i) (sym e) ∙ at)

-- ---- an actor that has done nothing

module _ (setup : Setup) (room : Journals) (hands : List (Vec HandView Global)) (passes : List (Vec PassView Global)) (own : AreOfEach IsNewHand room.turns hands) (shown : AreOfEach IsPassOf room.tables passes) where
  pub shown_at : (number : ℕ) (list : Vec PassView Global) → slice_get passes number ≡ Some list → AreBeside IsShown room.tables list.items
  shown_at number list at = record { count = (shown number list at).count; each = λ i table pass here there. (shown number list at).each i table pass here there }

  module _ (number : ℕ) (actor : Actor) (is : IsSeated hands passes number actor) where
    mine : AreBeside (IsNewHand number) room.turns actor.hands.items
    mine = own number actor.hands is.hands_are

    seats : HasSeats room actor.number actor.hands.items actor.passes.items
    seats = record {
      hands_are = record { count = mine.count; each = λ i turns hand here there. let h = mine.each i turns hand here there in (h.0, h.1 ∙ sym is.number_is) };
      passes_are = shown_at number actor.passes is.passes_are;
    }

    unseen : (i : ℕ) (hand : HandView) → slice_get actor.hands.items i ≡ Some hand → front hand.1 ≡ []
    unseen i hand at =
        let inside = get_within actor.hands.items i hand at in
        let many = mine.count in
        let turns = get_here room.turns i (omega (arith, inside, many)) in
        (mine.each i turns.0 hand turns.1 at).2

    pub is_doing : IsDoing setup room [] actor
    is_doing = subst (λ z. HasDone setup room actor.number [] actor.hands.items actor.passes.items z) (sym is.untold) (done_nothing setup room actor.number actor.hands.items actor.passes.items seats unseen)
