-- What an actor has done grows by an operation.
use Rattle.std.proofs.Common.{◌≡◌, ◌≢◌, ℕ, suc, inl, inr, Bool, true, false, List, [], ◌∷◌, ◌++◌, length, map, reverse, Some, refl, sym, ap, subst, ◌∙◌}
use Rattle.std.specs.Prelude.{IfOk, slice_get, ◌==◌, ◌&&◌, if◌then◌else◌}
use Rattle.std.specs.declared.result.Result.{Result}
use Rattle.std.specs.declared.result.Result.TheVariants.{Ok, Err}
use Rattle.std.proofs.lemmas.List.{map-append, reverse-append}
use Rattle.std.proofs.lemmas.Option.{slice_get_within}
use Rattle.import_core.specs.declared.operation.Op.{Op}
use Rattle.jour.specs.Seats.{own}
use Rattle.core_machine.specs.Lines.{Act, Apply, Line}
use Rattle.core_machine.specs.Replies.{questions}
use Rattle.core_machine.proofs.Contents.{eqb_no, eqb_yes}
use Rattle.core_setup.specs.Setup.{Setup}
use Rattle.phase_legal.specs.Shown.{AreBeside, AreGrown, HandView, IsActing, IsGrown, IsHandOf, IsSeen, PassView, Room}
use Rattle.phase_legal.specs.Turns.{AreTurnsOf, named, turn_words, words_in}
use Rattle.phase_actors.specs.Acting.{HasDone, HasSeats, IsSeated, replies_of}
use Rattle.phase_actors.specs.Steps.{Does, applying}
use Rattle.phase_actors.specs.declared.actor.Actor.{Actor}
use Rattle.phase_actors.specs.declared.actor.Told.{Told}
use Rattle.phase_actors.proofs.Places.{get_other, get_set, one, partner_back, same_or_not}
use Rattle.phase_actors.proofs.Growing.{all_grown_set, hands_set, passes_on, seen_on}
use Rattle.phase_actors.proofs.Replying.{all_told_on, texts_on}
use Rattle.room_actors.specs.Steps.{AreUsed, IsRecorded}

-- ---- which lines an actor has

both_yes : (b c : Bool) → b ≡ true → c ≡ true → (xs ys : List ℕ) → (if b && c then xs else ys) ≡ xs
both_yes b c e f xs ys = rw (e, f) refl

second_no : (b c : Bool) → c ≡ false → (xs ys : List ℕ) → (if b && c then xs else ys) ≡ ys
second_no true c e xs ys = rw e refl
second_no false c e xs ys = refl

named_here : (actor i : ℕ) (a : Act) (done : List Line) → a.actor ≡ actor → a.protocol ≡ i → named actor i (Apply a ∷ done) ≡ suc (length done) ∷ named actor i done
named_here actor i a done mine is = both_yes (a.actor == actor) (a.protocol == i) (eqb_yes a.actor actor mine) (eqb_yes a.protocol i is) (suc (length done) ∷ named actor i done) (named actor i done)

named_other : (actor i : ℕ) (a : Act) (done : List Line) → a.protocol ≢ i → named actor i (Apply a ∷ done) ≡ named actor i done
named_other actor i a done other = second_no (a.actor == actor) (a.protocol == i) (eqb_no a.protocol i other) (suc (length done) ∷ named actor i done) (named actor i done)

-- one more turn
turns_more : (ns : List ℕ) (n : ℕ) → map turn_words (reverse (n ∷ ns)) ≡ map turn_words (reverse ns) ++ turn_words n ∷ []
turns_more ns n = ap (map turn_words) (reverse-append (n ∷ []) ns) ∙ map-append turn_words (reverse ns) (n ∷ [])

-- what is told apart of an operation that went well
pub recorded : {T E : Type 0} (r : Result T E) (room : Room) (protocol place : ℕ) (hand hand_new : HandView) (passes : List PassView)
    → IfOk r (λ _. words_in (own hand_new.1) ≡ words_in (own hand.1) ++ turn_words place ∷ [])
    → IfOk r (λ _. (port : ℕ) (pass : PassView) → slice_get room.ports protocol ≡ Some port → slice_get passes (room.rules.table protocol) ≡ Some pass → IsSeen room protocol port hand_new pass)
    → IfOk r (λ _. IsRecorded room protocol place hand hand_new passes)
recorded (Ok x) room protocol place hand hand_new passes said seen = record { said = said; seen = seen }
recorded (Err f) room protocol place hand hand_new passes said seen = tt

module _ (setup : Setup) (room : Room) (actor : ℕ) where
  -- what was seen is seen by passes that have seen more
  seen_more : (done : List Line) (hands : List HandView) (passes passes_new : List PassView) → AreGrown passes passes_new → IsActing room actor done hands passes
      → (i port : ℕ) (hand : HandView) (pass : PassView) → slice_get room.ports i ≡ Some port → slice_get hands i ≡ Some hand → slice_get passes_new (room.rules.table i) ≡ Some pass → IsSeen room i port hand pass
  seen_more done hands passes passes_new grown acting i port hand pass port_at hand_at pass_at =
      let old = partner_back (λ (a b : PassView). IsGrown a b) passes passes_new (room.rules.table i) pass grown pass_at in
      seen_on room i port hand old.0 pass (grown.each (room.rules.table i) old.0 pass old.1 pass_at) (acting.seen i port hand old.0 port_at hand_at old.1)

  module _ (done : List Line) (a : Act) (hands hands_new : List HandView) (passes passes_new : List PassView) (told : List Told)
      (mine : a.actor ≡ actor) (used : AreUsed a.protocol hands hands_new passes passes_new)
      (is : IsRecorded room a.protocol (suc (length done)) used.hand used.hand_new passes_new) (d : HasDone setup room actor done hands passes told) where
    more_hands : AreGrown hands hands_new
    more_hands = subst (AreGrown hands) (sym used.hands_are) (all_grown_set hands a.protocol used.hand used.hand_new used.hand_at used.hand_grown)

    hand_here : slice_get hands_new a.protocol ≡ Some used.hand_new
    hand_here = ap (λ z. slice_get z a.protocol) used.hands_are ∙ get_set hands a.protocol used.hand_new (slice_get_within hands a.protocol used.hand used.hand_at)

    hand_there : (i : ℕ) (hand : HandView) → (i ≡ a.protocol → ⊥) → slice_get hands_new i ≡ Some hand → slice_get hands i ≡ Some hand
    hand_there i hand other at = sym (get_other hands a.protocol i used.hand_new other) ∙ ap (λ z. slice_get z i) (sym used.hands_are) ∙ at

    said : (i : ℕ) (hand : HandView) → slice_get hands_new i ≡ Some hand → AreTurnsOf actor i (Apply a ∷ done) (own hand.1)
    said i hand at = elim (same_or_not i a.protocol) [
      | inl e ↦
          let same : used.hand_new ≡ hand = one hands_new a.protocol used.hand_new hand hand_here (ap (slice_get hands_new) (sym e) ∙ at) in
          let old : words_in (own used.hand.1) ≡ map turn_words (reverse (named actor i done)) = d.acting.said i used.hand (ap (slice_get hands) e ∙ used.hand_at) in
          ap (λ z. words_in (own z.1)) (sym same) ∙ is.said ∙ ap (λ z. z ++ turn_words (suc (length done)) ∷ []) old
          ∙ sym (turns_more (named actor i done) (suc (length done))) ∙ ap (λ z. map turn_words (reverse z)) (sym (named_here actor i a done mine (sym e)))
      | inr other ↦
          d.acting.said i hand (hand_there i hand other at)
          ∙ ap (λ z. map turn_words (reverse z)) (sym (named_other actor i a done (λ e. other (sym e))))
    ]

    seen : (i port : ℕ) (hand : HandView) (pass : PassView) → slice_get room.ports i ≡ Some port → slice_get hands_new i ≡ Some hand → slice_get passes_new (room.rules.table i) ≡ Some pass → IsSeen room i port hand pass
    seen i port hand pass port_at hand_at pass_at = elim (same_or_not i a.protocol) [
      | inl e ↦
          let same : used.hand_new ≡ hand = one hands_new a.protocol used.hand_new hand hand_here (ap (slice_get hands_new) (sym e) ∙ hand_at) in
          let there : IsSeen room a.protocol port used.hand_new pass = is.seen port pass (ap (slice_get room.ports) (sym e) ∙ port_at) (ap (λ z. slice_get passes_new (room.rules.table z)) (sym e) ∙ pass_at) in
          subst (λ z. IsSeen room i port z pass) same (subst (λ z. IsSeen room z port used.hand_new pass) (sym e) there)
      | inr other ↦ seen_more done hands passes passes_new used.passes_grown d.acting i port hand pass port_at (hand_there i hand other hand_at) pass_at
    ]

    done_applied : HasDone setup room actor (Apply a ∷ done) hands_new passes_new told
    done_applied = record {
      acting = record {
        hands_are = subst (AreBeside (IsHandOf room actor) room.turns) (sym used.hands_are) (hands_set room actor a.protocol hands used.hand used.hand_new used.hand_at used.hand_grown.0 used.number d.acting.hands_are);
        passes_are = passes_on room.tables passes passes_new used.passes_grown d.acting.passes_are;
        said = said;
        seen = seen;
      };
      replies = all_told_on room actor hands hands_new passes passes_new (questions actor done) (replies_of actor told) more_hands used.passes_grown d.replies;
      texts = texts_on setup passes passes_new told used.passes_grown d.texts;
    }

  -- ---- seats, whatever was done

  seats_used : (protocol : ℕ) (hands hands_new : List HandView) (passes passes_new : List PassView) → AreUsed protocol hands hands_new passes passes_new
      → HasSeats room actor hands passes → HasSeats room actor hands_new passes_new
  seats_used protocol hands hands_new passes passes_new used seats = record {
    hands_are = subst (AreBeside (IsHandOf room actor) room.turns) (sym used.hands_are) (hands_set room actor protocol hands used.hand used.hand_new used.hand_at used.hand_grown.0 used.number seats.hands_are);
    passes_are = passes_on room.tables passes passes_new used.passes_grown seats.passes_are;
  }

-- ---- the same of an actor

module _ (setup : Setup) (room : Room) (place : ℕ) (old new : Actor) (number : new.number ≡ old.number) where
  pub does_apply : (asker line protocol : ℕ) (op : Op) → asker ≡ old.number → new.replies.items ≡ old.replies.items
      → (used : AreUsed protocol old.hands.items new.hands.items old.passes.items new.passes.items) → IsRecorded room protocol place used.hand used.hand_new new.passes.items
      → Does setup room place (applying asker line protocol op) old new
  does_apply asker line protocol op mine same used is done at d =
      subst (λ z. HasDone setup room z (applying asker line protocol op ∷ done) new.hands.items new.passes.items new.replies.items) (sym number)
      (subst (λ z. HasDone setup room old.number (applying asker line protocol op ∷ done) new.hands.items new.passes.items z) (sym same)
      (done_applied setup room old.number done (record { actor = asker; line = line; protocol = protocol; op = op }) old.hands.items new.hands.items old.passes.items new.passes.items old.replies.items mine used
      (subst (λ z. IsRecorded room protocol z used.hand used.hand_new new.passes.items) (sym at) is) d))

  pub seated_apply : (protocol : ℕ) → AreUsed protocol old.hands.items new.hands.items old.passes.items new.passes.items → IsSeated room old → IsSeated room new
  seated_apply protocol used seats =
      subst (λ z. HasSeats room z new.hands.items new.passes.items) (sym number)
      (seats_used setup room old.number protocol old.hands.items new.hands.items old.passes.items new.passes.items used seats)
