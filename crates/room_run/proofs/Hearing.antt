-- Actors that hear of turns: they have still done none of their lines, and none of these turns is
-- their own.
use Rattle.std.proofs.Common.{◌≡◌, ℕ, ◌<◌, inl, inr, List, [], ◌∷◌, length, map, reverse, set, Some, refl, sym, ap, subst, ◌∙◌, arith}
use Rattle.std.specs.Prelude.{IfOk, slice_get}
use Rattle.std.specs.declared.result.Result.{Result}
use Rattle.std.specs.declared.result.Result.TheVariants.{Ok, Err}
use Rattle.std.proofs.lemmas.List.{length-map}
use Rattle.std.proofs.lemmas.Result.{IfOk-weaker}
use Rattle.core_setup.proofs.PairLemmas.{cases_same, get-set, get-set_other, get_here, get_one, get_within, length-set_at}
use Rattle.core_setup.specs.Setup.{Setup}
use Rattle.import_lock.specs.Terms.{PhaseTerms}
use Rattle.jour_rule.specs.Journal.{receipts}
use Rattle.jour_rule.specs.declared.views.Terms.{Terms}
use Rattle.atomic_table.specs.Seated.{TableId}
use Rattle.jour.specs.Seats.{front, journal, number_of, own}
use Rattle.phase_actors.specs.Acting.{HasDone, replies_of}
use Rattle.phase_actors.specs.declared.actor.Actor.{Actor}
use Rattle.phase_actors.specs.declared.actor.Told.{Told}
use Rattle.phase_actors.proofs.Growing.{all_grown_set, hands_set, passes_on, seen_on}
use Rattle.phase_actors.proofs.Places.{partner_back}
use Rattle.phase_actors.proofs.Replying.{all_told_on, texts_on}
use Rattle.core_machine.specs.Replies.{questions}
use Rattle.phase_legal.specs.Shown.{AreGrown, HandView, IsGrown, IsSeen, PassView, Room as Journals}
use Rattle.phase_legal.specs.Turns.{AreTurnsOf, words_in}
use Rattle.room_members.specs.Members.{room_seen, turns_of}
use Rattle.room_members.specs.declared.room.Room.{Room}
use Rattle.room_run.specs.Inside.{AreNew, AreOfOthers, HasHeard, IsAllSeen, IsNew}
use Rattle.room_run.proofs.Turns.{others_before}

no_words : (receipts : List (ℕ × List ℕ)) → words_in receipts ≡ [] → receipts ≡ []
no_words [] none = refl
no_words (r ∷ more) none = let bad : length (words_in (r ∷ more)) ≡ 0 = ap length none in absurd (omega (arith, bad))

-- ---- an actor

module _ (setup : Setup) (room : Journals) (actor protocol : ℕ) (hands : List HandView) (passes passes_new : List PassView) (told : List Told) (other old new : HandView)
    (at : slice_get hands protocol ≡ Some old) (heard : HasHeard other old new) (grown : AreGrown passes passes_new) (all : IsAllSeen room protocol new passes_new) (d : HasDone setup room actor [] hands passes told) where
  more_hands : AreGrown hands (set hands protocol new)
  more_hands = all_grown_set hands protocol old new at (heard.here, heard.grown)

  hand_here : (hand : HandView) → slice_get (set hands protocol new) protocol ≡ Some hand → new ≡ hand
  hand_here hand there = get_one (set hands protocol new) protocol new hand (get-set hands protocol new (get_within hands protocol old at)) there

  said : (i : ℕ) (hand : HandView) → slice_get (set hands protocol new) i ≡ Some hand → AreTurnsOf actor i [] (own hand.1)
  said i hand there = elim (cases_same i protocol) [
    | inl e ↦
        let same = hand_here hand (ap (slice_get (set hands protocol new)) (sym e) ∙ there) in
        let was : words_in (own old.1) ≡ [] = d.acting.said protocol old at in
        ap (λ (z : HandView). words_in (own z.1)) (sym same) ∙ ap words_in heard.said ∙ was
    | inr apart ↦ d.acting.said i hand (sym (get-set_other hands protocol i new apart) ∙ there)
  ]

  seen_before : (i port : ℕ) (hand : HandView) (pass : PassView) → slice_get room.ports i ≡ Some port → slice_get hands i ≡ Some hand → slice_get passes_new (room.rules.table i) ≡ Some pass → IsSeen room i port hand pass
  seen_before i port hand pass port_at hand_at pass_at =
      let was = partner_back (λ (a b : PassView). IsGrown a b) passes passes_new (room.rules.table i) pass grown pass_at in
      seen_on room i port hand was.0 pass (grown.each (room.rules.table i) was.0 pass was.1 pass_at) (d.acting.seen i port hand was.0 port_at hand_at was.1)

  seen : (i port : ℕ) (hand : HandView) (pass : PassView) → slice_get room.ports i ≡ Some port → slice_get (set hands protocol new) i ≡ Some hand → slice_get passes_new (room.rules.table i) ≡ Some pass → IsSeen room i port hand pass
  seen i port hand pass port_at hand_at pass_at = elim (cases_same i protocol) [
    | inl e ↦
        let same = hand_here hand (ap (slice_get (set hands protocol new)) (sym e) ∙ hand_at) in
        let there : IsSeen room protocol port new pass = all port pass (ap (slice_get room.ports) (sym e) ∙ port_at) (ap (λ z. slice_get passes_new (room.rules.table z)) (sym e) ∙ pass_at) in
        subst (λ z. IsSeen room i port z pass) same (subst (λ z. IsSeen room z port new pass) (sym e) there)
    | inr apart ↦ seen_before i port hand pass port_at (sym (get-set_other hands protocol i new apart) ∙ hand_at) pass_at
  ]

  -- it has done none of its lines
  still_new : HasDone setup room actor [] (set hands protocol new) passes_new told
  still_new = record {
    acting = record {
      hands_are = hands_set room actor protocol hands old new at heard.here heard.number d.acting.hands_are;
      passes_are = passes_on room.tables passes passes_new grown d.acting.passes_are;
      said = said;
      seen = seen;
    };
    replies = all_told_on room actor hands (set hands protocol new) passes passes_new (questions actor []) (replies_of actor told) more_hands grown d.replies;
    texts = texts_on setup passes passes_new told grown d.texts;
  }

-- and none of what the other hand has seen is its own
none_its_own : (setup : Setup) (room : Journals) (actor protocol : ℕ) (hands : List HandView) (passes : List PassView) (told : List Told) (other old new : HandView) → slice_get hands protocol ≡ Some old → HasDone setup room actor [] hands passes told
    → number_of old.1.role ≡ actor → HasHeard other old new → AreOfOthers actor (front other.1)
none_its_own setup room actor protocol hands passes told other old new at d mine heard =
    let was : words_in (own old.1) ≡ [] = d.acting.said protocol old at in
    let none : receipts new.1.seen.terms.start actor (front new.1) ≡ [] =
    ap (λ z. receipts new.1.seen.terms.start z (front new.1)) (sym mine ∙ sym heard.number) ∙ heard.said ∙ no_words (own old.1) was in
    others_before new.1.seen.terms.start actor (front other.1) (front new.1) heard.heard none

-- the same, where it was told
module _ {T E : Type 0} (result : Result T E) (setup : Setup) (room : Journals) (actor protocol : ℕ) (hands : List HandView) (passes : List PassView) where
  pub heard_all : (passes_new : List PassView) (told : List Told) (other old new : HandView) → slice_get hands protocol ≡ Some old → HasDone setup room actor [] hands passes told
      → IfOk result (λ _. HasHeard other old new) → IfOk result (λ _. AreGrown passes passes_new) → IfOk result (λ _. IsAllSeen room protocol new passes_new)
      → IfOk result (λ _. HasDone setup room actor [] (set hands protocol new) passes_new told)
  heard_all passes_new told other old new at d heard grown all = by result heard grown all
    where
      by : (r : Result T E) → IfOk r (λ _. HasHeard other old new) → IfOk r (λ _. AreGrown passes passes_new) → IfOk r (λ _. IsAllSeen room protocol new passes_new)
          → IfOk r (λ _. HasDone setup room actor [] (set hands protocol new) passes_new told)
      by (Ok x) is more seen = still_new setup room actor protocol hands passes passes_new told other old new at is more seen d
      by (Err f) is more seen = tt

  pub heard_none : (told : List Told) (other old new : HandView) → slice_get hands protocol ≡ Some old → HasDone setup room actor [] hands passes told → number_of old.1.role ≡ actor
      → IfOk result (λ _. HasHeard other old new) → IfOk result (λ _. AreOfOthers actor (front other.1))
  heard_none told other old new at d mine heard = IfOk-weaker result _ _ (λ _ is. none_its_own setup room actor protocol hands passes told other old new at d mine is) heard

module _ {J P : Type 0} (terms : P → PhaseTerms) (room : Room J P) where
  module _ (actor : Actor) (new : IsNew terms room actor) (protocol : ℕ) where
    pub hand_there : protocol < length room.members.items → protocol < length actor.hands.items
    hand_there less =
        let count = new.acting.hands_are.count in
        let many = length-map room.members.items (turns_of terms) in
        omega (arith, less, count, many)

    module _ (hand : HandView) (at : slice_get actor.hands.items protocol ≡ Some hand) where
      turns_there : (turns : TableId × Terms ℕ) × (slice_get (room_seen terms room).turns protocol ≡ Some turns)
      turns_there =
          let inside = get_within actor.hands.items protocol hand at in
          let count = new.acting.hands_are.count in
          get_here (room_seen terms room).turns protocol (omega (arith, inside, count))

      pub hand_is : slice_get (room_seen terms room).turns protocol ≡ Some (journal hand)
      hand_is = turns_there.1 ∙ ap Some (sym (new.acting.hands_are.each protocol turns_there.0 hand turns_there.1 at).0)

      pub number_is : number_of hand.1.role ≡ actor.number
      number_is = (new.acting.hands_are.each protocol turns_there.0 hand turns_there.1 at).1

  -- ---- all actors

  module _ (actors : List Actor) (are : AreNew terms room actors) (place : ℕ) (old new : Actor) (at : slice_get actors place ≡ Some old) where
    pub new_at : IsNew terms room old
    new_at = (are.each place old at).1

    pub number_at : old.number ≡ place
    number_at = (are.each place old at).0

    pub new_on : new.number ≡ old.number → IsNew terms room new → AreNew terms room (set actors place new)
    new_on same is = record {
      count = length-set_at actors place new ∙ are.count;
      each = λ k actor there. elim (cases_same k place) [
        | inl e ↦
            let here : new ≡ actor = get_one (set actors place new) place new actor (get-set actors place new (get_within actors place old at)) (ap (slice_get (set actors place new)) (sym e) ∙ there) in
            subst (λ (z : Actor). (z.number ≡ k) × IsNew terms room z) here (same ∙ number_at ∙ sym e, is)
        | inr apart ↦ are.each k actor (sym (get-set_other actors place k new apart) ∙ there)
      ];
    }
