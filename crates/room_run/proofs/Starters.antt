-- Starts of static protocols: what a hand has seen that has recorded one of which all actors have
-- heard, and hands and passes for starts in a room.
use Rattle.std.proofs.Common.{◌≡◌, ℕ, suc, ◌+◌, ◌<◌, inl, inr, Bool, List, [], ◌∷◌, ◌++◌, length, map, reverse, take, set, get_or, Some, refl, sym, ap, subst, ◌∙◌, arith, length-append}
use Rattle.std.specs.Prelude.{if◌then◌else◌, slice_get}
use Rattle.std.proofs.lemmas.Bool.{ne_eqb}
use Rattle.std.proofs.lemmas.List.{length-map, reverse-append, take_more}
use mathlib.Core.List.{IsPrefix}
use Rattle.atomic_table.specs.Seated.{TableId}
use Rattle.core_machine.specs.Legal.{started}
use Rattle.core_machine.specs.Lines.{Act, turn_of}
use Rattle.core_machine.specs.Rules.{Rules}
use Rattle.core_setup.specs.Setup.{Exports}
use Rattle.core_setup.proofs.Numbered.{itself_is}
use Rattle.core_setup.proofs.PairLemmas.{cases_same, get-set, get-set_other, get_here, get_one, get_within, length-set_at}
use Rattle.import_core.specs.declared.operation.Op.TheVariants.{Start}
use Rattle.import_lock.specs.Terms.{PhaseTerms}
use Rattle.jour_rule.specs.Journal.{receipts}
use Rattle.jour_rule.specs.declared.views.Entry.{Entry}
use Rattle.jour_rule.specs.declared.views.Terms.{Terms}
use Rattle.jour_rule.specs.Laws.{AreOfMakers}
use Rattle.jour.specs.Seats.{front, journal, number_of, own}
use Rattle.phase_legal.specs.Shown.{AreBeside, AreGrown, HandView, PassView}
use Rattle.phase_legal.specs.Turns.{AreStarts, place_of, turn_words, words_in}
use Rattle.phase_actors.proofs.Growing.{passes_on}
use Rattle.table_shared.specs.Opening.{TableOpening}
use Rattle.room_members.specs.Members.{IsMember, IsRoom, MayRecord, room_seen, turns_of}
use Rattle.room_members.specs.declared.member.Member.{Member}
use Rattle.room_members.specs.declared.member.Member.TheVariants.{Own, Pipe}
use Rattle.room_members.specs.declared.room.Room.{Room}
use Rattle.room_run.specs.Inside.{AreOfOthers, AreStartSeats, HaveStarted, IsStarter, StartsOnce}
use Rattle.room_run.proofs.Turns.{place_zero, turn_more}
use Rattle.room_ends.specs.Played.{HasStarted, start_act, starts_of}

-- ---- a start of which all actors have heard

pub starts_once : (starter : ℕ) (old new : HandView) → journal new ≡ journal old → number_of new.1.role ≡ number_of old.1.role → IsPrefix (front old.1) (front new.1) → words_in (own new.1) ≡ words_in (own old.1) ++ turn_words 0 ∷ []
    → number_of old.1.role ≡ starter → old.1.seen.terms.opening ≡ starter + 1 → AreOfMakers new.1.seen.terms.opening (front new.1) → ((actor : ℕ) → actor < starter → AreOfOthers actor (front new.1)) → StartsOnce old new
starts_once starter old new here number prefix said mine hands lawful none =
    let start : new.1.seen.terms.start ≡ old.1.seen.terms.start = ap (λ (z : TableId × Terms ℕ). z.1.start) here in
    let opening : new.1.seen.terms.opening ≡ starter + 1 = ap (λ (z : TableId × Terms ℕ). z.1.opening) here ∙ hands in
    let before : receipts old.1.seen.terms.start starter (front old.1) ≡ own old.1 = ap (λ z. receipts old.1.seen.terms.start z (front old.1)) (sym mine) in
    let after : receipts old.1.seen.terms.start starter (front new.1) ≡ own new.1 =
    ap (λ z. receipts z starter (front new.1)) (sym start) ∙ ap (λ z. receipts new.1.seen.terms.start z (front new.1)) (sym mine ∙ sym number) in
    let more = turn_more old.1.seen.terms.start starter (front old.1) (front new.1) (turn_words 0) (subst (λ z. AreOfMakers z (front new.1)) opening lawful, none) prefix
    (ap words_in after ∙ said ∙ ap (λ z. words_in z ++ turn_words 0 ∷ []) (sym before)) in
    record { here = here; number = number; turn = more.0; place = place_zero more.0 more.2; more = more.1 }

-- ---- hands for starts, behind one more

one_more : (number : ℕ) (starts : List Act) → length (started (start_act number ∷ starts) number) ≡ suc (length (started starts number))
one_more number starts = ap (λ (b : Bool). length (if b then turn_of (start_act number) ∷ started starts number else started starts number)) (itself_is number)

none_more : (number other : ℕ) (starts : List Act) → (other ≡ number → ⊥) → started (start_act number ∷ starts) other ≡ started starts other
none_more number other starts apart = ap (λ (b : Bool). if b then turn_of (start_act number) ∷ started starts other else started starts other) (ne_eqb number other (λ e. apart (sym e)))

starts_behind : (turns : List Entry) (turn : Entry) → AreStarts turns → place_of turn ≡ 0 → AreStarts (turns ++ turn ∷ [])
starts_behind [] turn are is = (is, tt)
starts_behind (t ∷ turns) turn are is = (are.0, starts_behind turns turn are.1 is)

module _ (starter number : ℕ) (starts : List Act) (hands : List HandView) (old new : HandView) (at : slice_get hands number ≡ Some old) (once : StartsOnce old new) (were : HaveStarted starter starts hands) where
  started_here : HasStarted starter (start_act number ∷ starts) number new
  started_here =
      let was = were number old at in
      let longer : length (front new.1) ≡ length (front old.1 ++ once.turn ∷ []) = ap length once.more in
      let many = length-append (front old.1) (once.turn ∷ []) in
      let count = was.count in
      let more = one_more number starts in record {
        number_is = once.number ∙ was.number_is;
        starts_alone = subst AreStarts (sym once.more) (starts_behind (front old.1) once.turn was.starts_alone once.place);
        count = omega (arith, longer, many, count, more);
      }

  started_other : (other : ℕ) (hand : HandView) → (other ≡ number → ⊥) → slice_get (set hands number new) other ≡ Some hand → HasStarted starter (start_act number ∷ starts) other hand
  started_other other hand apart there =
      let was = were other hand (sym (get-set_other hands number other new apart) ∙ there) in
      record { number_is = was.number_is; starts_alone = was.starts_alone; count = was.count ∙ ap length (sym (none_more number other starts apart)) }

  started_same : (other : ℕ) (hand : HandView) → other ≡ number → slice_get (set hands number new) other ≡ Some hand → HasStarted starter (start_act number ∷ starts) other hand
  started_same other hand e there =
      let is : new ≡ hand = get_one (set hands number new) number new hand (get-set hands number new (get_within hands number old at)) (ap (slice_get (set hands number new)) (sym e) ∙ there) in
      subst (λ k. HasStarted starter (start_act number ∷ starts) k hand) (sym e) (subst (HasStarted starter (start_act number ∷ starts) number) is started_here)

  pub one_started : HaveStarted starter (start_act number ∷ starts) (set hands number new)
  one_started = λ other hand there. elim (cases_same other number) [ inl e ↦ started_same other hand e there | inr apart ↦ started_other other hand apart there ]

pub starts_more : (numbers : List ℕ) (i d : ℕ) → i < length numbers → starts_of (take (i + 1) numbers) ≡ start_act (get_or numbers i d) ∷ starts_of (take i numbers)
starts_more numbers i d less =
    let back : reverse (take (i + 1) numbers) ≡ get_or numbers i d ∷ reverse (take i numbers) = ap reverse (take_more numbers i d less) ∙ reverse-append (take i numbers) (get_or numbers i d ∷ []) in
    ap (map start_act) back

-- ---- seats for starts in a room

beside_changed : {X Y : Type 0} (P : X → Y → Type 0) (xs : List X) (ys : List Y) (k : ℕ) (old new : Y) → slice_get ys k ≡ Some old → ((x : X) → P x old → P x new) → AreBeside P xs ys → AreBeside P xs (set ys k new)
beside_changed P xs ys k old new at on are = record {
  count = length-set_at ys k new ∙ are.count;
  each = λ i x y here there. elim (cases_same i k) [
    | inl e ↦
        subst (P x) (get_one (set ys k new) k new y (get-set ys k new (get_within ys k old at)) (ap (slice_get (set ys k new)) (sym e) ∙ there))
        (on x (are.each i x old here (ap (slice_get ys) e ∙ at)))
    | inr apart ↦ are.each i x y here (sym (get-set_other ys k i new apart) ∙ there)
  ];
}

starter_on : (starter : ℕ) (turns : TableId × Terms ℕ) (old new : HandView) → StartsOnce old new → IsStarter starter turns old → IsStarter starter turns new
starter_on starter turns old new once is = record {
  journal_is = once.here ∙ is.journal_is;
  number_is = once.number ∙ is.number_is;
  hands_are = ap (λ (z : TableId × Terms ℕ). z.1.opening) once.here ∙ is.hands_are;
}

module _ {J P : Type 0} (terms : P → PhaseTerms) where
  start_here : (exports : P → ℕ → Exports) (rules : P → Rules) (phase : PhaseTerms) (tables : List (TableId × Terms TableOpening)) (number : ℕ) (member : Member J P) (hand : ℕ) → IsMember terms exports rules phase tables number member → hand ≡ phase.starter → MayRecord terms member hand 0 Start
  start_here exports rules phase tables number (Own session) hand is mine = record { hand_is = mine ∙ ap (λ (z : PhaseTerms). z.starter) (sym is.phase_is); op_is = refl; family = tt }
  start_here exports rules phase tables number (Pipe pipe) hand is mine = record { hand_is = mine ∙ ap (λ (z : PhaseTerms). z.starter) (sym is.phase_is); op_is = refl }

  -- the start of a protocol is recorded under the hand for it
  pub start_line : (exports : P → ℕ → Exports) (rules : P → Rules) (room : Room J P) → IsRoom terms exports rules room → (number hand : ℕ) → hand ≡ (terms room.played.value).starter → (member : Member J P) → slice_get room.members.items number ≡ Some member → MayRecord terms member hand 0 Start
  start_line exports rules room is number hand mine member at = start_here exports rules (terms room.played.value) room.tables.items number member hand (is.members number member at) mine

  module _ (room : Room J P) (hands : List HandView) (passes : List PassView) (seats : AreStartSeats terms room hands passes) where
    pub hand_there : (number : ℕ) → number < length room.members.items → number < length hands
    hand_there number less =
        let count = seats.hands_are.count in
        let many = length-map room.members.items (turns_of terms) in
        omega (arith, less, count, many)

    module _ (number : ℕ) (hand : HandView) (at : slice_get hands number ≡ Some hand) where
      turns_there : (turns : TableId × Terms ℕ) × (slice_get (room_seen terms room).turns number ≡ Some turns)
      turns_there =
          let inside = get_within hands number hand at in
          let count = seats.hands_are.count in
          get_here (room_seen terms room).turns number (omega (arith, inside, count))

      starter_is : IsStarter (terms room.played.value).starter turns_there.0 hand
      starter_is = seats.hands_are.each number turns_there.0 hand turns_there.1 at

      pub hand_is : slice_get (room_seen terms room).turns number ≡ Some (journal hand)
      hand_is = turns_there.1 ∙ ap Some (sym starter_is.journal_is)

      pub starter_number : number_of hand.1.role ≡ (terms room.played.value).starter
      starter_number = starter_is.number_is

      pub starter_hands : hand.1.seen.terms.opening ≡ (terms room.played.value).starter + 1
      starter_hands = starter_is.hands_are

      -- once a start was done
      pub seats_on : (hand_new : HandView) (passes_new : List PassView) → StartsOnce hand hand_new → AreGrown passes passes_new → AreStartSeats terms room (set hands number hand_new) passes_new
      seats_on hand_new passes_new once grown = record {
        hands_are = beside_changed (IsStarter (terms room.played.value).starter) (room_seen terms room).turns hands number hand hand_new at (λ turns was. starter_on (terms room.played.value).starter turns hand hand_new once was) seats.hands_are;
        passes_are = passes_on room.tables.items passes passes_new grown seats.passes_are;
      }
