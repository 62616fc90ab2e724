-- What each actor of a phase that was played was told.
use Rattle.std.proofs.Common.{◌≡◌, ℕ, zero, suc, ◌+◌, ◌<◌, ◌≤◌, true, false, List, [], ◌∷◌, ◌++◌, length, map, reverse, Some, refl, sym, ap, subst, ◌∙◌, arith, append-nil}
use Rattle.std.specs.Prelude.{◌==◌, if◌then◌else◌, slice_get}
use Rattle.std.specs.List.{AllByRecursion}
use Rattle.std.proofs.lemmas.List.{length-map}
use Rattle.core_machine.specs.Lines.{Reply}
use Rattle.core_machine.specs.Replies.{questions, replies_to}
use Rattle.core_machine.proofs.Contents.{eqb_no, eqb_yes, if_false, if_true}
use Rattle.core_setup.proofs.Admitted.{all_reverse}
use Rattle.core_setup.proofs.Numbered.{none_some, some_same}
use Rattle.core_setup.proofs.PairLemmas.{get_here, get_within}
use Rattle.jour.specs.Seats.{front}
use mathlib.Core.List.{IsPrefix}
use Rattle.phase_legal.specs.Shown.{AreTold, HandView, PassView}
use Rattle.phase_actors.specs.Acting.{replies_of, reply_of}
use Rattle.phase_actors.specs.declared.actor.Actor.{Actor}
use Rattle.phase_actors.specs.declared.actor.Told.{Told}
use Rattle.phase_actors.proofs.Places.{get_map}
use Rattle.phase_ends.specs.Leaves.{WasTold}
use Rattle.room_close.proofs.Recorded.{has_seen}
use Rattle.room_whole.proofs.Asking.{questions_none}
use Rattle.room_whole.proofs.Chosen.{all_replies, begun, printed_more, rest, told_lists, turns_there}
use Rattle.room_whole.proofs.Given.{Given, entries_of, lines_of, logs_of, phase_of, said_of, seen_of, setup_of}
use Rattle.room_whole.proofs.EndedTurns.{many_turns}

-- ---- replies of actors by number

replies_both : (actor : ℕ) (xs ys : List Reply) → replies_to actor (xs ++ ys) ≡ replies_to actor xs ++ replies_to actor ys
replies_both actor [] ys = refl
replies_both actor (r ∷ xs) ys = elim (r.actor == actor) as (λ b. (if b then r ∷ replies_to actor (xs ++ ys) else replies_to actor (xs ++ ys)) ≡ (if b then r ∷ replies_to actor xs else replies_to actor xs) ++ replies_to actor ys) [
  | true ↦ ap (λ l. r ∷ l) (replies_both actor xs ys)
  | false ↦ replies_both actor xs ys
]

abbrev IsBy : ℕ → Reply → Type 0
IsBy actor r = r.actor ≡ actor

all_by : (actor : ℕ) (told : List Told) → AllByRecursion (IsBy actor) (map (reply_of actor) told)
all_by actor [] = tt
all_by actor (t ∷ told) = (refl, all_by actor told)

replies_own : (actor : ℕ) (rs : List Reply) → AllByRecursion (IsBy actor) rs → replies_to actor rs ≡ rs
replies_own actor [] all = refl
replies_own actor (r ∷ rs) all = if_true (r.actor == actor) (r ∷ replies_to actor rs) (replies_to actor rs) (eqb_yes r.actor actor all.0) ∙ ap (λ l. r ∷ l) (replies_own actor rs all.1)

replies_other : (actor other : ℕ) (rs : List Reply) → (other ≡ actor → ⊥) → AllByRecursion (IsBy other) rs → replies_to actor rs ≡ []
replies_other actor other [] apart all = refl
replies_other actor other (r ∷ rs) apart all =
    if_false (r.actor == actor) (r ∷ replies_to actor rs) (replies_to actor rs) (eqb_no r.actor actor (λ e. apart (sym all.0 ∙ e))) ∙ replies_other actor other rs apart all.1

told_by : (actor : ℕ) (told : List Told) → AllByRecursion (IsBy actor) (replies_of actor told)
told_by actor told = all_reverse (IsBy actor) (map (reply_of actor) told) (all_by actor told)

-- those of actors from a number on
replies_far : (actor n : ℕ) (lists : List (List Told)) → actor < n → replies_to actor (all_replies n lists) ≡ []
replies_far actor n [] less = refl
replies_far actor n (told ∷ lists) less =
    replies_both actor (replies_of n told) (all_replies (n + 1) lists)
    ∙ (λ j. replies_other actor n (replies_of n told) (λ e. omega (arith, less, e)) (told_by n told) j ++ replies_far actor (n + 1) lists (omega (arith, less)) j)

replies_beyond : (actor n : ℕ) (lists : List (List Told)) → n + length lists ≤ actor → replies_to actor (all_replies n lists) ≡ []
replies_beyond actor n [] far = refl
replies_beyond actor n (told ∷ lists) far =
    replies_both actor (replies_of n told) (all_replies (n + 1) lists)
    ∙ (λ j. replies_other actor n (replies_of n told) (λ e. omega (arith, far, e)) (told_by n told) j ++ replies_beyond actor (n + 1) lists (omega (arith, far)) j)

replies_from : (n k actor : ℕ) (lists : List (List Told)) (told : List Told) → slice_get lists k ≡ Some told → actor ≡ n + k → replies_to actor (all_replies n lists) ≡ replies_of actor told
replies_from n k actor [] told at is = none_some at
replies_from n zero actor (first ∷ lists) told at is =
    let same : actor ≡ n = omega (arith, is) in
    subst (λ m. replies_to actor (all_replies m (first ∷ lists)) ≡ replies_of actor told) same
    (replies_both actor (replies_of actor first) (all_replies (actor + 1) lists)
    ∙ (λ j. replies_own actor (replies_of actor first) (told_by actor first) j ++ replies_far actor (actor + 1) lists (omega arith) j)
    ∙ append-nil (replies_of actor first)
    ∙ ap (replies_of actor) (some_same at))
replies_from n (suc k) actor (first ∷ lists) told at is =
    replies_both actor (replies_of n first) (all_replies (n + 1) lists)
    ∙ (λ j. replies_other actor n (replies_of n first) (λ e. omega (arith, is, e)) (told_by n first) j ++ replies_from (n + 1) k actor lists told at (omega (arith, is)) j)

module _ {J P : Type 0} (g : Given J P) where
  pub replies_at : (actor : ℕ) (told : List Told) → slice_get (told_lists g) actor ≡ Some told → replies_to actor (printed_more g).replies ≡ replies_of actor told
  replies_at actor told at = replies_from 0 actor actor (told_lists g) told at (omega arith)

  -- ---- actors

  module _ (number : ℕ) (less : number < (phase_of g).starter) where
    actor : (a : Actor) × (slice_get g.played.actors number ≡ Some a)
    actor = let count = g.played.actors_count in get_here g.played.actors number (omega (arith, less, count))

    told_is : slice_get (told_lists g) number ≡ Some actor.0.replies.items
    told_is =
        get_map (λ list. list.items) g.made.told.items number actor.0.replies
        (ap (λ l. slice_get l number) g.played.told ∙ get_map (λ (a : Actor). a.replies) g.played.actors number actor.0 actor.1)

    turns_seen : (i : ℕ) (hand : HandView) → slice_get actor.0.hands.items i ≡ Some hand → IsPrefix (front hand.1) (begun g i ++ rest g i)
    turns_seen i hand at =
        let has = g.played.acted number actor.0 actor.1 in
        let inside = get_within actor.0.hands.items i hand at in
        let many = has.doing.acting.hands_are.count in
        let all = many_turns g in
        let held = get_here g.old.members.items i (omega (arith, inside, many, all)) in
        let h = turns_there g i held.0 held.1 in
        let item = has.hands_ended i hand h.hands at h.hands_at in
        h.heard item.0 hand item.1

    tables_seen : (t : ℕ) (pass : PassView) → slice_get actor.0.passes.items t ≡ Some pass → IsPrefix (front pass.1) (entries_of g t)
    tables_seen t pass at =
        let item = (g.played.acted number actor.0 actor.1).passes_ended in
        has_seen g.verdict g.opening.room.tables.items g.played.synced.lefts g.played.passes g.made.ended g.played.synced.over item.0 actor.0.passes item.1 t pass at

    pub was_told : WasTold (seen_of g) g.past.history (logs_of g) (entries_of g) (said_of g) (printed_more g) (λ i. begun g i ++ rest g i) number
    was_told =
        let has = g.played.acted number actor.0 actor.1 in
        record {
          hands = actor.0.hands.items;
          passes = actor.0.passes.items;
          turns_seen = turns_seen;
          tables_seen = tables_seen;
          told =
              subst (AreTold (seen_of g) number actor.0.hands.items actor.0.passes.items (questions number (reverse (lines_of g)))) (sym (replies_at number actor.0.replies.items told_is))
              (subst (λ n. AreTold (seen_of g) n actor.0.hands.items actor.0.passes.items (questions n (reverse (lines_of g))) (replies_of n actor.0.replies.items)) has.number_is has.doing.replies);
        }

  pub nobody : (number : ℕ) → (phase_of g).starter ≤ number → (questions number (reverse (lines_of g)) ≡ []) × (replies_to number (printed_more g).replies ≡ [])
  nobody number far =
      let count = g.played.actors_count in
      let one = ap length g.played.told in
      let two = length-map g.played.actors (λ (a : Actor). a.replies) in
      let three = length-map g.made.told.items (λ list. list.items) in
      (questions_none (phase_of g).starter (length (setup_of g).protocols) number (lines_of g) g.few far, replies_beyond number 0 (told_lists g) (omega (arith, far, count, one, two, three)))
