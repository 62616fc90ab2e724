-- Seats only grow, and what was seen stays seen.
use Rattle.std.proofs.Common.{◌≡◌, ℕ, suc, ◌≤◌, true, false, List, [], ◌∷◌, ◌++◌, length, set, cond, Some, refl, sym, ap, ◌∙◌, arith, append-nil, append_assoc, length-append}
use Rattle.std.specs.Prelude.{slice_get, ◌==◌}
use Rattle.atomic_table.specs.Seated.{TableId}
use Rattle.jour_rule.specs.declared.views.Entry.{Entry}
use Rattle.jour_rule.specs.declared.views.Terms.{Terms}
use Rattle.jour_rule.specs.declared.views.View.{View as Seat}
use Rattle.jour_rule.specs.Journal.{receipts}
use Rattle.jour.specs.Seats.{front, head_of, journal, number_of}
use Rattle.table_shared.specs.Opening.{TableOpening}
use Rattle.phase_legal.specs.Shown.{AreBeside, AreGrown, HandView, IsGrown, IsHandOf, IsSeen, PassView, Room}
use Rattle.phase_actors.specs.Acting.{IsPassOf}
use Rattle.phase_actors.proofs.Places.{beside_self, beside_set, beside_then}

module _ {O : Type 0} where
  pub grown_self : (a : TableId × Seat O) → IsGrown a a
  grown_self a = (refl, ([], append-nil (front a.1)))

  pub grown_then : (a b c : TableId × Seat O) → IsGrown a b → IsGrown b c → IsGrown a c
  grown_then a b c p q = (q.0 ∙ p.0, (p.1.0 ++ q.1.0, sym (append_assoc (front a.1) p.1.0 q.1.0) ∙ ap (λ z. z ++ q.1.0) p.1.1 ∙ q.1.1))

  pub grown_head : (a b : TableId × Seat O) → IsGrown a b → head_of a.1 ≤ head_of b.1
  grown_head a b p =
      let start : b.1.seen.terms.start ≡ a.1.seen.terms.start = ap (λ j. j.1.start) p.0 in
      let n = length-append (front a.1) p.1.0 in let m = ap length p.1.1 in omega (arith, start, n, m)

  pub all_grown_self : (xs : List (TableId × Seat O)) → AreGrown xs xs
  all_grown_self xs = beside_self (λ (a b : TableId × Seat O). IsGrown a b) xs grown_self

  pub all_grown_then : (xs ys zs : List (TableId × Seat O)) → AreGrown xs ys → AreGrown ys zs → AreGrown xs zs
  all_grown_then xs ys zs p q =
      beside_then (λ (a b : TableId × Seat O). IsGrown a b) (λ (a b : TableId × Seat O). IsGrown a b) (λ (a b : TableId × Seat O). IsGrown a b) xs ys zs grown_then p q

  pub all_grown_set : (xs : List (TableId × Seat O)) (i : ℕ) (x y : TableId × Seat O) → slice_get xs i ≡ Some x → IsGrown x y → AreGrown xs (set xs i y)
  all_grown_set xs i x y at p = beside_set (λ (a b : TableId × Seat O). IsGrown a b) xs i x y at grown_self p

receipts_le : (n k : ℕ) (xs zs : List Entry) → length (receipts n k xs) ≤ length (receipts n k (xs ++ zs))
receipts_le n k [] zs = omega arith
receipts_le n k (x ∷ xs) zs =
    let h = receipts_le (suc n) k xs zs in
    elim (x.maker == k) as (λ b. length (cond b ((suc n, x.words) ∷ receipts (suc n) k xs) (receipts (suc n) k xs)) ≤ length (cond b ((suc n, x.words) ∷ receipts (suc n) k (xs ++ zs)) (receipts (suc n) k (xs ++ zs)))) [
      | true ↦ omega (arith, h)
      | false ↦ h
    ]

pub passes_on : (tables : List (TableId × Terms TableOpening)) (old new : List PassView) → AreGrown old new → AreBeside IsPassOf tables old → AreBeside IsPassOf tables new
passes_on tables old new grown are = beside_then IsPassOf (λ (a b : PassView). IsGrown a b) IsPassOf tables old new (λ t a b e p. p.0 ∙ e) are grown

module _ (room : Room) where
  pub seen_on : (i port : ℕ) (hand : HandView) (old new : PassView) → IsGrown old new → IsSeen room i port hand old → IsSeen room i port hand new
  seen_on i port hand old new grown seen =
      let more = receipts_le old.1.seen.terms.start port (front old.1) grown.1.0 in
      let same : length (receipts old.1.seen.terms.start port (front old.1 ++ grown.1.0)) ≡ length (receipts new.1.seen.terms.start port (front new.1)) =
      ap (λ z. length (receipts z port (front old.1 ++ grown.1.0))) (sym (ap (λ j. j.1.start) grown.0)) ∙ ap (λ z. length (receipts new.1.seen.terms.start port z)) grown.1.1 in
      omega (arith, seen, more, same)

  -- one hand was used
  pub hands_set : (actor i : ℕ) (hands : List HandView) (old new : HandView) → slice_get hands i ≡ Some old → journal new ≡ journal old → number_of new.1.role ≡ number_of old.1.role
      → AreBeside (IsHandOf room actor) room.turns hands → AreBeside (IsHandOf room actor) room.turns (set hands i new)
  hands_set actor i hands old new at here number are =
      beside_then (IsHandOf room actor) IsSame (IsHandOf room actor) room.turns hands (set hands i new)
      (λ t a b is same. (same.0 ∙ is.0, same.1 ∙ is.1)) are
      (beside_set IsSame hands i old new at (λ z. (refl, refl)) (here, number))
    where
      IsSame : HandView → HandView → Type 0
      IsSame a b = (journal b ≡ journal a) × (number_of b.1.role ≡ number_of a.1.role)
