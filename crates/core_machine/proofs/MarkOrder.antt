-- The order of marks, for one who keeps order and marks apart; and an `up` by the count of changes below it.
use Rattle.std.proofs.Common.{◌≡◌, ℕ, ◌≤◌, inl, inr, Bool, true, false, List, [], ◌∷◌, ◌++◌, Some, refl, sym, ◌∙◌, ap, subst, arith, length, is_some}
use Rattle.std.specs.Prelude.{◌||◌, nat_lt, if◌then◌else◌}
use Rattle.std.specs.List.Sorted.{IsStrictlySortedBy}
use Rattle.std.proofs.lemmas.List.{append-nil, append_assoc, length-append}
use Rattle.std.proofs.lemmas.Bool.Decides.{eqb_tells}
use Rattle.attrs.specs.declared.route.Change.{Change}
use Rattle.export_core.specs.declared.log.Key.{Key}
use Rattle.export_core.specs.Keys.{key_cmp, same_key}
use Rattle.export_core.specs.Marks.{holds}
use Rattle.export_core.proofs.Keys.{key_tells, same_key_itself}
use Rattle.core_machine.specs.Enters.{comes_before}
use Rattle.core_machine.specs.Histories.{front, own}
use Rattle.core_machine.specs.Marks.{Marked, find, marked_keys, put, put_all, unmarked}
use Rattle.core_machine.proofs.Contents.{if_true, if_false, own_named, own_other}
use Rattle.core_machine.proofs.MarkSteps.{find_past, find_put_other}
use Rattle.core_machine.proofs.KeyLists.{above_held, before_not}

pub keys_put : (m : Marked) (ms : List Marked) → marked_keys (put m ms) ≡ (if is_some (find m.key ms) then marked_keys ms else marked_keys ms ++ m.key ∷ [])
keys_put m [] = refl
keys_put m (x ∷ ms) =
    let n : Marked = record m { due = m.due || x.due } in
    elim (key_tells x.key m.key) [
      | inl w ↦ ap marked_keys (if_true (same_key x.key m.key) (n ∷ ms) (x ∷ put m ms) w.0) ∙ ap (λ k. k ∷ marked_keys ms) (sym w.1)
          ∙ sym (ap (λ o. if is_some o then x.key ∷ marked_keys ms else x.key ∷ (marked_keys ms ++ m.key ∷ [])) (if_true (same_key x.key m.key) (Some x) (find m.key ms) w.0))
      | inr w ↦ ap marked_keys (if_false (same_key x.key m.key) (n ∷ ms) (x ∷ put m ms) w.0) ∙ ap (λ l. x.key ∷ l) (keys_put m ms)
          ∙ elim (is_some (find m.key ms)) as (λ b. x.key ∷ (if b then marked_keys ms else marked_keys ms ++ m.key ∷ []) ≡ (if b then x.key ∷ marked_keys ms else x.key ∷ (marked_keys ms ++ m.key ∷ []))) [ true ↦ refl | false ↦ refl ]
          ∙ sym (ap (λ o. if is_some o then x.key ∷ marked_keys ms else x.key ∷ (marked_keys ms ++ m.key ∷ [])) (find_past m.key x ms w.1))
    ]

unmarked_put : (m : Marked) (ks : List Key) (ms : List Marked) → ((q : Key) → holds q ks ≡ true → comes_before m.key q ≡ true) → unmarked ks (put m ms) ≡ unmarked ks ms
unmarked_put m [] ms far = refl
unmarked_put m (k ∷ ks) ms far =
    let lt : comes_before m.key k ≡ true = far k (ap (λ b. b || holds k ks) (same_key_itself k)) in
    let same : find k (put m ms) ≡ find k ms = find_put_other k m ms (λ e. before_not k (subst (λ n. comes_before n k ≡ true) e lt)) in
    let rest = unmarked_put m ks ms (λ q h. far q (or_true (same_key k q) (holds q ks) h)) in
    ap (λ o. if is_some o then unmarked ks (put m ms) else k ∷ unmarked ks (put m ms)) same ∙ ap (λ l. if is_some (find k ms) then l else k ∷ l) rest where
      or_true : (a b : Bool) → b ≡ true → (a || b) ≡ true
      or_true true b e = refl
      or_true false b e = e

-- a feed leaves the marked keys in their order, and puts the others behind them, in the order of keys
pub keys_put_all : (ks : List Key) (at : ℕ) (due : Bool) (ms : List Marked) → IsStrictlySortedBy key_cmp ks → marked_keys (put_all ks at due ms) ≡ marked_keys ms ++ unmarked ks ms
unfolding IsStrictlySortedBy
keys_put_all [] at due ms r = sym (append-nil (marked_keys ms))
keys_put_all (k ∷ ks) at due ms r =
    let m : Marked = record { key = k; at = at; due = due } in
    keys_put_all ks at due (put m ms) r.1 ∙ ap (λ l. marked_keys (put m ms) ++ l) (unmarked_put m ks ms (λ q h. above_held k q ks r.0 h)) ∙ ap (λ l. l ++ unmarked ks ms) (keys_put m ms)
    ∙ elim (is_some (find k ms)) as (λ b. (if b then marked_keys ms else marked_keys ms ++ k ∷ []) ++ unmarked ks ms ≡ marked_keys ms ++ (if b then unmarked ks ms else k ∷ unmarked ks ms)) [ true ↦ refl | false ↦ append_assoc (marked_keys ms) (k ∷ []) (unmarked ks ms) ]

-- a source's changes in a front are its oldest
pub own_front : (i p : ℕ) (h : List Change) → (cs : List Change) × (own i h ≡ cs ++ own i (front p h))
own_front i p [] = ([], refl)
own_front i p (c ∷ h) = elim (nat_lt (length h) p) as (λ b. (cs : List Change) × (own i (c ∷ h) ≡ cs ++ own i (if b then c ∷ h else front p h))) [
  | true ↦ ([], refl)
  | false ↦ let r = own_front i p h in elim (eqb_tells c.num i) [
    | inl w ↦ (c ∷ r.0, own_named i c h w.1 ∙ ap (λ l. c ∷ l) r.1)
    | inr w ↦ (r.0, own_other i c h w.1 ∙ r.1)
  ]
]

same_tails : (xs ys us vs : List Change) → xs ++ us ≡ ys ++ vs → length us ≡ length vs → us ≡ vs
same_tails [] [] us vs e l = e
same_tails [] (y ∷ ys) us vs e l = absurd (let n = ap length e in let bad : 1 ≤ 0 = omega (arith, n, length-append ys vs) in omega (arith, bad))
same_tails (x ∷ xs) [] us vs e l = absurd (let n = ap length e in let bad : 1 ≤ 0 = omega (arith, n, length-append xs us) in omega (arith, bad))
same_tails (x ∷ xs) (y ∷ ys) us vs e l = same_tails xs ys us vs (tail_same e) l where
  tail_same : {A : Type 0} {x y : A} {xs ys : List A} → x ∷ xs ≡ y ∷ ys → xs ≡ ys
  tail_same e = cc

-- it is enough to count a source's entries at or below a position
pub placed_by_count : (i p : ℕ) (h later earlier : List Change) → own i h ≡ later ++ earlier → length (own i (front p h)) ≡ length earlier → own i (front p h) ≡ earlier
placed_by_count i p h later earlier e n = let f = own_front i p h in same_tails f.0 later (own i (front p h)) earlier (sym f.1 ∙ e) n
