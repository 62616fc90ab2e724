-- Lists of marks, as keys are marked one after another.
use Rattle.std.proofs.Common.{◌≡◌, Ordering, Less, Equal, Greater, ℕ, Bool, true, false, not, List, [], ◌∷◌, ◌++◌, Option, Some, None, refl, inl, inr, sym, ◌∙◌, ap, subst, cond, is_some, option_and_then}
use Rattle.std.specs.Prelude.{◌||◌, ◌&&◌, if◌then◌else◌}
use Rattle.std.specs.List.{filter}
use Rattle.std.specs.Map.{keys_of}
use Rattle.std.specs.BTreeMap.{insert_entry, is_at}
use Rattle.std.specs.Ordering.{is_eq, match_ordering}
use Rattle.export_core.specs.Standing.{held_keys}
use Rattle.std.proofs.lemmas.List.{append_assoc}
use Rattle.export_core.specs.Keys.{key_cmp, same_key}
use Rattle.export_core.specs.declared.log.Key.{Key}
use Rattle.export_core.proofs.Keys.{same_key_itself}
use Rattle.attrs.specs.declared.route.Route.{Route}
use Rattle.export_core.specs.declared.marks.Mark.{Mark}
use Rattle.export_core.specs.Marks.{at, find, holds, joined, unmarked_of, with_candidate, IsOnce, Listed, Puts}
use Rattle.export_core.proofs.Keys.{key_tells, take_if, skip_if, is_at_is, same_key_flip, holds-keys_of}

false_true : false ≡ true → ⊥
false_true e = cc

or_false : (b : Bool) → (b || false) ≡ b
or_false true = refl
or_false false = refl

or_more : (a b c : Bool) → (a || (b || c)) ≡ ((a || b) || c)
or_more true b c = refl
or_more false b c = refl

or_parts : (a b : Bool) → (a || b) ≡ false → (a ≡ false) × (b ≡ false)
or_parts true b e = absurd (let bad : true ≡ false = e in cc)
or_parts false b e = (refl, e)

pub holds-push : (q k : Key) (xs : List Key) → holds q (xs ++ k ∷ []) ≡ (holds q xs || same_key k q)
holds-push q k [] = or_false (same_key k q)
holds-push q k (x ∷ xs) = ap (λ b. same_key x q || b) (holds-push q k xs) ∙ or_more (same_key x q) (holds q xs) (same_key k q)

pub once_push : (k : Key) (xs : List Key) → IsOnce xs → holds k xs ≡ false → IsOnce (xs ++ k ∷ [])
once_push k [] o n = (refl, tt)
once_push k (x ∷ xs) o n =
    let parts = or_parts (same_key x k) (holds k xs) n in
    (holds-push x k xs ∙ rw (o.0, same_key_flip k x, parts.0) refl, once_push k xs o.1 parts.1)

-- what stands at each net after something is written at one
abbrev pub Writes : {X : Type 0} → Key → Option X → List (Key × X) → List (Key × X) → Type 0
Writes k w old new = (q : Key) → at q new ≡ cond (is_at (key_cmp k) q) w (at q old)

-- the same by the test of nets
pub written : {X : Type 0} (k : Key) (w : Option X) (old new : List (Key × X)) → Writes k w old new → (q : Key) → at q new ≡ (if same_key k q then w else at q old)
written k w old new writes q = writes q ∙ ap (λ b. cond b w (at q old)) (is_at_is k q)

abbrev pub inner_at : {X : Type 0} → Key → List (Key × Option X) → Option X
inner_at k es = option_and_then (λ m. m) (at k es)

inner_if : {X : Type 0} (b : Bool) (w o : Option (Option X)) → option_and_then (λ m. m) (if b then w else o) ≡ (if b then option_and_then (λ m. m) w else option_and_then (λ m. m) o)
inner_if true w o = refl
inner_if false w o = refl

-- what is written into a place
pub inner_written : {X : Type 0} (k : Key) (w : Option (Option X)) (old new : List (Key × Option X)) → Writes k w old new → (q : Key) → inner_at q new ≡ (if same_key k q then option_and_then (λ m. m) w else inner_at q old)
inner_written k w old new writes q = ap (λ o. option_and_then (λ m. m) o) (written k w old new writes q) ∙ inner_if (same_key k q) w (at q old)

pub none_of : {X : Type 0} (o : Option X) → is_some o ≡ false → o ≡ None
none_of None e = refl
none_of (Some x) e = absurd (let bad : true ≡ false = e in cc)

-- one of the candidates is marked, and what is left to mark gives the same
pub fill_step : (pos : ℕ) (due : Bool) (k : Key) (candidate : Option Route) (left left' : List (Key × Option Route)) (old new : Listed) → at k left ≡ Some candidate → Writes k None left left'
    → Puts k (record { at = pos; candidate = candidate; due = due }) old new
    → (q : Key) → with_candidate pos due (at q left') (find q new) ≡ with_candidate pos due (at q left) (find q old)
fill_step pos due k candidate left left' old new was gone puts q = elim (key_tells k q) [
  | inl w ↦
      let gq : at q left' ≡ None = take_if _ (written k None left left' gone q) w.0 in
      let pq : find q new ≡ Some (joined (find k old) (record { at = pos; candidate = candidate; due = due })) = take_if _ (puts.marks q) w.0 in
      let wq : at q left ≡ Some candidate = subst (λ q. at q left ≡ Some candidate) w.1 was in
      rw (gq, pq, wq, w.1) refl
  | inr w ↦
      let gq : at q left' ≡ at q left = skip_if _ (written k None left left' gone q) w.0 in
      let pq : find q new ≡ find q old = skip_if _ (puts.marks q) w.0 in
      rw (gq, pq) refl
]

-- a filter of nets sees only those that stand in the list
filter_held : (f g : Key → Bool) (xs : List Key) → ((q : Key) → holds q xs ≡ true → f q ≡ g q) → filter f xs ≡ filter g xs
filter_held f g [] same = refl
filter_held f g (x ∷ xs) same =
    let here : f x ≡ g x = same x (rw (same_key_itself x) refl) in
    let rest : filter f xs ≡ filter g xs = filter_held f g xs (λ q h. same q (or_right (same_key x q) (holds q xs) h)) in
    rw (here, rest) refl where
      or_right : (a b : Bool) → b ≡ true → (a || b) ≡ true
      or_right true b e = refl
      or_right false b e = e

-- the order grows by the unmarked of what is left to mark
pub order_step : (k : Key) (m : Mark) (left left' : List (Key × Option Route)) (candidate : Option Route) (old new : Listed) → left ≡ (k, candidate) ∷ left' → Writes k None left left' → Puts k m old new
    → keys_of new ++ unmarked_of new (keys_of left') ≡ keys_of old ++ unmarked_of old (keys_of left)
order_step k m left left' candidate old new split gone puts =
    let apart : holds k (keys_of left') ≡ false = holds-keys_of k left' ∙ ap (λ o. is_some o) (take_if _ (written k None left left' gone k) (same_key_itself k)) in
    let same : unmarked_of new (keys_of left') ≡ unmarked_of old (keys_of left') = filter_held _ _ (keys_of left') (λ q held. ap (λ o. not (is_some o)) (elim (key_tells k q) [
      | inl w ↦ absurd (false_true (sym apart ∙ subst (λ n. holds n (keys_of left') ≡ true) (sym w.1) held))
      | inr w ↦ skip_if _ (puts.marks q) w.0
    ])) in
    ap (λ xs. keys_of new ++ xs) same ∙ by_case (is_some (find k old)) (keys_of new) puts.order ∙ ap (λ l. keys_of old ++ unmarked_of old (keys_of l)) (sym split) where
      by_case : (b : Bool) (order' : List Key) → order' ≡ (if b then keys_of old else keys_of old ++ k ∷ []) → order' ++ unmarked_of old (keys_of left') ≡ keys_of old ++ cond (not b) (k ∷ unmarked_of old (keys_of left')) (unmarked_of old (keys_of left'))
      by_case true order' f = ap (λ o. o ++ unmarked_of old (keys_of left')) f
      by_case false order' f = ap (λ o. o ++ unmarked_of old (keys_of left')) f ∙ append_assoc (keys_of old) (k ∷ []) (unmarked_of old (keys_of left'))

and_false : (b : Bool) → (b && false) ≡ false
and_false true = refl
and_false false = refl

filter_named : (q x : Key) (fs : List Key) (b p h : Bool) → same_key x q ≡ true → b ≡ p → holds q fs ≡ (h && p) → holds q (cond b (x ∷ fs) fs) ≡ ((same_key x q || h) && p)
filter_named q x fs true true h s e r = rw s refl
filter_named q x fs false false h s e r = r ∙ and_false h ∙ sym (and_false (same_key x q || h))
filter_named q x fs true false h s e r = absurd (let bad : true ≡ false = e in cc)
filter_named q x fs false true h s e r = absurd (let bad : false ≡ true = e in cc)

filter_other : (q x : Key) (fs : List Key) (b p h : Bool) → same_key x q ≡ false → holds q fs ≡ (h && p) → holds q (cond b (x ∷ fs) fs) ≡ ((same_key x q || h) && p)
filter_other q x fs true p h s r = rw s r
filter_other q x fs false p h s r = rw s r

-- a filter of nets keeps those that pass
pub holds-filter : (q : Key) (p : Key → Bool) (xs : List Key) → holds q (filter p xs) ≡ (holds q xs && p q)
holds-filter q p [] = refl
holds-filter q p (x ∷ xs) = elim (key_tells x q) [
  | inl w ↦ filter_named q x (filter p xs) (p x) (p q) (holds q xs) w.0 (ap p w.1) (holds-filter q p xs)
  | inr w ↦ filter_other q x (filter p xs) (p x) (p q) (holds q xs) w.0 (holds-filter q p xs)
]

-- a place without a value holds none
pub held_insert : (k : Key) (es new : List (Key × Option ℕ)) → is_some (at k es) ≡ false → new ≡ insert_entry key_cmp es k None → held_keys new ≡ held_keys es
held_insert k es new missing e = ap held_keys e ∙ inserted es missing where
  inserted : (es : List (Key × Option ℕ)) → is_some (at k es) ≡ false → held_keys (insert_entry key_cmp es k None) ≡ held_keys es
  inserted [] missing = refl
  inserted (p ∷ es) missing = by_order (key_cmp k p.0) refl (inserted es) where
    by_order : (o : Ordering) → key_cmp k p.0 ≡ o → (is_some (at k es) ≡ false → held_keys (insert_entry key_cmp es k None) ≡ held_keys es) → held_keys (match_ordering o ((k, None) ∷ p ∷ es) ((p.0, None) ∷ es) (p ∷ insert_entry key_cmp es k None)) ≡ held_keys (p ∷ es)
    by_order Less e rest = refl
    by_order Equal e rest = absurd (let bad : true ≡ false = sym (ap (λ o. is_some (cond (is_eq o) (Some p.1) (at k es))) e) ∙ missing in cc)
    by_order Greater e rest = ap (λ l. if is_some p.1 then p.0 ∷ l else l) (rest (sym (ap (λ o. is_some (cond (is_eq o) (Some p.1) (at k es))) e) ∙ missing))
