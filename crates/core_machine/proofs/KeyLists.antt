-- Lists of keys in order: two that hold the same are one, each finite choice of keys has one, and what
-- a list holds with a key more or less.
use Rattle.std.proofs.Common.{◌≡◌, ◌≢◌, ◌⊎◌, ℕ, inl, inr, Bool, true, false, List, [], ◌∷◌, refl, sym, ◌∙◌, ap, subst, arith, Ordering, Less, Equal, Greater}
use Rattle.std.specs.Prelude.{◌&&◌, ◌||◌, nat_lt, if◌then◌else◌}
use Rattle.std.specs.List.{AllByRecursion}
use Rattle.std.specs.List.Sorted.{IsStrictlySortedBy}
use Rattle.std.specs.Ordering.{is_eq, is_lt, nat_cmp, ordering_then}
use Rattle.std.proofs.lemmas.Bool.Decides.{eqb_tells, nat_tests}
use Rattle.bits_ip.specs.Prefix.{net_cmp, precedes, same_net}
use Rattle.attrs.proofs.Nets.{net_cases, precedes_chain, precedes_other, same_net_itself}
use Rattle.export_core.specs.declared.log.Key.{Key}
use Rattle.export_core.specs.Keys.{key_cmp, same_key}
use Rattle.export_core.specs.Marks.{IsOnce, holds}
use Rattle.export_core.proofs.Keys.{key_tells, same_key_itself}
use Rattle.export_core.proofs.Nets.{is_at_is as net_at, net_tells}
use Rattle.core_machine.specs.Enters.{comes_before, with_key, without_key}
use Rattle.core_machine.proofs.Contents.{if_true, if_false}

-- ---- the order of keys

lt_then : (o p : Ordering) → is_lt (ordering_then o p) ≡ (is_lt o || (is_eq o && is_lt p))
lt_then Less p = refl
lt_then Equal p = refl
lt_then Greater p = refl

lt_nat : (a b : ℕ) → is_lt (nat_cmp a b) ≡ nat_lt a b
lt_nat a b = grind (arith, nat_tests)

before_is : (a b : Key) → comes_before a b ≡ (precedes a.net b.net || (same_net a.net b.net && nat_lt a.num b.num))
before_is a b = lt_then (net_cmp a.net b.net) (nat_cmp a.num b.num) ∙ ap (λ e. precedes a.net b.net || (e && is_lt (nat_cmp a.num b.num))) (net_at a.net b.net) ∙ ap (λ l. precedes a.net b.net || (same_net a.net b.net && l)) (lt_nat a.num b.num)

nat_cases : (a b : ℕ) → (a ≡ b) ⊎ ((nat_lt a b ≡ true) ⊎ (nat_lt b a ≡ true))
nat_cases a b = elim (eqb_tells a b) [ inl w ↦ inl w.1 | inr w ↦ inr (by_test (nat_lt a b) refl w.1) ] where
  by_test : (t : Bool) → nat_lt a b ≡ t → (a ≡ b → ⊥) → (nat_lt a b ≡ true) ⊎ (nat_lt b a ≡ true)
  by_test true e other = inl e
  by_test false e other = inr (grind (arith, nat_tests, e, other))

pub by_net : (a b : Key) → precedes a.net b.net ≡ true → comes_before a b ≡ true
by_net a b e = before_is a b ∙ ap (λ t. t || (same_net a.net b.net && nat_lt a.num b.num)) e

by_num : (a b : Key) → a.net ≡ b.net → nat_lt a.num b.num ≡ true → comes_before a b ≡ true
by_num a b e lt = before_is a b ∙ ap (λ t. precedes a.net b.net || (t && nat_lt a.num b.num)) (subst (λ n. same_net a.net n ≡ true) e (same_net_itself a.net)) ∙ ap (λ t. precedes a.net b.net || t) lt ∙ or_true (precedes a.net b.net) where
  or_true : (t : Bool) → (t || true) ≡ true
  or_true true = refl
  or_true false = refl

key_of_parts : (a b : Key) → a.net ≡ b.net → a.num ≡ b.num → a ≡ b
key_of_parts a b e f = λ i. record { net = e i; num = f i }

pub key_cases : (a b : Key) → (a ≡ b) ⊎ ((comes_before a b ≡ true) ⊎ (comes_before b a ≡ true))
key_cases a b = elim (net_cases a.net b.net) [
  | inl w ↦ elim (nat_cases a.num b.num) [
    | inl z ↦ inl (key_of_parts a b w z)
    | inr z ↦ inr (elim z [ inl y ↦ inl (by_num a b w y) | inr y ↦ inr (by_num b a (sym w) y) ])
  ]
  | inr w ↦ inr (elim w [ inl z ↦ inl (by_net a b z) | inr z ↦ inr (by_net b a z) ])
]

-- by net, or of one net by number
before_parts : (a b : Key) → comes_before a b ≡ true → (precedes a.net b.net ≡ true) ⊎ ((a.net ≡ b.net) × (nat_lt a.num b.num ≡ true))
before_parts a b e = by_test (precedes a.net b.net) refl (sym (before_is a b) ∙ e) where
  and_both : (s t : Bool) → (s && t) ≡ true → (s ≡ true) × (t ≡ true)
  and_both true t e = (refl, e)
  and_both false t e = absurd (let bad : false ≡ true = e in cc)

  by_test : (t : Bool) → precedes a.net b.net ≡ t → (t || (same_net a.net b.net && nat_lt a.num b.num)) ≡ true → (precedes a.net b.net ≡ true) ⊎ ((a.net ≡ b.net) × (nat_lt a.num b.num ≡ true))
  by_test true e w = inl e
  by_test false e w = let z = and_both (same_net a.net b.net) (nat_lt a.num b.num) w in elim (net_tells a.net b.net) [ inl y ↦ inr (y.1, z.1) | inr y ↦ absurd (let bad : true ≡ false = sym z.0 ∙ y.0 in cc) ]

pub before_chain : (a b c : Key) → comes_before a b ≡ true → comes_before b c ≡ true → comes_before a c ≡ true
before_chain a b c e f = elim (before_parts a b e) [
  | inl w ↦ elim (before_parts b c f) [
    | inl z ↦ by_net a c (precedes_chain a.net b.net c.net w z)
    | inr z ↦ by_net a c (subst (λ n. precedes a.net n ≡ true) z.0 w)
  ]
  | inr w ↦ elim (before_parts b c f) [
    | inl z ↦ by_net a c (subst (λ n. precedes n c.net ≡ true) (sym w.0) z)
    | inr z ↦ by_num a c (w.0 ∙ z.0) (lt_chain a.num b.num c.num w.1 z.1)
  ]
] where
  lt_chain : (x y z : ℕ) → nat_lt x y ≡ true → nat_lt y z ≡ true → nat_lt x z ≡ true
  lt_chain x y z e f = grind (arith, nat_tests, e, f)

pub before_not : (a : Key) → comes_before a a ≡ true → ⊥
before_not a e = elim (before_parts a a e) [
  | inl w ↦ let other = precedes_other a.net a.net w in let bad : false ≡ true = sym other ∙ same_net_itself a.net in cc
  | inr w ↦ lt_not a.num w.1
] where
  lt_not : (x : ℕ) → nat_lt x x ≡ true → ⊥
  lt_not x e = grind (arith, nat_tests, e)

-- ---- lists in order

pub less_is : (o : Ordering) → is_lt o ≡ true → o ≡ Less
less_is Less e = refl
less_is Equal e = absurd (let bad : false ≡ true = e in cc)
less_is Greater e = absurd (let bad : false ≡ true = e in cc)

abbrev pub Above : Key → List Key → Type 0
Above k keys = AllByRecursion (λ q. key_cmp k q ≡ Less) keys

-- each net in the tail of a list in order is above the head
pub above_held : (k q : Key) (keys : List Key) → Above k keys → holds q keys ≡ true → comes_before k q ≡ true
above_held k q [] a e = absurd (let bad : false ≡ true = e in cc)
above_held k q (x ∷ keys) a e = elim (key_tells x q) [
  | inl w ↦ subst (λ z. comes_before k z ≡ true) w.1 (ap is_lt a.0)
  | inr w ↦ above_held k q keys a.1 (ap (λ b. b || holds q keys) (sym w.0) ∙ e)
]

above_more : (a k : Key) (keys : List Key) → comes_before a k ≡ true → Above k keys → Above a keys
above_more a k [] lt all = tt
above_more a k (x ∷ keys) lt all = (less_is (key_cmp a x) (before_chain a k x lt (ap is_lt all.0)), above_more a k keys lt all.1)

before_apart : (a b : Key) → comes_before a b ≡ true → comes_before b a ≡ true → ⊥
before_apart a b e f = before_not a (before_chain a b a e f)

or_right : (a b : Bool) → a ≡ false → (a || b) ≡ b
or_right true b e = absurd (let bad : true ≡ false = e in cc)
or_right false b e = refl

or_left : (a b : Bool) → a ≡ true → (a || b) ≡ true
or_left true b e = refl
or_left false b e = absurd (let bad : false ≡ true = e in cc)

held_itself : (x : Key) (xs : List Key) → holds x (x ∷ xs) ≡ true
held_itself x xs = or_left (same_key x x) (holds x xs) (same_key_itself x)

-- a list in order holds none at or below its head in the tail
not_held : (x k : Key) (xs : List Key) → Above x xs → x ≡ k → holds k xs ≡ false
not_held x k xs a e = elim (holds k xs) as (λ b. holds k xs ≡ b → b ≡ false) [
  | true ↦ λ h. absurd (before_not x (subst (λ q. comes_before x q ≡ true) (sym e) (above_held x k xs a h)))
  | false ↦ λ h. refl
] refl

-- where a list in order holds what another one holds, its head isn't before the other's
not_before : (a b : Key) (as_ bs : List Key) → Above b bs → ((k : Key) → holds k (a ∷ as_) ≡ holds k (b ∷ bs)) → comes_before a b ≡ true → ⊥
not_before a b as_ bs above same lt =
    let here : holds a (b ∷ bs) ≡ true = sym (same a) ∙ held_itself a as_ in
    let later : holds a bs ≡ true = elim (key_tells b a) [
      | inl w ↦ absurd (before_not a (subst (λ q. comes_before a q ≡ true) w.1 lt))
      | inr w ↦ sym (or_right (same_key b a) (holds a bs) w.0) ∙ here
    ] in
    before_apart a b lt (above_held b a bs above later)

pub ascending_one : (xs ys : List Key) → IsStrictlySortedBy key_cmp xs → IsStrictlySortedBy key_cmp ys → ((k : Key) → holds k xs ≡ holds k ys) → xs ≡ ys
unfolding IsStrictlySortedBy
ascending_one [] [] sx sy same = refl
ascending_one [] (y ∷ ys) sx sy same = absurd (let bad : false ≡ true = same y ∙ held_itself y ys in cc)
ascending_one (x ∷ xs) [] sx sy same = absurd (let bad : false ≡ true = sym (same x) ∙ held_itself x xs in cc)
ascending_one (x ∷ xs) (y ∷ ys) sx sy same =
    let e : x ≡ y = elim (key_cases x y) [
      | inl w ↦ w
      | inr w ↦ elim w [ inl z ↦ absurd (not_before x y xs ys sy.0 same z) | inr z ↦ absurd (not_before y x ys xs sx.0 (λ k. sym (same k)) z) ]
    ] in
    let rest : (k : Key) → holds k xs ≡ holds k ys = λ k. elim (key_tells x k) [
      | inl w ↦ not_held x k xs sx.0 w.1 ∙ sym (not_held y k ys sy.0 (sym e ∙ w.1))
      | inr w ↦ sym (or_right (same_key x k) (holds k xs) w.0) ∙ same k ∙ or_right (same_key y k) (holds k ys) (ap (λ z. same_key z k) (sym e) ∙ w.0)
    ] in
    ap (λ z. z ∷ xs) e ∙ ap (λ l. y ∷ l) (ascending_one xs ys sx.1 sy.1 rest)

-- ---- a list in order with one more net

above_with : (a k : Key) (xs : List Key) → comes_before a k ≡ true → Above a xs → Above a (with_key k xs)
above_with a k [] lt all = (less_is (key_cmp a k) lt, tt)
above_with a k (x ∷ xs) lt all = elim (same_key x k) as (λ b. Above a (if b then x ∷ xs else (if comes_before k x then k ∷ x ∷ xs else x ∷ with_key k xs))) [
  | true ↦ all
  | false ↦ elim (comes_before k x) as (λ b. Above a (if b then k ∷ x ∷ xs else x ∷ with_key k xs)) [
    | true ↦ (less_is (key_cmp a k) lt, all)
    | false ↦ (all.0, above_with a k xs lt all.1)
  ]
]

pub with_ascends : (k : Key) (xs : List Key) → IsStrictlySortedBy key_cmp xs → IsStrictlySortedBy key_cmp (with_key k xs)
unfolding IsStrictlySortedBy
with_ascends k [] s = (tt, tt)
with_ascends k (x ∷ xs) s = elim (key_tells x k) [
  | inl w ↦ subst (IsStrictlySortedBy key_cmp) (sym (if_true (same_key x k) (x ∷ xs) (if comes_before k x then k ∷ x ∷ xs else x ∷ with_key k xs) w.0)) s
  | inr w ↦ subst (IsStrictlySortedBy key_cmp) (sym (if_false (same_key x k) (x ∷ xs) (if comes_before k x then k ∷ x ∷ xs else x ∷ with_key k xs) w.0))
      (elim (comes_before k x) as (λ b. comes_before k x ≡ b → IsStrictlySortedBy key_cmp (if b then k ∷ x ∷ xs else x ∷ with_key k xs)) [
        | true ↦ λ lt. ((less_is (key_cmp k x) lt, above_more k x xs lt s.0), s)
        | false ↦ λ ge. (above_with x k xs (after x k w.1 ge) s.0, with_ascends k xs s.1)
      ] refl)
] where
  after : (x k : Key) → x ≢ k → comes_before k x ≡ false → comes_before x k ≡ true
  after x k other ge = elim (key_cases x k) [
    | inl w ↦ absurd (other w)
    | inr w ↦ elim w [ inl z ↦ z | inr z ↦ absurd (let bad : false ≡ true = sym ge ∙ z in cc) ]
  ]

or_or : (a b c : Bool) → (a || (b || c)) ≡ (b || (a || c))
or_or true true c = refl
or_or true false c = refl
or_or false true c = refl
or_or false false c = refl

or_twice : (a b : Bool) → (a || b) ≡ (a || (a || b))
or_twice true b = refl
or_twice false b = refl

pub with_holds : (k q : Key) (xs : List Key) → holds q (with_key k xs) ≡ (same_key k q || holds q xs)
with_holds k q [] = refl
with_holds k q (x ∷ xs) = elim (key_tells x k) [
  | inl w ↦ ap (holds q) (if_true (same_key x k) (x ∷ xs) (if comes_before k x then k ∷ x ∷ xs else x ∷ with_key k xs) w.0)
      ∙ or_twice (same_key x q) (holds q xs) ∙ ap (λ z. same_key z q || (same_key x q || holds q xs)) w.1
  | inr w ↦ ap (holds q) (if_false (same_key x k) (x ∷ xs) (if comes_before k x then k ∷ x ∷ xs else x ∷ with_key k xs) w.0)
      ∙ elim (comes_before k x) as (λ b. holds q (if b then k ∷ x ∷ xs else x ∷ with_key k xs) ≡ (same_key k q || (same_key x q || holds q xs))) [
        | true ↦ refl
        | false ↦ ap (λ b. same_key x q || b) (with_holds k q xs) ∙ or_or (same_key x q) (same_key k q) (holds q xs)
      ]
]

-- those of some keys that pass a test, in order
abbrev pub chosen : (Key → Bool) → List Key → List Key
chosen test [] = []
chosen test (k ∷ keys) = if test k then with_key k (chosen test keys) else chosen test keys

pub chosen_ascends : (test : Key → Bool) (keys : List Key) → IsStrictlySortedBy key_cmp (chosen test keys)
unfolding IsStrictlySortedBy
chosen_ascends test [] = tt
chosen_ascends test (k ∷ keys) = elim (test k) as (λ b. IsStrictlySortedBy key_cmp (if b then with_key k (chosen test keys) else chosen test keys)) [
  | true ↦ with_ascends k (chosen test keys) (chosen_ascends test keys)
  | false ↦ chosen_ascends test keys
]

and_true : (b : Bool) → (b && true) ≡ b
and_true true = refl
and_true false = refl

and_false : (b : Bool) → (b && false) ≡ false
and_false true = refl
and_false false = refl

pub chosen_holds : (test : Key → Bool) (q : Key) (keys : List Key) → holds q (chosen test keys) ≡ (test q && holds q keys)
chosen_holds test q [] = sym (and_false (test q))
chosen_holds test q (k ∷ keys) = elim (key_tells k q) [
  | inl w ↦ elim (test k) as (λ b. test k ≡ b → holds q (if b then with_key k (chosen test keys) else chosen test keys) ≡ (test q && (same_key k q || holds q keys))) [
    | true ↦ λ e. with_holds k q (chosen test keys) ∙ or_left (same_key k q) (holds q (chosen test keys)) w.0
        ∙ sym (ap (λ b. b && (same_key k q || holds q keys)) (ap test (sym w.1) ∙ e) ∙ or_left (same_key k q) (holds q keys) w.0)
    | false ↦ λ e. chosen_holds test q keys ∙ ap (λ b. b && holds q keys) (ap test (sym w.1) ∙ e) ∙ sym (ap (λ b. b && (same_key k q || holds q keys)) (ap test (sym w.1) ∙ e))
  ] refl
  | inr w ↦ elim (test k) as (λ b. holds q (if b then with_key k (chosen test keys) else chosen test keys) ≡ (test q && (same_key k q || holds q keys))) [
    | true ↦ with_holds k q (chosen test keys) ∙ or_right (same_key k q) (holds q (chosen test keys)) w.0 ∙ chosen_holds test q keys ∙ ap (λ b. test q && b) (sym (or_right (same_key k q) (holds q keys) w.0))
    | false ↦ chosen_holds test q keys ∙ ap (λ b. test q && b) (sym (or_right (same_key k q) (holds q keys) w.0))
  ]
]

-- a choice among keys that hold all that pass the test
pub choice : (test : Key → Bool) (keys : List Key) → ((k : Key) → holds k keys ≡ false → test k ≡ false) → (k : Key) → holds k (chosen test keys) ≡ test k
choice test keys all k = chosen_holds test k keys ∙ elim (holds k keys) as (λ b. holds k keys ≡ b → (test k && b) ≡ test k) [
  | true ↦ λ e. and_true (test k)
  | false ↦ λ e. and_false (test k) ∙ sym (all k e)
] refl

-- ---- with a key less

pub holds_without : (k : Key) (keys : List Key) → holds k (without_key k keys) ≡ false
holds_without k [] = refl
holds_without k (x ∷ xs) = elim (same_key x k) as (λ t. same_key x k ≡ t → holds k (if t then without_key k xs else x ∷ without_key k xs) ≡ false) [
  | true ↦ λ e. holds_without k xs
  | false ↦ λ e. ap (λ t. t || holds k (without_key k xs)) e ∙ holds_without k xs
] refl

pub others_without : (q k : Key) (keys : List Key) → k ≢ q → holds q (without_key k keys) ≡ holds q keys
others_without q k [] other = refl
others_without q k (x ∷ xs) other = elim (key_tells x k) [
  | inl w ↦ subst (λ t. holds q (if t then without_key k xs else x ∷ without_key k xs) ≡ (same_key x q || holds q xs)) (sym w.0)
      (elim (key_tells x q) [ inl z ↦ absurd (other (sym w.1 ∙ z.1)) | inr z ↦ others_without q k xs other ∙ sym (ap (λ t. t || holds q xs) z.0) ])
  | inr w ↦ subst (λ t. holds q (if t then without_key k xs else x ∷ without_key k xs) ≡ (same_key x q || holds q xs)) (sym w.0) (ap (λ t. same_key x q || t) (others_without q k xs other))
]

above_without : (a k : Key) (xs : List Key) → Above a xs → Above a (without_key k xs)
above_without a k [] all = tt
above_without a k (x ∷ xs) all = elim (same_key x k) as (λ t. Above a (if t then without_key k xs else x ∷ without_key k xs)) [
  | true ↦ above_without a k xs all.1
  | false ↦ (all.0, above_without a k xs all.1)
]

pub without_ascends : (k : Key) (xs : List Key) → IsStrictlySortedBy key_cmp xs → IsStrictlySortedBy key_cmp (without_key k xs)
unfolding IsStrictlySortedBy
without_ascends k [] s = tt
without_ascends k (x ∷ xs) s = elim (same_key x k) as (λ t. IsStrictlySortedBy key_cmp (if t then without_key k xs else x ∷ without_key k xs)) [
  | true ↦ without_ascends k xs s.1
  | false ↦ (above_without x k xs s.0, without_ascends k xs s.1)
]

pub none_ascends : IsStrictlySortedBy key_cmp []
unfolding IsStrictlySortedBy
none_ascends = tt

-- in order each key stands once
pub once_ascending : (xs : List Key) → IsStrictlySortedBy key_cmp xs → IsOnce xs
unfolding IsStrictlySortedBy
once_ascending [] s = tt
once_ascending (x ∷ xs) s = (not_held x x xs s.0 refl, once_ascending xs s.1)
