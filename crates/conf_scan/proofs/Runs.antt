-- The longest front of a text that passes a test, and small steps on truth values and options.
use Rattle.std.proofs.Common.{◌≡◌, ℕ, suc, ◌+◌, ◌≤◌, Bool, true, false, cond, ◌||◌, List, [], ◌∷◌, ◌++◌, length, drop, Option, Some, None, refl, sym, ◌∙◌, ap, arith, inl, inr, ◌==◌}
use Rattle.std.specs.List.{prefix_len, take_while, list_all, list_any}
use Rattle.std.specs.Option.{option_map}
use Rattle.std.specs.Cmp.Lexicographic.{pointwise, same_text}
use Rattle.std.specs.Bool.{nat_eq}
use Rattle.std.proofs.lemmas.Bool.{cases_Bool, and_parts, and_from, eqb-true}
use Rattle.std.proofs.lemmas.List.{take-append-drop}
use Rattle.std.proofs.lemmas.List.Sums.{take_while-cons}
use Rattle.conf_scan.specs.Shapes.{first_passes}

pub len_yes : (p : ℕ → Bool) (x : ℕ) (xs : List ℕ) → p x ≡ true → prefix_len p (x ∷ xs) ≡ 1 + prefix_len p xs
len_yes p x xs passes = ap (λ (t : Bool). cond t (1 + prefix_len p xs) 0) passes

pub len_no : (p : ℕ → Bool) (x : ℕ) (xs : List ℕ) → p x ≡ false → prefix_len p (x ∷ xs) ≡ 0
len_no p x xs fails = ap (λ (t : Bool). cond t (1 + prefix_len p xs) 0) fails

pub run_yes : (p : ℕ → Bool) (x : ℕ) (xs : List ℕ) → p x ≡ true → take_while p (x ∷ xs) ≡ x ∷ take_while p xs
run_yes p x xs passes = take_while-cons p x xs ∙ ap (λ (b : Bool). cond b (x ∷ take_while p xs) []) passes

pub run_no : (p : ℕ → Bool) (x : ℕ) (xs : List ℕ) → p x ≡ false → take_while p (x ∷ xs) ≡ []
run_no p x xs fails = take_while-cons p x xs ∙ ap (λ (b : Bool). cond b (x ∷ take_while p xs) []) fails

pub drop_one : (n : ℕ) (x : ℕ) (xs : List ℕ) → drop (1 + n) (x ∷ xs) ≡ drop n xs
drop_one n x xs = let next : 1 + n ≡ suc n = omega arith in ap (λ (m : ℕ). drop m (x ∷ xs)) next

pub behind_yes : (p : ℕ → Bool) (x : ℕ) (xs : List ℕ) → p x ≡ true → drop (prefix_len p (x ∷ xs)) (x ∷ xs) ≡ drop (prefix_len p xs) xs
behind_yes p x xs passes = ap (λ (n : ℕ). drop n (x ∷ xs)) (len_yes p x xs passes) ∙ drop_one (prefix_len p xs) x xs

pub behind_no : (p : ℕ → Bool) (x : ℕ) (xs : List ℕ) → p x ≡ false → drop (prefix_len p (x ∷ xs)) (x ∷ xs) ≡ x ∷ xs
behind_no p x xs fails = ap (λ (n : ℕ). drop n (x ∷ xs)) (len_no p x xs fails)

pub run_whole : (p : ℕ → Bool) (xs : List ℕ) → xs ≡ take_while p xs ++ drop (prefix_len p xs) xs
run_whole p xs = sym (take-append-drop (prefix_len p xs) xs)

pub run_passes : (p : ℕ → Bool) (xs : List ℕ) → list_all p (take_while p xs) ≡ true
run_passes p [] = refl
run_passes p (x ∷ xs) = elim (cases_Bool (p x)) [
  | inl is ↦ ap (list_all p) (run_yes p x xs is) ∙ and_from (p x) (list_all p (take_while p xs)) is (run_passes p xs)
  | inr fails ↦ ap (list_all p) (run_no p x xs fails)
]

pub run_stops : (p : ℕ → Bool) (xs : List ℕ) → first_passes p (drop (prefix_len p xs) xs) ≡ false
run_stops p [] = refl
run_stops p (x ∷ xs) = elim (cases_Bool (p x)) [
  | inl is ↦ ap (first_passes p) (behind_yes p x xs is) ∙ run_stops p xs
  | inr fails ↦ ap (first_passes p) (behind_no p x xs fails) ∙ fails
]

-- a front that passes is no longer than the run
pub run_reach : (p : ℕ → Bool) (front rest : List ℕ) → list_all p front ≡ true → length front ≤ prefix_len p (front ++ rest)
run_reach p [] rest all = omega arith
run_reach p (x ∷ front) rest all =
    let parts = and_parts (p x) (list_all p front) all in
    omega (arith, len_yes p x (front ++ rest) parts.0, run_reach p front rest parts.1)

-- and where the next byte doesn't pass it is the run
pub run_is : (p : ℕ → Bool) (front rest : List ℕ) → list_all p front ≡ true → first_passes p rest ≡ false → prefix_len p (front ++ rest) ≡ length front
run_is p [] [] all stops = refl
run_is p [] (x ∷ rest) all stops = len_no p x rest stops
run_is p (x ∷ front) rest all stops =
    let parts = and_parts (p x) (list_all p front) all in
    omega (arith, len_yes p x (front ++ rest) parts.0, run_is p front rest parts.1 stops)

pub first_is : (mark : ℕ) (xs : List ℕ) → first_passes (λ c. c == mark) xs ≡ true → (rest : List ℕ) × (xs ≡ mark ∷ rest)
first_is mark [] is = cc
first_is mark (x ∷ xs) is = (xs, ap (λ (n : ℕ). n ∷ xs) (eqb-true x mark is))

pub if_some : {A : Type 0} (t : Bool) (x y : A) → cond t (Some x) None ≡ Some y → (t ≡ true) × (x ≡ y)
if_some true x y e = (refl, cc)
if_some false x y e = absurd (cc)

pub map_some : {A B : Type 0} (f : A → B) (o : Option A) (y : B) → option_map f o ≡ Some y → (x : A) × (o ≡ Some x) × (f x ≡ y)
map_some f None y e = absurd (cc)
map_some f (Some x) y e = (x, refl, cc)

pub or_skips : (a b : Bool) → a ≡ false → (a || b) ≡ b
or_skips true b e = absurd (cc)
or_skips false b e = refl

-- what a test says of each text, it says of one that equals one of them
pub among : (test : List ℕ → Bool) (slice : List ℕ) (texts : List (List ℕ)) → list_all test texts ≡ true → list_any (pointwise nat_eq slice) texts ≡ true → test slice ≡ true
among test slice [] all any = cc
among test slice (t ∷ texts) all any =
    let parts = and_parts (test t) (list_all test texts) all in
    elim (cases_Bool (pointwise nat_eq slice t)) [
      | inl is ↦ ap test (same_text slice t (sym is)) ∙ parts.0
      | inr fails ↦ among test slice texts parts.1 (sym (or_skips (pointwise nat_eq slice t) _ fails) ∙ any)
    ]
