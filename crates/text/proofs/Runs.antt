-- The longest front of a text that passes a test, and what stands behind it.
use Rattle.std.proofs.Common.{◌≡◌, ℕ, suc, ◌+◌, Bool, true, false, cond, List, [], ◌∷◌, ◌++◌, drop, refl, sym, ◌∙◌, ap, arith, inl, inr}
use Rattle.std.specs.List.{prefix_len, take_while, list_all}
use Rattle.std.proofs.lemmas.Bool.{cases_Bool, and_parts, and_from}
use Rattle.std.proofs.lemmas.List.{take-append-drop}
use Rattle.std.proofs.lemmas.List.Sums.{take_while-cons}
use Rattle.text.specs.Cut.{first_passes}
use Rattle.text.specs.Cut.{behind}

pub behind_yes : (p : ℕ → Bool) (x : ℕ) (xs : List ℕ) → p x ≡ true → behind p (x ∷ xs) ≡ behind p xs
behind_yes p x xs passes =
    let len : prefix_len p (x ∷ xs) ≡ suc (prefix_len p xs) = rw passes (omega arith) in
    ap (λ (n : ℕ). drop n (x ∷ xs)) len

pub behind_no : (p : ℕ → Bool) (x : ℕ) (xs : List ℕ) → p x ≡ false → behind p (x ∷ xs) ≡ x ∷ xs
behind_no p x xs fails = ap (λ (b : Bool). drop (cond b (1 + prefix_len p xs) 0) (x ∷ xs)) fails

pub run_yes : (p : ℕ → Bool) (x : ℕ) (xs : List ℕ) → p x ≡ true → take_while p (x ∷ xs) ≡ x ∷ take_while p xs
run_yes p x xs passes = take_while-cons p x xs ∙ ap (λ (b : Bool). cond b (x ∷ take_while p xs) []) passes

pub run_no : (p : ℕ → Bool) (x : ℕ) (xs : List ℕ) → p x ≡ false → take_while p (x ∷ xs) ≡ []
run_no p x xs fails = take_while-cons p x xs ∙ ap (λ (b : Bool). cond b (x ∷ take_while p xs) []) fails

pub run_whole : (p : ℕ → Bool) (xs : List ℕ) → xs ≡ take_while p xs ++ behind p xs
run_whole p xs = sym (take-append-drop (prefix_len p xs) xs)

pub run_passes : (p : ℕ → Bool) (xs : List ℕ) → list_all p (take_while p xs) ≡ true
run_passes p [] = refl
run_passes p (x ∷ xs) = elim (cases_Bool (p x)) [
  | inl is ↦ ap (list_all p) (run_yes p x xs is) ∙ and_from (p x) (list_all p (take_while p xs)) is (run_passes p xs)
  | inr fails ↦ ap (list_all p) (run_no p x xs fails)
]

pub run_stops : (p : ℕ → Bool) (xs : List ℕ) → first_passes p (behind p xs) ≡ false
run_stops p [] = refl
run_stops p (x ∷ xs) = elim (cases_Bool (p x)) [
  | inl is ↦ ap (first_passes p) (behind_yes p x xs is) ∙ run_stops p xs
  | inr fails ↦ ap (first_passes p) (behind_no p x xs fails) ∙ fails
]

-- a front that passes, and a rest that doesn't go on with it
pub run_front : (p : ℕ → Bool) (front rest : List ℕ) → list_all p front ≡ true → first_passes p rest ≡ false → take_while p (front ++ rest) ≡ front
run_front p [] [] all stops = refl
run_front p [] (x ∷ xs) all stops = run_no p x xs stops
run_front p (x ∷ front) rest all stops =
    let parts = and_parts (p x) (list_all p front) all in
    run_yes p x (front ++ rest) parts.0 ∙ ap (λ (l : List ℕ). x ∷ l) (run_front p front rest parts.1 stops)

pub run_rest : (p : ℕ → Bool) (front rest : List ℕ) → list_all p front ≡ true → first_passes p rest ≡ false → behind p (front ++ rest) ≡ rest
run_rest p [] [] all stops = refl
run_rest p [] (x ∷ xs) all stops = behind_no p x xs stops
run_rest p (x ∷ front) rest all stops =
    let parts = and_parts (p x) (list_all p front) all in
    behind_yes p x (front ++ rest) parts.0 ∙ run_rest p front rest parts.1 stops
