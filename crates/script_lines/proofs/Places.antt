-- Places of names, and who has spoken.
use Rattle.std.proofs.Common.{◌≡◌, ◌∙◌, sym, ap, refl, ℕ, ◌+◌, ◌<◌, ◌≤◌, Bool, true, false, cond, List, [], ◌∷◌, ◌++◌, length, length-append, arith, inl, inr, Option, Some, None}
use Rattle.std.specs.Prelude.{not, is_none, is_some, nat_le, nat_lt, ◌&&◌}
use Rattle.std.specs.List.{position, position_or_len, prefix_len}
use Rattle.std.specs.Str.{bytes_eq}
use Rattle.std.proofs.lemmas.Bool.{cases_Bool}
use Rattle.std.proofs.lemmas.Bool.Decides.{nat_tests, leb_tells}
use Rattle.std.proofs.lemmas.Slice.Eq.{bytes_eq-Decides}
use Rattle.script_lines.specs.Grammar.{Command, Form, Sync, Take, Push, Says}
use Rattle.script_lines.specs.Kinds.{place_of, is_actor_too_many}
use Rattle.script_lines.specs.Script.{with_actor}

less_yes : (a b : ℕ) → a < b → nat_lt a b ≡ true
less_yes a b is = grind (arith, nat_tests)

less_no : (a b : ℕ) → nat_lt a b ≡ false → b ≤ a
less_no a b is = grind (arith, nat_tests)

none_some : {X : Type 0} (x : X) → None ≡ Some x → ⊥
none_some x same = cc

some_same : {X : Type 0} (x y : X) → Some x ≡ Some y → x ≡ y
some_same x y same = cc

run_most : {X : Type 0} (q : X → Bool) (xs : List X) → prefix_len q xs ≤ length xs
run_most q [] = omega arith
run_most q (x ∷ xs) = elim (q x) as (λ (b : Bool). cond b (1 + prefix_len q xs) 0 ≤ length (x ∷ xs)) [
  | true ↦ omega (arith, run_most q xs)
  | false ↦ omega arith
]

-- a run through a whole list ends at what fails behind it
run_push : {X : Type 0} (q : X → Bool) (xs : List X) (y : X) → prefix_len q xs ≡ length xs → q y ≡ false → prefix_len q (xs ++ y ∷ []) ≡ length xs
run_push q [] y whole fails = ap (λ (b : Bool). cond b (1 + 0) 0) fails
run_push q (x ∷ xs) y whole fails = elim (cases_Bool (q x)) [
  | inl passes ↦
      let was : prefix_len q (x ∷ xs) ≡ 1 + prefix_len q xs = ap (λ (b : Bool). cond b (1 + prefix_len q xs) 0) passes in
      let rest = run_push q xs y (omega (arith, was, whole)) fails in
      ap (λ (b : Bool). cond b (1 + prefix_len q (xs ++ y ∷ [])) 0) passes ∙ omega (arith, rest)
  | inr stops ↦
      let was : prefix_len q (x ∷ xs) ≡ 0 = ap (λ (b : Bool). cond b (1 + prefix_len q xs) 0) stops in
      omega (arith, was, whole)
]

none_whole : {X : Type 0} (p : X → Bool) (xs : List X) → None ≡ position p xs → position_or_len p xs ≡ length xs
none_whole p xs is = elim (cases_Bool (nat_lt (position_or_len p xs) (length xs))) [
  | inl below ↦ absurd (none_some _ (is ∙ ap (λ (b : Bool). cond b (Some (position_or_len p xs)) None) below))
  | inr past ↦ omega (arith, less_no _ _ past, run_most (λ x. not (p x)) xs)
]

pub place_push : (names : List (List ℕ)) (name : List ℕ) → None ≡ place_of names name → place_of (names ++ name ∷ []) name ≡ Some (length names)
place_push names name none =
    let p : List ℕ → Bool = λ other. bytes_eq other name in
    let own : p name ≡ true = (bytes_eq-Decides name name).1 refl in
    let place : position_or_len p (names ++ name ∷ []) ≡ length names = run_push (λ x. not (p x)) names name (none_whole p names none) (ap not own) in
    let inside : nat_lt (position_or_len p (names ++ name ∷ [])) (length (names ++ name ∷ [])) ≡ true = less_yes _ _ (omega (arith, place, length-append names (name ∷ []))) in
    ap (λ (b : Bool). cond b (Some (position_or_len p (names ++ name ∷ []))) None) inside ∙ ap (λ (n : ℕ). Some n) place

few : (n : ℕ) → (64 ≤ n → ⊥) → nat_le 64 n ≡ false
few n is = elim (leb_tells 64 n) [
  | inl more ↦ absurd (is more.1)
  | inr less ↦ less.0
]

pub new_actor : (actors new : List (List ℕ)) (actor name : List ℕ) (command : Command) (place : ℕ) → None ≡ place_of actors actor → (64 ≤ length actors → ⊥) → name ≡ actor → new ≡ actors ++ name ∷ [] → place ≡ length actors
    → (new ≡ with_actor actors (Says actor command)) × (is_actor_too_many actors (Says actor command) ≡ false) × (place_of new actor ≡ Some place)
new_actor actors new actor name command place none room same is place_is =
    let whole : new ≡ actors ++ actor ∷ [] = is ∙ ap (λ (n : List ℕ). actors ++ n ∷ []) same in (
      whole ∙ ap (λ (o : Option ℕ). cond (is_some o) actors (actors ++ actor ∷ [])) none,
      ap (λ (o : Option ℕ). is_none o && nat_le 64 (length actors)) (sym none) ∙ few (length actors) room,
      ap (λ (l : List (List ℕ)). place_of l actor) whole ∙ place_push actors actor none ∙ ap (λ (n : ℕ). Some n) (sym place_is),
    )

many_tells : (n : ℕ) → nat_le 64 n ≡ false → n < 64
many_tells n is = grind (arith, nat_tests)

speaker_stays : (actors : List (List ℕ)) (actor : List ℕ) (place : Option ℕ) → length actors ≤ 64 → (is_none place && nat_le 64 (length actors)) ≡ false
    → length (cond (is_some place) actors (actors ++ actor ∷ [])) ≤ 64
speaker_stays actors actor (Some n) most fine = most
speaker_stays actors actor None most fine = omega (arith, many_tells (length actors) fine, length-append actors (actor ∷ []))

-- those who have spoken stay at most 64
pub actors_stay : (actors : List (List ℕ)) (form : Form) → length actors ≤ 64 → is_actor_too_many actors form ≡ false → length (with_actor actors form) ≤ 64
actors_stay actors Sync most fine = most
actors_stay actors (Take channel count) most fine = most
actors_stay actors (Push channel count) most fine = most
actors_stay actors (Says actor command) most fine = speaker_stays actors actor (place_of actors actor) most fine
