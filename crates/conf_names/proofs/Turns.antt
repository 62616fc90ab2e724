-- Loops over lists, one item more.
use Rattle.std.proofs.Common.{◌≡◌, ℕ, ◌+◌, ◌<◌, ◌≤◌, Bool, true, false, ◌||◌, List, [], ◌∷◌, ◌++◌, length, drop, get_or, Option, refl, ap, ◌∙◌, sym}
use Rattle.std.specs.List.{list_any}
use Rattle.filt_types.proofs.Lookups.{next_item, nothing_left}
use Rattle.conf_names.specs.declared.refusal.Refusal.{Refusal}
use Rattle.conf_names.specs.Refusals.{first_in}
use Rattle.conf_names.proofs.Firsts.{first_rest}

-- what is refused of a list, where it is what is refused of its first item and of the rest
pub turn : {X : Type 0} (d : List X → List Refusal) (own : X → List Refusal) → ((x : X) (xs : List X) → d (x ∷ xs) ≡ own x ++ d xs) → (xs : List X) (i : ℕ) (x : X) (start f g : Option Refusal) → i < length xs → x ≡ get_or xs i x → first_in start (d xs) ≡ first_in f (d (drop i xs)) → g ≡ first_in f (own x) → first_in start (d xs) ≡ first_in g (d (drop (i + 1) xs))
turn {X} d own step xs i x start f g lt is before new =
    before ∙ ap (λ (ys : List X). first_in f (d ys)) (next_item xs i x lt is) ∙ ap (λ (rs : List Refusal). first_in f rs) (step x (drop (i + 1) xs))
    ∙ first_rest (own x) (d (drop (i + 1) xs)) f g new

pub ends : {X : Type 0} (d : List X → List Refusal) → d [] ≡ [] → (xs : List X) (i : ℕ) (start f : Option Refusal) → length xs ≤ i → first_in start (d xs) ≡ first_in f (d (drop i xs)) → f ≡ first_in start (d xs)
ends {X} d none xs i start f le before =
    sym (before ∙ ap (λ (ys : List X). first_in f (d ys)) (nothing_left xs i le) ∙ ap (λ (rs : List Refusal). first_in f rs) none)

-- what was found so far, item by item
pub found_turn : {X A : Type 0} (d : A → List X → A) → ((a : A) (x : X) (xs : List X) → d a (x ∷ xs) ≡ d (d a (x ∷ [])) xs) → (xs : List X) (i : ℕ) (x : X) (start a b : A) → i < length xs → x ≡ get_or xs i x → d start xs ≡ d a (drop i xs) → b ≡ d a (x ∷ []) → d start xs ≡ d b (drop (i + 1) xs)
found_turn {X} {A} d step xs i x start a b lt is before new =
    before ∙ ap (λ (ys : List X). d a ys) (next_item xs i x lt is) ∙ step a x (drop (i + 1) xs)
    ∙ ap (λ (c : A). d c (drop (i + 1) xs)) (sym new)

pub found_ends : {X A : Type 0} (d : A → List X → A) → ((a : A) → d a [] ≡ a) → (xs : List X) (i : ℕ) (start a : A) → length xs ≤ i → d start xs ≡ d a (drop i xs) → a ≡ d start xs
found_ends {X} d none xs i start a le before = sym (before ∙ ap (λ (ys : List X). d a ys) (nothing_left xs i le) ∙ none a)

-- ---- truths

pub or_apart : (a b c : Bool) → ((a || b) || c) ≡ (a || (b || c))
or_apart true b c = refl
or_apart false b c = refl

pub any_append : {A : Type 0} (p : A → Bool) (xs ys : List A) → list_any p (xs ++ ys) ≡ (list_any p xs || list_any p ys)
any_append p [] ys = refl
any_append p (x ∷ xs) ys = ap (λ (b : Bool). p x || b) (any_append p xs ys) ∙ sym (or_apart (p x) (list_any p xs) (list_any p ys))
