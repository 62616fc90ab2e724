-- For private contracts alone: a table of the places of the names of variables (`ArePlaces`), which
-- has the first place of each. What is refused rests on nothing here.
use Rattle.std.specs.Prelude.{◌≡◌, ℕ, suc, ◌==◌, Bool, false, if◌then◌else◌, List, [], ◌∷◌, ◌++◌}
use Rattle.std.specs.Prelude.{length, Option, Some, None, option_map}
use Rattle.std.specs.Borrow.{Bor}
use Rattle.std.specs.Map.{lookup}
use Rattle.filt_meaning.specs.Names.{same_name}
use Rattle.filt_types.specs.Scenes as scenes
use Rattle.filt_types.specs.Scenes.{Variables}

abbrev pub Key : Type 0
Key = Bor (List ℕ)

abbrev pub is_key : List ℕ → Key → Bool
is_key name key = same_name name key.now

-- the place of the first variable of that name
abbrev pub place_in : Variables → List ℕ → Option ℕ
place_in [] name = None
place_in (v ∷ vs) name =
    if same_name v.name name then Some 0 else option_map (λ n. suc n) (place_in vs name)

-- Each name of a variable has its place in the table, and nothing else has one.
abbrev pub ArePlaces : Variables → List (Key × ℕ) → Type 0
ArePlaces vs places = (name : List ℕ) → lookup (is_key name) places ≡ place_in vs name

-- The table has the last variable too, which is of that name and at that place.
abbrev pub Notes : List ℕ → ℕ → List (Key × ℕ) → List (Key × ℕ) → Type 0
Notes name place old new =
    (vs : Variables) (v : scenes.Variable) → v.name ≡ name → place ≡ length vs → ArePlaces vs old
    → ArePlaces (vs ++ v ∷ []) new

-- The table no longer has the last variable, which is of that name and at that place.
abbrev pub Forgets : List ℕ → ℕ → List (Key × ℕ) → List (Key × ℕ) → Type 0
Forgets name place old new =
    (vs : Variables) (v : scenes.Variable) → v.name ≡ name → place ≡ length vs
    → ArePlaces (vs ++ v ∷ []) old → ArePlaces vs new

abbrev pub is_place : ℕ → Option ℕ → Bool
is_place place None = false
is_place place (Some other) = other == place

-- whether the table has that name at that place
abbrev pub has_place : List ℕ → ℕ → List (Key × ℕ) → Bool
has_place name place places = is_place place (lookup (is_key name) places)
