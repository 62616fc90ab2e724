-- For private contracts alone: a table of the first places of names (`ArePlaces`).
use Rattle.std.specs.Prelude.{◌≡◌, ℕ, Bool, List, ◌∷◌, [], ◌++◌, length, Vec}
use Rattle.std.specs.Global.{Global}
use Rattle.std.specs.List.{position}
use Rattle.std.specs.Map.{lookup}
use Rattle.std.specs.Str.{bytes_eq}

abbrev pub Key : Type 0
Key = Vec ℕ Global

-- the key is this name
abbrev pub is_key : List ℕ → Key → Bool
is_key name key = bytes_eq name key.items

-- Each of the names has its first place, and nothing else has one.
abbrev pub ArePlaces : List (List ℕ) → List (Key × ℕ) → Type 0
ArePlaces names places =
    (name : List ℕ)
    → lookup (is_key name) places ≡ position (λ other. bytes_eq other name) names

-- The next of the names is noted, where it has no place before.
abbrev pub Notes : List ℕ → ℕ → List (Key × ℕ) → List (Key × ℕ) → Type 0
Notes name place old new =
    (names : List (List ℕ)) → place ≡ length names → ArePlaces names old
    → ArePlaces (names ++ name ∷ []) new
