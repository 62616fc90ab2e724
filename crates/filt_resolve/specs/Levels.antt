-- For private contracts alone: the names of variables, block by block (`joined`), and where in a
-- block's names each stands (`AreLast`).
use Rattle.std.specs.Prelude.{◌≡◌, ℕ, Bool, List, [], ◌∷◌, ◌++◌, nat_eq}
use Rattle.std.specs.Borrow.{Bor}
use Rattle.std.specs.Cmp.Lexicographic.{pointwise}
use Rattle.std.specs.Map.{lookup}
use Rattle.filt_meaning.specs.Names.{place_in}

-- one behind the other
abbrev pub joined : List (List (List ℕ)) → List (List ℕ)
joined [] = []
joined (names ∷ more) = names ++ joined more

-- the key is this name
abbrev pub is_key : List ℕ → Bor (List ℕ) → Bool
is_key name key = pointwise nat_eq name key.now

-- Each of the names has its last place, and nothing else has one.
abbrev pub AreLast : List (List ℕ) → List (Bor (List ℕ) × ℕ) → Type 0
AreLast names last = (name : List ℕ) → lookup (is_key name) last ≡ place_in names name
