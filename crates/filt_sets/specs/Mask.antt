-- Which paths a mask matches (`IsCut`): those that can be cut into runs of AS numbers, one for each
-- item, that the items take (`IsElement`, `AreElements`, `IsPiece`).
-- From: BIRD User's Guide, "Filters", "Data types", `bgpmask`.
-- Example: `[= * 4 3 * =]` matches 4 3 2 1; `[= 1 2+ 3 =]` matches 1 2 2 2 3, not 1 3; `[= * =]`
-- matches each path.
use Rattle.std.specs.Prelude.{◌≡◌, ℕ, ◌<◌, ◌≤◌, Bool, true, false, ⊤}
use Rattle.std.specs.Prelude.{List, [], ◌∷◌, ◌++◌, length, All}
use Rattle.std.specs.List.{concat}
use Rattle.filt_sets.specs.declared.mask.Atom.{Atom}
use Rattle.filt_sets.specs.declared.mask.Atom.TheVariants.{Range, One, Any}
use Rattle.filt_sets.specs.declared.mask.MaskItem.{MaskItem}

-- a number or a range takes one such AS, `?` one AS, `*` any run of them, the empty one too
abbrev pub IsElement : Atom → List ℕ → Type 0
IsElement (Range lo hi) piece = (n : ℕ) × (piece ≡ n ∷ []) × (lo ≤ n) × (n ≤ hi)
IsElement One piece = (n : ℕ) × (piece ≡ n ∷ [])
IsElement Any piece = ⊤

-- `+` behind an element: one or more of it, one after another
pub record AreElements (atom : Atom) (piece : List ℕ) : Type 0 where
  pub elements : List (List ℕ)
  pub some : 0 < length elements
  pub each : All (IsElement atom) elements
  pub joined : piece ≡ concat elements

abbrev pub IsPieceOf : Bool → Atom → List ℕ → Type 0
IsPieceOf false atom piece = IsElement atom piece
IsPieceOf true atom piece = AreElements atom piece

-- a part of a path that the item takes
abbrev pub IsPiece : MaskItem → List ℕ → Type 0
IsPiece item piece = IsPieceOf item.many item.atom piece

-- The whole path is cut into one piece for each item, in order. So no items match the empty path
-- alone.
abbrev pub IsCut : List MaskItem → List ℕ → Type 0
IsCut [] path = path ≡ []
IsCut (item ∷ items) path =
    (piece rest : List ℕ) × (path ≡ piece ++ rest) × IsPiece item piece × IsCut items rest
