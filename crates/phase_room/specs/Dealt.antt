-- Lists that each have one item more, that of its place (`AreLonger`).
-- From: own.
-- Example: of the hands of a protocol each actor gets the one of its number.
use Rattle.std.specs.Prelude.{◌≡◌, ℕ, List, [], ◌∷◌, ◌++◌, length, Option, Some, None, slice_get}
use Rattle.std.specs.declared.alloc.Global.{Global}
use Rattle.std.specs.declared.vec.Vec.{Vec}

-- the item, if there is one
abbrev pub alone : {X : Type 0} → Option X → List X
alone None = []
alone (Some x) = x ∷ []

pub record AreLonger {X : Type 0} (old new : List (Vec X Global)) (items : List X) : Type 0 where
  pub count : length new ≡ length old
  pub each :
      (place : ℕ) (was : Vec X Global) → slice_get old place ≡ Some was
      → (now : Vec X Global) × (slice_get new place ≡ Some now)
      × (now.items ≡ was.items ++ alone (slice_get items place))
