-- For private contracts alone: values as the code that runs sees them.
use Rattle.std.specs.Prelude.{ℕ, ◌≤◌, List, [], ◌∷◌, drop, map, reverse, take, Result, Vec, ⊤}
use Rattle.std.specs.Global.{Global}
use Rattle.filt_meaning.specs.declared.value.Failure.{Failure}
use Rattle.filt_meaning.specs.declared.value.Value.{Value}
use Rattle.filt_meaning.specs.Seen.{val_of}
use Rattle.filt_meaning.specs.Values.{Val}
use Rattle.filt_route.specs.Seen.{IsApplicable}

-- ---- values

abbrev pub vals_of : Vec Value Global → List Val
vals_of values = map val_of values.items

-- Values as the code that runs sees them, and those that wait for its end; the next of them first.
pub record Held : Type 0 where
  pub here : List Val
  pub under : List (List Val)

abbrev pub first_of : List (List Val) → List Val
first_of [] = []
first_of (here ∷ under) = here

abbrev pub rest_of : List (List Val) → List (List Val)
rest_of [] = []
rest_of (here ∷ under) = under

-- ---- frames

-- What lies one frame behind another, each of which begins at one of these places, the last frame first:
-- each frame, the last one first.
abbrev pub cut : {A : Type 0} → List A → (begins : List ℕ) → List (List A)
cut xs [] = []
cut xs (base ∷ more) = drop base xs ∷ cut (take base xs) more

-- each frame begins at the end of those under it, or before
abbrev pub AreStacked : (end : ℕ) → (begins : List ℕ) → Type 0
AreStacked end [] = ⊤
AreStacked end (base ∷ more) = (base ≤ end) × AreStacked base more

abbrev pub held_in : List Val → (base : ℕ) → (begins : List ℕ) → Held
held_in vals base begins = record { here = drop base vals; under = cut (take base vals) begins }

-- the same frames, of each the last value first
abbrev pub top_first : Held → Held
top_first held = record { here = reverse held.here; under = map reverse held.under }

-- ---- conditions

-- the top operand is there, and one that the operator takes
abbrev pub TakesTop : {A : Type 0} → (Val → Result A Failure) → (operands : List Val) → Type 0
TakesTop f [] = ⊥
TakesTop f (v ∷ os) = IsApplicable (f v)

-- so are the two top operands, of which the right one is on top
abbrev pub TakesTopTwo :
    {A : Type 0} → (Val → Val → Result A Failure) → (operands : List Val) → Type 0
TakesTopTwo f [] = ⊥
TakesTopTwo f (w ∷ []) = ⊥
TakesTopTwo f (w ∷ v ∷ os) = IsApplicable (f v w)
