-- For the laws: a scene, by which filters are weighed, and a context, over which they are run, that
-- agree (`Agree`).
-- From: own.
-- Example: a function that is run is one that is weighed, with at least as much as its steps.
use Rattle.std.specs.Prelude.{◌≡◌, ℕ, ◌≤◌, List, [], ◌∷◌, ◌++◌, ⊤}
use Rattle.attrs.specs.declared.attributes.Attrs.{Attrs}
use Rattle.filt_meaning.specs.Flow.{Frame}
use Rattle.filt_meaning.specs.Names.{Context, Doing}
use Rattle.filt_types.specs.Scenes.{Scene, Signature}
use Rattle.filt_steps.specs.Limits.{AreWithin, AttrsAreWithin, ContextIsWithin}
use Rattle.filt_steps.specs.Steps.{Count, Counts}

-- over arguments and attributes within limits it takes at most so many steps
abbrev pub TakesAtMost : ℕ → Count → Type 0
TakesAtMost n count = (arguments : Frame) (attrs : Attrs) → AreWithin arguments
    → AttrsAreWithin attrs → count arguments attrs ≤ n

-- functions of the same names in the same order, each of which takes at most its weight
abbrev pub FunctionsAgree : List (List ℕ × Doing) → List (List ℕ × Signature) → Counts → Type 0
FunctionsAgree [] [] [] = ⊤
FunctionsAgree (f ∷ fs) (s ∷ ss) (n ∷ ns) =
    (f.0 ≡ s.0) × (n.0 ≡ s.0) × TakesAtMost s.1.weight n.1 × FunctionsAgree fs ss ns
FunctionsAgree _ _ _ = ⊥

pub record Agree (scene : Scene) (c : Context) (fs : Counts) : Type 0 where
  pub text : c.text ≡ scene.text
  pub limits : ContextIsWithin c
  pub functions : FunctionsAgree c.functions scene.functions fs

-- with a function more, behind the others
abbrev pub with_signature : Scene → List ℕ → Signature → Scene
with_signature scene name s = record {
  text = scene.text;
  constants = scene.constants;
  functions = scene.functions ++ (name, s) ∷ [];
  others = scene.others;
}
