-- What is owed of compiled functions and filters: what their trees do, and that they cost no more.
use Rattle.std.specs.Prelude.{◌≡◌, ◌≤◌, ℕ, List, [], ◌∷◌, ◌++◌, map, get_or, take, ⊤}
use Rattle.attrs.specs.declared.attributes.Attrs.{Attrs}
use Rattle.filt_meaning.specs.declared.fixed.Fixed.{Fixed}
use Rattle.filt_meaning.specs.Seen.{val_of_fixed}
use Rattle.filt_meaning.specs.Flow.{Frame}
use Rattle.filt_meaning.specs.Names.{Around}
use Rattle.filt_meaning.specs.declared.scope.TFunction.{TFunction}
use Rattle.filt_meaning.specs.Trees.{Tables, function}
use Rattle.filt_code.specs.declared.code.Draft.{Draft}
use Rattle.filt_code.specs.declared.code.Routine.{Routine}
use Rattle.filt_meaning.specs.Steps.{IsLight, run_steps}
use Rattle.filt_meaning.specs.declared.tree.TStmt.{TStmt}
use Rattle.filt_meaning.specs.declared.value.Sort.{Sort}
use Rattle.filt_code.specs.declared.instr.Instr.{Instr}
use Rattle.filt_code.specs.Codes.{Setting, doing, setting}
use Rattle.filt_code.specs.Costs.{cost, costs}

-- what trees are run over, with these constants, where code is run over this setting
abbrev pub beside : List Fixed → Setting → Tables
beside constants s = record {
  around = s.around;
  constants = map val_of_fixed constants;
  functions = s.functions;
}

-- The code of a function, over that of the functions before it, does what the function does, whatever
-- it is called with.
abbrev pub IsCompiled : List Fixed → (before : List Routine) → TFunction → Routine → Type 0
IsCompiled constants before f made =
    (around : Around) (arguments : Frame) (attrs : Attrs) → doing (setting around before) made arguments attrs ≡ function (beside constants (setting around before)) f arguments attrs

-- so of each, over those before the first one
abbrev pub AreCompiled : List Fixed → (before : List Routine) → List TFunction → List Routine → Type 0
AreCompiled constants before [] [] = ⊤
AreCompiled constants before [] (made ∷ more) = ⊥
AreCompiled constants before (f ∷ fs) [] = ⊥
AreCompiled constants before (f ∷ fs) (made ∷ more) =
    IsCompiled constants before f made × AreCompiled constants (before ++ made ∷ []) fs more

-- None of the functions that cost this costs more than it is told to.
abbrev pub CostAtMost : List ℕ → (called : ℕ → ℕ) → Type 0
CostAtMost fs called = (n : ℕ) → get_or fs n 0 ≤ called n

-- Whatever functions cost, code costs no more than statements over variables of these sorts take.
abbrev pub CostsItsSteps : List Sort → List TStmt → List Instr → Type 0
CostsItsSteps sorts ss code =
    (fs : List ℕ) (called : ℕ → ℕ) → CostAtMost fs called → cost fs code 0 ≤ run_steps called sorts ss

-- so of each function and its code
abbrev pub CostTheirSteps : List TFunction → List Routine → Type 0
CostTheirSteps [] [] = ⊤
CostTheirSteps [] (made ∷ more) = ⊥
CostTheirSteps (f ∷ fs) [] = ⊥
CostTheirSteps (f ∷ fs) (made ∷ more) =
    CostsItsSteps f.sorts.items f.body.items made.code.items × CostTheirSteps fs more

-- Each function takes five steps for each that it weighs at most, over those before it.
abbrev pub AreLight : (before functions : List TFunction) → Type 0
AreLight before [] = ⊤
AreLight before (f ∷ fs) = IsLight before f × AreLight (before ++ f ∷ []) fs

-- what a filter's code costs over the functions that it sees, the first of these
abbrev pub draft_cost : List Routine → Draft → ℕ
draft_cost functions draft = cost (costs (take draft.functions functions)) draft.code.items 0
