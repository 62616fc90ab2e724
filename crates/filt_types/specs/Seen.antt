-- Scopes and variables in memory, as the definitions see them (`scene_of`, `variables_in`).
-- From: own.
-- Example: behind `define A = 5;` the scene has the constant `A`, a number.
use Rattle.std.specs.Prelude.{ℕ, List, [], map, Option, Some, None}
use Rattle.std.specs.Borrow.{Bor}
use Rattle.filt_meaning.specs.declared.scope.Scope.{Scope}
use Rattle.filt_meaning.specs.declared.scope.TFunction.{TFunction}
use Rattle.filt_meaning.specs.Scopes.{constants_in}
use Rattle.filt_types.specs.declared.scene.Seen.{Seen}
use Rattle.filt_types.specs.Scenes.{Scene, Signature, Variables}

abbrev pub signature_of : TFunction → Signature
signature_of f = record { parameters = f.parameters.items; gives = f.gives; weight = f.weight }

abbrev pub functions_in : Scope → List (List ℕ × Signature)
functions_in scope = map (λ e. (e.0.items, signature_of e.1)) scope.functions.entries

abbrev pub scene_of : (text : List ℕ) → Scope → Scene
scene_of text scope = record {
  text = text;
  constants = constants_in scope;
  functions = functions_in scope;
  others = map (λ name. name.items) scope.others.keys;
}

-- ---- what is seen at a place

abbrev pub scene_in : Seen → Scene
scene_in seen = scene_of seen.text.now seen.scope.now

abbrev pub variables_at : Option (Bor Variables) → Variables
variables_at None = []
variables_at (Some vs) = vs.now

abbrev pub variables_in : Seen → Variables
variables_in seen = variables_at seen.variables
