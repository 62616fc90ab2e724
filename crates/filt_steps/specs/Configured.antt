-- For the laws: the functions of a configuration, as they are counted and weighed (`counts_behind`,
-- `weighed_behind`): each behind those before it, over what it sees.
-- From: own.
-- Example: a function that calls one before it weighs what that one weighs too.
use Rattle.std.specs.Prelude.{ℕ, List, [], ◌∷◌, ◌++◌, map}
use Rattle.conf_ast.specs.Names.{name_bytes}
use Rattle.conf_ast.specs.declared.filters.Parameter.{Parameter}
use Rattle.conf_ast.specs.Configurations.{Routine, Declaration, DefineFunction}
use Rattle.filt_meaning.specs.Configuration.{behind_one}
use Rattle.filt_meaning.specs.Names.{Context, sort_of_type}
use Rattle.filt_types.specs.Scenes.{Scene, Signature}
use Rattle.filt_types.specs.Statements.{sort_given}
use Rattle.filt_types.specs.Weight.{block_weight}
use Rattle.filt_steps.specs.Agreement.{with_signature}
use Rattle.filt_steps.specs.Steps.{Counts, function_steps}

abbrev pub with_count : Context → Counts → Declaration → Counts
with_count c fs (DefineFunction f) = fs ++ (name_bytes c.text f.name, function_steps c fs f) ∷ []
with_count c fs _ = fs

-- what functions take behind these statements
abbrev pub counts_behind : Context → Counts → List Declaration → Counts
counts_behind c fs [] = fs
counts_behind c fs (d ∷ ds) = counts_behind (behind_one c d) (with_count c fs d) ds

abbrev pub signature : Scene → Routine → Signature
signature scene f = record {
  parameters = map (λ (p : Parameter). sort_of_type p.variable_type) f.parameters;
  gives = sort_given f.gives;
  weight = block_weight scene f.body;
}

-- Functions alone have weights: constants and other names aren't gathered here.
abbrev pub with_weight : Scene → Declaration → Scene
with_weight scene (DefineFunction f) =
    with_signature scene (name_bytes scene.text f.name) (signature scene f)
with_weight scene _ = scene

-- what functions weigh behind these statements
abbrev pub weighed_behind : Scene → List Declaration → Scene
weighed_behind scene [] = scene
weighed_behind scene (d ∷ ds) = weighed_behind (with_weight scene d) ds

-- what is weighed at the first statement of a text
abbrev pub at_first : List ℕ → Scene
at_first text = record { text = text; constants = []; functions = []; others = [] }
