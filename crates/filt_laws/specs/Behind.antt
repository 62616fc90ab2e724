-- For the laws: what the rules of types have seen behind statements of a configuration
-- (`seen_behind`), beside what runs there: a constant has the value that it has there, a function
-- is seen by its signature.
-- From: own.
-- Example: behind `function f() -> int { return 1; }` a function without parameters that gives a
-- number.
use Rattle.std.specs.Prelude.{ℕ, List, [], ◌∷◌, ◌++◌, Option, Some, None, Result, Ok, Err}
use Rattle.conf_ast.specs.declared.named.Name.{Name}
use Rattle.conf_ast.specs.Names.{name_bytes}
use Rattle.conf_ast.specs.Configurations as conf
use Rattle.filt_meaning.specs.declared.value.Failure.{Failure}
use Rattle.filt_meaning.specs.Values.{Val}
use Rattle.filt_meaning.specs.Configuration.{behind_one, constant}
use Rattle.filt_meaning.specs.Names.{Context}
use Rattle.filt_types.specs.declared.refusal.Refusal.{Refusal}
use Rattle.filt_types.specs.Scenes.{Scene, Signature}
use Rattle.filt_types.specs.Statements.{in_function}
use Rattle.filt_types.specs.Weight.{block_weight}
use Rattle.filt_laws.specs.Sound.{signature_of}

-- what has no value is refused, and isn't seen
abbrev pub with_value : Scene → List ℕ → Result Val Failure → Scene
with_value scene name (Err failure) = scene
with_value scene name (Ok v) = record {
  text = scene.text;
  constants = scene.constants ++ (name, v) ∷ [];
  functions = scene.functions;
  others = scene.others;
}

abbrev pub with_signature : Scene → List ℕ → Signature → Scene
with_signature scene name s = record {
  text = scene.text;
  constants = scene.constants;
  functions = scene.functions ++ (name, s) ∷ [];
  others = scene.others;
}

-- the name of a table, a filter or a protocol, where it has one
abbrev pub with_other : Scene → Option Name → Scene
with_other scene None = scene
with_other scene (Some n) = record {
  text = scene.text;
  constants = scene.constants;
  functions = scene.functions;
  others = scene.others ++ name_bytes scene.text n ∷ [];
}

abbrev pub with_function_seen : Scene → conf.Routine → Scene
with_function_seen scene f =
    with_signature scene (name_bytes scene.text f.name)
    (signature_of f (block_weight scene f.body))

abbrev pub seen_behind_one : Context → Scene → conf.Declaration → Scene
seen_behind_one c scene (conf.RouterId a) = scene
seen_behind_one c scene conf.Log = scene
seen_behind_one c scene (conf.Define name v) =
    with_value scene (name_bytes scene.text name) (constant c v)
seen_behind_one c scene (conf.Table at family name) = with_other scene (Some name)
seen_behind_one c scene (conf.DefineFunction f) = with_function_seen scene f
seen_behind_one c scene (conf.DefineFilter at name ss) = with_other scene (Some name)
seen_behind_one c scene (conf.Device name semicolon) = scene
seen_behind_one c scene (conf.Static p) = with_other scene p.name
seen_behind_one c scene (conf.Bgp p) = with_other scene p.name
seen_behind_one c scene (conf.Pipe p) = with_other scene p.name

-- what is seen behind these statements
abbrev pub seen_behind : Context → Scene → List conf.Declaration → Scene
seen_behind c scene [] = scene
seen_behind c scene (d ∷ ds) = seen_behind (behind_one c d) (seen_behind_one c scene d) ds

-- what is seen at the first statement of a text
abbrev pub seen_at_start : List ℕ → Scene
seen_at_start text = record { text = text; constants = []; functions = []; others = [] }

-- the same over another text, as where a condition isn't in the configuration
abbrev pub seen_in_text : Scene → List ℕ → Scene
seen_in_text scene text = record {
  text = text;
  constants = scene.constants;
  functions = scene.functions;
  others = scene.others;
}

-- ---- what is refused

abbrev pub refused_in_function : Scene → conf.Declaration → List Refusal
refused_in_function scene (conf.DefineFunction f) = in_function scene f
refused_in_function scene _ = []

-- what is refused in the functions of these statements, each where it stands
abbrev pub refused_in_functions : Context → Scene → List conf.Declaration → List Refusal
refused_in_functions c scene [] = []
refused_in_functions c scene (d ∷ ds) =
    refused_in_function scene d
    ++ refused_in_functions (behind_one c d) (seen_behind_one c scene d) ds
