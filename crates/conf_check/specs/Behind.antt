-- What a configuration declares behind its statements, one after another (`at_start`, `behind`).
-- From: BIRD User's Guide, "Configuration".
-- Example: a constant is seen behind its own statement; a pipe `p` declares `p`, `p.export` and
-- `p.import`, and its tables are joined from there on.
use Rattle.std.specs.Prelude.{ℕ, ◌+◌, if◌then◌else◌, List, [], ◌∷◌, ◌++◌, Option, option_to_list, Result, Ok, Err}
use Rattle.bits_ip.specs.declared.address.Addr.TheVariants as addrs
use Rattle.bits_ip.specs.declared.address.Family.{Family}
use Rattle.bits_ip.specs.declared.address.Family.TheVariants as families
use Rattle.conf_ast.specs.Names.{name_bytes}
use Rattle.conf_ast.specs.Configurations as conf
use Rattle.filt_meaning.specs.declared.value.Failure.{Failure}
use Rattle.filt_meaning.specs.Values.{Val}
use Rattle.filt_meaning.specs.Configuration.{constant}
use Rattle.filt_meaning.specs.Names.{Around, Context}
use Rattle.filt_types.specs.Scenes.{Scene, Signature}
use Rattle.filt_types.specs.Refused.{signature_in}
use Rattle.conf_names.specs.declared.joints.Joint.{Joint}
use Rattle.conf_names.specs.Known.{Known}
use Rattle.conf_rules.specs.Protocols.{joint_of}
use Rattle.conf_names.specs.Names.{bgp_stem, own_name, pipe_names, pipe_stem, static_stem}
use Rattle.conf_rules.specs.Statements.{is_master, master}

-- ---- what is there from the start

abbrev pub at_start : List ℕ → Known
at_start text = record {
  scene = record {
    text = text;
    constants = [];
    functions = [];
    others = master families.V4 ∷ master families.V6 ∷ [];
  };
  tables = (master families.V4, families.V4) ∷ (master families.V6, families.V6) ∷ [];
  filters = [];
  protocols = 0;
  pipes = [];
}

-- ---- one thing more

abbrev pub with_scene : Known → Scene → Known
with_scene known scene = record {
  scene = scene;
  tables = known.tables;
  filters = known.filters;
  protocols = known.protocols;
  pipes = known.pipes;
}

-- The value of a constant rests on the source and the constants before it alone: it is the one that
-- the meaning of filters gives it around no route in particular.
abbrev pub no_route : Around
no_route = record {
  net = record { addr = addrs.V4 0; len = 0 };
  number = 0;
  protocols = [];
}

abbrev pub context_in : Scene → Context
context_in scene = record {
  text = scene.text;
  around = no_route;
  constants = scene.constants;
  functions = [];
  variables = [];
}

-- what has no value is refused, and isn't declared
abbrev pub with_value : Scene → List ℕ → Result Val Failure → Scene
with_value scene name (Err failure) = scene
with_value scene name (Ok v) = record {
  text = scene.text;
  constants = scene.constants ++ (name, v) ∷ [];
  functions = scene.functions;
  others = scene.others;
}

abbrev pub with_signature : Scene → List ℕ → Signature → Scene
with_signature scene name s = record {
  text = scene.text;
  constants = scene.constants;
  functions = scene.functions ++ (name, s) ∷ [];
  others = scene.others;
}

abbrev pub with_others : Scene → List (List ℕ) → Scene
with_others scene names = record {
  text = scene.text;
  constants = scene.constants;
  functions = scene.functions;
  others = scene.others ++ names;
}

abbrev pub with_table : Known → List ℕ → Family → Known
with_table known name family = record {
  scene = with_others known.scene (name ∷ []);
  tables = known.tables ++ (name, family) ∷ [];
  filters = known.filters;
  protocols = known.protocols;
  pipes = known.pipes;
}

abbrev pub with_filter : Known → List ℕ → Known
with_filter known name = record {
  scene = with_others known.scene (name ∷ []);
  tables = known.tables;
  filters = known.filters ++ name ∷ [];
  protocols = known.protocols;
  pipes = known.pipes;
}

-- a protocol that declares these names
abbrev pub with_protocol : Known → List (List ℕ) → Known
with_protocol known names = record {
  scene = with_others known.scene names;
  tables = known.tables;
  filters = known.filters;
  protocols = known.protocols + 1;
  pipes = known.pipes;
}

-- a pipe that joins these tables, where both are there
abbrev pub with_pipe : Known → Option Joint → Known
with_pipe known joint = record {
  scene = known.scene;
  tables = known.tables;
  filters = known.filters;
  protocols = known.protocols;
  pipes = known.pipes ++ option_to_list joint;
}

-- ---- statements

abbrev pub behind_one : Known → conf.Declaration → Known
behind_one known (conf.RouterId a) = known
behind_one known conf.Log = known
behind_one known (conf.Define name v) =
    with_scene known
    (with_value known.scene (name_bytes known.scene.text name)
    (constant (context_in known.scene) v))
behind_one known (conf.Table at family name) =
    if is_master known family name then known
    else with_table known (name_bytes known.scene.text name) family
behind_one known (conf.DefineFunction f) =
    with_scene known
    (with_signature known.scene (name_bytes known.scene.text f.name) (signature_in known.scene f))
behind_one known (conf.DefineFilter at name ss) =
    with_filter known (name_bytes known.scene.text name)
behind_one known (conf.Device name semicolon) = known
behind_one known (conf.Static p) = with_protocol known (own_name known static_stem p.name ∷ [])
behind_one known (conf.Bgp p) = with_protocol known (own_name known bgp_stem p.name ∷ [])
behind_one known (conf.Pipe p) =
    with_pipe (with_protocol known (pipe_names (own_name known pipe_stem p.name)))
    (joint_of known p.settings)

-- what is declared behind these statements
abbrev pub behind : Known → List conf.Declaration → Known
behind known [] = known
behind known (d ∷ ds) = behind (behind_one known d) ds
