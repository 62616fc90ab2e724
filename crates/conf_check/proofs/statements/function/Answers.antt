use Rattle.std.proofs.Common.{List, ℕ, ◌++◌, map, ap, ◌∙◌, Vec}
use Rattle.std.specs.Global.{Global}
use Rattle.conf_ast.specs.Configurations.{routine_of}
use Rattle.conf_ast.specs.Filters.{block_of}
use Rattle.filt_meaning.specs.Scopes.{function_trees}
use Rattle.filt_meaning.specs.Steps.{called_by, run_steps}
use Rattle.filt_types.specs.Scenes.{Signature, is_declared}
use Rattle.filt_types.specs.Seen.{functions_in, scene_of}
use Rattle.filt_types.specs.Weight.{block_weight}
use Rattle.filt_check.proofs.Light.{own_weight}
use Rattle.conf_ast.specs.Names.{name_bytes}
use Rattle.conf_names.specs.Seen.{known_of}
use Rattle.conf_check.proofs.Allowed.{function_free, function_light, is_free}
use Rattle.conf_check.proofs.Growing.{function_declares}
use Rattle.conf_check.proofs.statements.function.Goals as goal

pub declare_function-requires : goal.declare_function-requires
declare_function-requires c =
    let known = known_of c.args.text.now c.args.declared.now in
    ap (λ (n : List ℕ). is_declared (functions_in c.args.declared.now.scope) n) c.bytes.ensures
    ∙ (is_free known (name_bytes c.args.text.now c.args.function.now.name) (function_free known (routine_of c.args.function.now) c.requires.0)).functions

pub returns : goal.returns
returns c =
    let joins = c.in_ok-declare_function.ensures.functions in
    function_declares c.args.text.now c.args.declared.now c.declare_function.new.scope (routine_of c.args.function.now) c.in_ok-tree.tree
    (joins.0, joins.1 ∙ c.bytes.ensures, joins.2) c.in_ok-declare_function.ensures.constants (ap (λ (l : List (Vec ℕ Global)). map (λ (k : Vec ℕ Global). k.items) l) c.in_ok-declare_function.ensures.others)
    c.in_ok-tree.ensures.signature c.in_ok-tree.ensures.meaning c.in_ok-tree.ensures.sees
    (λ more. own_weight (run_steps (called_by (function_trees c.args.declared.now.scope ++ more)) c.in_ok-tree.tree.sorts.items c.in_ok-tree.tree.body.items)
    (block_weight (scene_of c.args.text.now c.args.declared.now.scope) (block_of c.args.function.now.block)) c.in_ok-tree.tree.weight (c.in_ok-tree.ensures.steps more)
    (function_light (known_of c.args.text.now c.args.declared.now) (routine_of c.args.function.now) c.requires.0) (ap (λ (s : Signature). s.weight) c.in_ok-tree.ensures.signature))
