use Rattle.std.proofs.Common.{◌++◌, ap, sym, ◌∙◌}
use Rattle.conf_ast.specs.Configurations.{routine_of}
use Rattle.conf_ast.specs.Filters.{block_of}
use Rattle.filt_meaning.specs.Scopes.{function_trees}
use Rattle.filt_meaning.specs.Steps.{called_by, run_steps}
use Rattle.filt_types.specs.Scenes.{Signature}
use Rattle.filt_types.specs.Seen.{scene_of}
use Rattle.filt_types.specs.Statements.{in_function}
use Rattle.filt_types.specs.Weight.{block_weight}
use Rattle.filt_check.proofs.Light.{not_heavy, own_weight}
use Rattle.filt_check.proofs.check.check_function.Goals as goal

pub returns-in_ok-resolve_function-in-None-clause-light : goal.returns-in_ok-resolve_function-in-None-clause-light
returns-in_ok-resolve_function-in-None-clause-light c = λ more.
    let scene = scene_of c.args.text.now c.args.scope.now in
    let n = block_weight scene (block_of c.args.function.now.block) in
    let f = c.in_ok-resolve_function-in-None.field-0 in
    own_weight (run_steps (called_by (function_trees c.args.scope.now ++ more)) f.sorts.items f.body.items) n f.weight (c.in_ok-resolve_function-in-None.ensures.steps more)
    (not_heavy c.args.function.now.name.at n (in_function scene (routine_of c.args.function.now)) (sym c.in-None.is ∙ c.in_ok-refusal.ensures))
    (ap (λ (s : Signature). s.weight) c.in_ok-resolve_function-in-None.ensures.signature)
