use Rattle.conf_ast.specs.Filters.{block_of}
use Rattle.filt_types.specs.Seen.{scene_of}
use Rattle.filt_types.specs.Weight.{block_weight, too_heavy}
use Rattle.filt_rules.proofs.Checking as g
use Rattle.filt_rules.proofs.filters.first_in_function.Goals as goal

pub returns : goal.returns
returns c =
    let scene = scene_of c.args.text.now c.args.scope.now in
    let n = block_weight scene (block_of c.args.function.now.block) in
    g.function_first scene (too_heavy c.args.function.now.name.at n) c.new-variables.result c.check_parameters.new.variables c.args.function.now.parameters.items c.deref.result.now c.args.function.now.gives c.sort_given.result c.args.function.now.block.statements.items c.deref-2.result.now c.check_weight.new.first c.check_parameters.new.first c.check_all.new.first
    (c.check_weight.ensures n c.weigh_block-weight.ensures) c.new-variables.ensures c.deref.ensures.value c.deref-2.ensures.value c.sort_given.ensures c.in_ok-check_parameters.ensures.seen c.in_ok-check_parameters.ensures.first c.in_ok-check_all.ensures.first
