use Rattle.std.proofs.Common.{arith}
use Rattle.conf_ast.specs.Filters.{expression_of}
use Rattle.filt_meaning.specs.Configuration.{filter_where}
use Rattle.filt_types.specs.Seen.{scene_of}
use Rattle.filt_types.specs.Statements.{in_filter}
use Rattle.filt_types.specs.Weight.{block_weight}
use Rattle.filt_check.proofs.Light.{not_heavy}
use Rattle.filt_check.proofs.check.check_expr.Goals as goal

pub returns-in_ok-resolve_condition-in-None-clause-light : goal.returns-in_ok-resolve_condition-in-None-clause-light
returns-in_ok-resolve_condition-in-None-clause-light c = λ more.
    let scene = scene_of c.args.text.now c.args.scope.now in
    let source = filter_where (expression_of c.args.condition.now) in
    omega (arith, c.in_ok-resolve_condition-in-None.ensures.steps more, not_heavy c.args.at (block_weight scene source) (in_filter scene source) c.in-None.ensures)
