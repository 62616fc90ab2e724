use Rattle.std.proofs.Common.{List, arith, ap, sym, ◌∙◌}
use Rattle.conf_ast.specs.declared.filters.Stmt.{Stmt}
use Rattle.conf_ast.specs.Filters.{block_of, statements_of}
use Rattle.filt_types.specs.Seen.{scene_of}
use Rattle.filt_types.specs.Statements.{in_filter}
use Rattle.filt_types.specs.Weight.{block_weight}
use Rattle.filt_check.proofs.Light.{not_heavy}
use Rattle.filt_check.proofs.check.check_block.Goals as goal

pub returns-in_ok-resolve_filter-in-None-clause-steps : goal.returns-in_ok-resolve_filter-in-None-clause-steps
returns-in_ok-resolve_filter-in-None-clause-steps c = λ more.
    omega (arith, c.in_ok-resolve_filter-in-None.ensures.steps more, ap (λ (l : List Stmt). block_weight (scene_of c.args.text.now c.args.scope.now) (statements_of l)) c.deref.ensures.value)

pub returns-in_ok-resolve_filter-in-None-clause-light : goal.returns-in_ok-resolve_filter-in-None-clause-light
returns-in_ok-resolve_filter-in-None-clause-light c = λ more.
    let scene = scene_of c.args.text.now c.args.scope.now in
    let source = block_of c.args.block.now in
    omega (arith, c.in_ok-resolve_filter-in-None.ensures.steps more, ap (λ (l : List Stmt). block_weight scene (statements_of l)) c.deref.ensures.value, not_heavy c.args.at (block_weight scene source) (in_filter scene source) (sym c.in-None.is ∙ c.in_ok-refusal.ensures))
