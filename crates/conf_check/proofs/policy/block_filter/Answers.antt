use Rattle.std.proofs.Common.{List, ap, ◌∙◌, [], arith}
use Rattle.conf_ast.specs.declared.filters.Stmt.{Stmt}
use Rattle.conf_ast.specs.Filters.{statements_of}
use Rattle.filt_meaning.specs.Configuration.{body}
use Rattle.filt_meaning.specs.Scopes.{context_of}
use Rattle.filt_types.specs.Seen.{scene_of}
use Rattle.filt_types.specs.Weight.{block_weight}
use Rattle.conf_check.proofs.policy.block_filter.Goals as goal

pub returns : goal.returns
returns c = record {
  does = λ around attrs. c.in_ok-filter.ensures.meaning around attrs ∙ ap (λ (ss : List Stmt). body (context_of c.args.text.now around c.args.scope.now []) [] (statements_of ss) [] attrs) c.deref.ensures.value;
  constants = c.in_ok-filter.ensures.sees.0;
  functions = c.in_ok-filter.ensures.sees.1;
  steps = λ more. omega (arith, c.in_ok-filter.ensures.steps more, ap (λ (ss : List Stmt). block_weight (scene_of c.args.text.now c.args.scope.now) (statements_of ss)) c.deref.ensures.value);
}
