use Rattle.std.proofs.Common.{ap, ◌∙◌, arith}
use Rattle.conf_ast.specs.Filters.{expression_of}
use Rattle.filt_meaning.specs.Meaning.{method_of, on_two, read, value}
use Rattle.filt_meaning.specs.declared.tree.TExpr.{TExpr}
use Rattle.filt_meaning.specs.declared.tree.TExpr.TheVariants as te
use Rattle.filt_meaning.specs.Trees.{expr}
use Rattle.filt_meaning.specs.Scopes.{context_of, tables_of}
use Rattle.filt_meaning.specs.Steps.{expr_steps}
use Rattle.filt_meaning.proofs.Steps as s
use Rattle.filt_resolve.specs.Steps.{calls}
use Rattle.filt_check.proofs.Acting.{assigned, method_same}
use Rattle.filt_check.proofs.simple.change_by.Goals as goal

pub returns-clause-meaning : goal.returns-clause-meaning
returns-clause-meaning c = λ around.
    let u = value (read c.args.target.now) (context_of c.args.text.now around c.args.scope.now c.args.names.now) in
    let v = value (expression_of c.args.argument.now) (context_of c.args.text.now around c.args.scope.now c.args.names.now) in
    assigned (tables_of around c.args.scope.now) (context_of c.args.text.now around c.args.scope.now c.args.names.now) c.target_place.result c.args.target.now (te.Method c.args.kind c.in_ok-held.held c.in_ok-given.given) (on_two u v (method_of c.args.kind)) (c.target_place.ensures around c.args.scope.now)
    (method_same (tables_of around c.args.scope.now) c.args.kind c.in_ok-held.held c.in_ok-given.given u v (ap (λ (x : TExpr). expr x (tables_of around c.args.scope.now)) c.in_ok-held.ensures.ok ∙ c.target_value.ensures.meaning around) (c.in_ok-given.ensures.meaning around))

pub returns-clause-steps : goal.returns-clause-steps
returns-clause-steps c = λ more. omega (arith, s.act-steps-Assign (calls c.args.scope.now more) c.target_place.result (te.Method c.args.kind c.in_ok-held.held c.in_ok-given.given), s.steps-Method (calls c.args.scope.now more) c.args.kind c.in_ok-held.held c.in_ok-given.given, ap (expr_steps (calls c.args.scope.now more)) c.in_ok-held.ensures.ok, c.target_value.ensures.steps (calls c.args.scope.now more), c.in_ok-given.ensures.steps more)
