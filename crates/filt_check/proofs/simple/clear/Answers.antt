use Rattle.std.proofs.Common.{ap, ◌∙◌, arith}
use Rattle.filt_meaning.specs.Operators.{emptied_of}
use Rattle.filt_meaning.specs.Meaning.{on_value, read, value}
use Rattle.filt_meaning.specs.declared.tree.TExpr.{TExpr}
use Rattle.filt_meaning.specs.declared.tree.TExpr.TheVariants as te
use Rattle.filt_meaning.specs.Trees.{expr}
use Rattle.filt_meaning.specs.Scopes.{context_of, tables_of}
use Rattle.filt_meaning.specs.Steps.{expr_steps}
use Rattle.filt_meaning.proofs.Steps as s
use Rattle.filt_resolve.specs.Steps.{calls}
use Rattle.filt_check.proofs.Acting.{assigned, empty_same}
use Rattle.filt_check.proofs.simple.clear.Goals as goal

pub returns-clause-meaning : goal.returns-clause-meaning
returns-clause-meaning c = λ around.
    let u = value (read c.args.target.now) (context_of c.args.text.now around c.args.scope.now c.args.names.now) in
    assigned (tables_of around c.args.scope.now) (context_of c.args.text.now around c.args.scope.now c.args.names.now) c.target_place.result c.args.target.now (te.Empty c.in_ok-held.held) (on_value u emptied_of) (c.target_place.ensures around c.args.scope.now)
    (empty_same (tables_of around c.args.scope.now) c.in_ok-held.held u (ap (λ (x : TExpr). expr x (tables_of around c.args.scope.now)) c.in_ok-held.ensures.ok ∙ c.target_value.ensures.meaning around))

pub returns-clause-steps : goal.returns-clause-steps
returns-clause-steps c = λ more. omega (arith, s.act-steps-Assign (calls c.args.scope.now more) c.target_place.result (te.Empty c.in_ok-held.held), s.steps-Empty (calls c.args.scope.now more) c.in_ok-held.held, ap (expr_steps (calls c.args.scope.now more)) c.in_ok-held.ensures.ok, c.target_value.ensures.steps (calls c.args.scope.now more))
