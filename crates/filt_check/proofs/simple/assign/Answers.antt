use Rattle.std.proofs.Common.{arith}
use Rattle.conf_ast.specs.Filters.{expression_of}
use Rattle.filt_meaning.specs.Meaning.{value}
use Rattle.filt_meaning.specs.Scopes.{context_of, tables_of}
use Rattle.filt_meaning.proofs.Steps as s
use Rattle.filt_resolve.specs.Steps.{calls}
use Rattle.filt_check.proofs.Acting.{assigned}
use Rattle.filt_check.proofs.simple.assign.Goals as goal

pub returns-clause-meaning : goal.returns-clause-meaning
returns-clause-meaning c = λ around. assigned (tables_of around c.args.scope.now) (context_of c.args.text.now around c.args.scope.now c.args.names.now) c.target_place.result c.args.target.now c.in_ok-x.x (value (expression_of c.args.e.now) (context_of c.args.text.now around c.args.scope.now c.args.names.now)) (c.target_place.ensures around c.args.scope.now) (c.in_ok-x.ensures.meaning around)

pub returns-clause-steps : goal.returns-clause-steps
returns-clause-steps c = λ more. omega (arith, s.act-steps-Assign (calls c.args.scope.now more) c.target_place.result c.in_ok-x.x, c.in_ok-x.ensures.steps more)
