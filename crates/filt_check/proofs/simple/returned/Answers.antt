use Rattle.std.proofs.Common.{Option, Some, None, option_map, arith, ap}
use Rattle.filt_meaning.specs.Scopes.{context_of, tables_of}
use Rattle.conf_ast.specs.declared.filters.Expr.{Expr}
use Rattle.conf_ast.specs.Filters.{expression_of}
use Rattle.filt_meaning.proofs.Steps as s
use Rattle.filt_types.specs.Seen.{scene_of}
use Rattle.filt_types.specs.Weight.{optional}
use Rattle.filt_resolve.specs.Steps.{calls}
use Rattle.filt_check.proofs.Acting.{returned_none, returned_some}
use Rattle.filt_check.proofs.simple.returned.Goals as goal

pub returns-in-None-clause-meaning : goal.returns-in-None-clause-meaning
returns-in-None-clause-meaning c = λ around. returned_none (tables_of around c.args.scope.now) (context_of c.args.text.now around c.args.scope.now c.args.names.now) c.args.given.now c.in-None.is

pub returns-in_ok-x-in-Some-clause-meaning : goal.returns-in_ok-x-in-Some-clause-meaning
returns-in_ok-x-in-Some-clause-meaning c = λ around. returned_some (tables_of around c.args.scope.now) (context_of c.args.text.now around c.args.scope.now c.args.names.now) c.args.given.now c.in_ok-x-in-Some.x c.in-Some.e (c.in_ok-x-in-Some.ensures.meaning around) c.in-Some.is

pub returns-in-None-clause-steps : goal.returns-in-None-clause-steps
returns-in-None-clause-steps c = λ more. omega (arith, s.act-steps-Return (calls c.args.scope.now more) None)

pub returns-in_ok-x-in-Some-clause-steps : goal.returns-in_ok-x-in-Some-clause-steps
returns-in_ok-x-in-Some-clause-steps c = λ more. omega (arith, s.act-steps-Return (calls c.args.scope.now more) (Some c.in_ok-x-in-Some.x), c.in_ok-x-in-Some.ensures.steps more, ap (λ (o : Option Expr). optional (scene_of c.args.text.now c.args.scope.now) (option_map expression_of o)) c.in-Some.is)
