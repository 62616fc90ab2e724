use Rattle.std.proofs.Common.{Option, option_map, arith, ap}
use Rattle.filt_meaning.specs.Scopes.{context_of, tables_of}
use Rattle.conf_ast.specs.declared.filters.Expr.{Expr}
use Rattle.conf_ast.specs.Filters.{expression_of}
use Rattle.filt_meaning.specs.declared.tree.TExpr.TheVariants as te
use Rattle.filt_meaning.proofs.Steps as s
use Rattle.filt_types.specs.Seen.{scene_of}
use Rattle.filt_types.specs.Weight.{optional}
use Rattle.filt_resolve.specs.Steps.{calls}
use Rattle.filt_resolve.proofs.Taken as w
use Rattle.filt_check.proofs.Acting.{default_assigned, value_assigned}
use Rattle.filt_check.proofs.simple.declare.Goals as goal

pub returns-in-None-clause-meaning : goal.returns-in-None-clause-meaning
returns-in-None-clause-meaning c = λ around. default_assigned (tables_of around c.args.scope.now) (context_of c.args.text.now around c.args.scope.now c.args.names.now) c.variable.result c.args.name.now c.type_sort.result c.args.variable_type c.args.first.now (c.variable.ensures around c.args.scope.now) c.type_sort.ensures c.in-None.is

pub returns-in_ok-x-in-Some-clause-meaning : goal.returns-in_ok-x-in-Some-clause-meaning
returns-in_ok-x-in-Some-clause-meaning c = λ around. value_assigned (tables_of around c.args.scope.now) (context_of c.args.text.now around c.args.scope.now c.args.names.now) c.variable-in-Some.result c.args.name.now c.args.variable_type c.args.first.now c.in_ok-x-in-Some.x c.in-Some.e (c.variable-in-Some.ensures around c.args.scope.now) (c.in_ok-x-in-Some.ensures.meaning around) c.in-Some.is

pub returns-in-None-clause-steps : goal.returns-in-None-clause-steps
returns-in-None-clause-steps c = λ more. omega (arith, s.act-steps-Assign (calls c.args.scope.now more) c.variable.result (te.Default c.type_sort.result), w.steps-Default (calls c.args.scope.now more) c.type_sort.result)

pub returns-in_ok-x-in-Some-clause-steps : goal.returns-in_ok-x-in-Some-clause-steps
returns-in_ok-x-in-Some-clause-steps c = λ more. omega (arith, s.act-steps-Assign (calls c.args.scope.now more) c.variable-in-Some.result c.in_ok-x-in-Some.x, c.in_ok-x-in-Some.ensures.steps more, ap (λ (o : Option Expr). optional (scene_of c.args.text.now c.args.scope.now) (option_map expression_of o)) c.in-Some.is)
