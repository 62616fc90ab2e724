use Rattle.std.proofs.Common.{Some, map, arith}
use Rattle.filt_meaning.specs.Names.{function_of}
use Rattle.filt_meaning.specs.Scopes.{context_of, tables_of}
use Rattle.filt_resolve.specs.Seen.{values_in}
use Rattle.filt_meaning.specs.declared.tree.TExpr.TheVariants as te
use Rattle.filt_meaning.specs.Steps.{expr_steps}
use Rattle.filt_meaning.proofs.Steps as s
use Rattle.filt_resolve.specs.Steps.{calls}
use Rattle.filt_resolve.proofs.Taken as w
use Rattle.filt_check.proofs.Acting.{call_known, call_unknown}
use Rattle.filt_check.proofs.simple.called.Goals as goal

pub returns-in-Some-clause-meaning : goal.returns-in-Some-clause-meaning
returns-in-Some-clause-meaning c = λ around. call_known (tables_of around c.args.scope.now) (function_of (context_of c.args.text.now around c.args.scope.now c.args.names.now) c.args.name.now) c.in-Some.number c.in_ok-arguments.arguments (values_in (context_of c.args.text.now around c.args.scope.now c.args.names.now) c.args.given.now) (c.in-Some.ensures.meaning around c.args.names.now) (c.in_ok-arguments.ensures.meaning around)

pub returns-in-None-clause-meaning : goal.returns-in-None-clause-meaning
returns-in-None-clause-meaning c = λ around. call_unknown (tables_of around c.args.scope.now) (function_of (context_of c.args.text.now around c.args.scope.now c.args.names.now) c.args.name.now) (values_in (context_of c.args.text.now around c.args.scope.now c.args.names.now) c.args.given.now) (c.in-None.ensures.meaning around c.args.names.now)

pub returns-in-Some-clause-steps : goal.returns-in-Some-clause-steps
returns-in-Some-clause-steps c = λ more. omega (arith, s.act-steps-Call (calls c.args.scope.now more) c.in-Some.number c.in_ok-arguments.arguments, c.in-Some.ensures.steps more, w.sum_within (map (expr_steps (calls c.args.scope.now more)) c.in_ok-arguments.arguments.items), c.in_ok-arguments.ensures.steps more)

pub returns-in-None-clause-steps : goal.returns-in-None-clause-steps
returns-in-None-clause-steps c = λ more. omega (arith, s.act-steps-Return (calls c.args.scope.now more) (Some te.Stuck), w.steps-Stuck (calls c.args.scope.now more))
