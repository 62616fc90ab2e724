use Rattle.filt_meaning.specs.Names.{function_of}
use Rattle.filt_meaning.specs.Scopes.{context_of, tables_of}
use Rattle.std.proofs.Common.{arith}
use Rattle.filt_meaning.proofs.Steps as s
use Rattle.filt_resolve.specs.Steps.{calls}
use Rattle.filt_resolve.proofs.Taken as w
use Rattle.filt_resolve.proofs.Resolving.{called_known, called_unknown}
use Rattle.filt_resolve.proofs.expressions.called.Goals as goal

pub returns-in-Some-clause-meaning : goal.returns-in-Some-clause-meaning
returns-in-Some-clause-meaning c = λ around variables. called_known (tables_of around c.args.scope.now) (function_of (context_of c.args.text.now around c.args.scope.now variables) c.args.name.now) c.in-Some.number c.args.arguments (c.in-Some.ensures.meaning around variables)

pub returns-in-None-clause-meaning : goal.returns-in-None-clause-meaning
returns-in-None-clause-meaning c = λ around variables. called_unknown (tables_of around c.args.scope.now) (function_of (context_of c.args.text.now around c.args.scope.now variables) c.args.name.now) c.args.arguments.items (c.in-None.ensures.meaning around variables)

pub returns-in-Some-clause-steps : goal.returns-in-Some-clause-steps
returns-in-Some-clause-steps c = λ more. omega (arith, s.steps-Call (calls c.args.scope.now more) c.in-Some.number c.args.arguments, c.in-Some.ensures.steps more)

pub returns-in-None-clause-steps : goal.returns-in-None-clause-steps
returns-in-None-clause-steps c = λ more. omega (arith, w.steps-Stuck (calls c.args.scope.now more))
