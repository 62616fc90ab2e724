use Rattle.std.proofs.Common.{arith}
use Rattle.filt_meaning.specs.Scopes.{context_of, tables_of}
use Rattle.filt_resolve.specs.Seen.{values_in}
use Rattle.filt_meaning.proofs.Steps as s
use Rattle.filt_resolve.specs.Steps.{calls}
use Rattle.filt_check.proofs.Acting.{printed}
use Rattle.filt_check.proofs.simple.print.Goals as goal

pub returns-clause-meaning : goal.returns-clause-meaning
returns-clause-meaning c = λ around. printed (tables_of around c.args.scope.now) c.in_ok-all.all (values_in (context_of c.args.text.now around c.args.scope.now c.args.names.now) c.args.given.now) (c.in_ok-all.ensures.meaning around)

pub returns-clause-steps : goal.returns-clause-steps
returns-clause-steps c = λ more. omega (arith, s.act-steps-Print (calls c.args.scope.now more) c.in_ok-all.all, c.in_ok-all.ensures.steps more)
