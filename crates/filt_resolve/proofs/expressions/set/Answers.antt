use Rattle.std.proofs.Common.{ap, ◌∙◌}
use Rattle.filt_meaning.specs.Meaning.{given}
use Rattle.filt_meaning.specs.Scopes.{tables_of}
use Rattle.filt_resolve.proofs.expressions.set.Goals as goal

pub returns-clause-meaning : goal.returns-clause-meaning
returns-clause-meaning c = λ around variables. c.set_value.ensures.meaning (tables_of around c.args.scope.now) ∙ ap given (c.in_ok-labels.ensures around variables)

pub returns-clause-steps : goal.returns-clause-steps
returns-clause-steps c = λ called. c.set_value.ensures.steps called
