use Rattle.conf_ast.specs.Filters.{expression_of}
use Rattle.conf_system.proofs.Conditions.{asks, refuses}
use Rattle.conf_system.proofs.Ordered.{checked_before}
use Rattle.conf_system.proofs.condition.checked.Goals as goal

pub returns-in-Ok-clause-asked : goal.returns-in-Ok-clause-asked
returns-in-Ok-clause-asked c = λ names. asks c.args.scope.now names c.args.text.now (expression_of c.args.condition.now) c.in-Ok.filter c.in-Ok.ensures.answer c.in-Ok.ensures.meaning

pub returns-in-Ok-clause-before : goal.returns-in-Ok-clause-before
returns-in-Ok-clause-before c = λ within types.
    checked_before c.typed_filters_are_never_stuck.ensures.stuck c.args.text.now c.args.scope.now (expression_of c.args.condition.now) c.in-Ok.filter within types
    c.in-Ok.ensures.answer c.in-Ok.ensures.sees.0 c.in-Ok.ensures.meaning c.in-Ok.ensures.light

pub returns-in_ok-refused-in-Err-clause-asked : goal.returns-in_ok-refused-in-Err-clause-asked
returns-in_ok-refused-in-Err-clause-asked c = λ names. refuses c.args.scope.now names c.args.text.now (expression_of c.args.condition.now) (c.in_ok-refused-in-Err.ensures _ _ c.in-Err.ensures.answer)
