use Rattle.std.proofs.Common.{inl}
use Rattle.conf_ast.specs.Filters.{expression_of}
use Rattle.conf_system.proofs.Conditions.{answered}
use Rattle.conf_system.proofs.Ordered.{answered_before}
use Rattle.conf_system.proofs.condition.answered.Goals as goal

pub returns-in-Some-clause-condition : goal.returns-in-Some-clause-condition
returns-in-Some-clause-condition c =
    answered c.args.system.now c.args.text.now (expression_of c.in-Some.tree) c.checked.result (rw c.in-Some.is at c.requires) (c.checked.ensures.asked c.args.system.now.names)

pub returns-in-Some-clause-before : goal.returns-in-Some-clause-before
returns-in-Some-clause-before c = answered_before c.args.system.now c.checked.result c.checked.ensures.before

pub returns-in-None-clause-condition : goal.returns-in-None-clause-condition
returns-in-None-clause-condition c = inl (rw c.in-None.is at c.requires)
