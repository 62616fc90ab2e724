use Rattle.core_machine.proofs.SomeRules.{some_rules}
use Rattle.core_machine.proofs.laws.some_rules_are_as_asked.Goals as goal

pub returns : goal.returns
returns c = some_rules
