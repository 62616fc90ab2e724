use Rattle.filt_code.specs.Codes.{IsNeverStuck}
use Rattle.conf_system.proofs.Coding.{of_place}
use Rattle.conf_system.proofs.code.rule_at.Goals as goal

pub returns-in-Some-clause-never_stuck : goal.returns-in-Some-clause-never_stuck
returns-in-Some-clause-never_stuck c = λ functions all.
    of_place (IsNeverStuck functions) c.deref.result.now c.args.filters.now.items c.args.number c.get.result c.in-Some.draft c.in-Some.is c.deref.ensures.value all
    c.get.ensures.lookup.0 c.get.ensures.lookup.1
