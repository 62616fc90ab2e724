use Rattle.std.proofs.Common.{◌∙◌, ap, sym}
use Rattle.conf_check.specs.declared.checked.PolicyDef.{PolicyDef}
use Rattle.conf_system.specs.Seen.{policy_says}
use Rattle.conf_system.proofs.Coding.{coded_never_stuck, drafted_says}
use Rattle.conf_system.proofs.system.System.rule.Goals as goal

pub returns-in-All-clause-says : goal.returns-in-All-clause-says
returns-in-All-clause-says c =
    let held = c.args.self.now in
    ap (λ (p : PolicyDef). policy_says held.checked.declared.scope held.checked.filters.items held.names p) (sym c.in-All.is)

pub returns-in-None-clause-says : goal.returns-in-None-clause-says
returns-in-None-clause-says c =
    let held = c.args.self.now in
    ap (λ (p : PolicyDef). policy_says held.checked.declared.scope held.checked.filters.items held.names p) (sym c.in-None.is)

pub returns-in-Filter-clause-says : goal.returns-in-Filter-clause-says
returns-in-Filter-clause-says c =
    let held = c.args.self.now in
    let code = c.args.code.now in
    c.rule_at.ensures.says code.functions.items held.names
    ∙ drafted_says code.functions.items held.checked.declared.scope held.checked.filters.items held.names code.filters.items held.checked.filters.items c.requires.code.filters c.in-Filter.number
    ∙ ap (λ (p : PolicyDef). policy_says held.checked.declared.scope held.checked.filters.items held.names p) (sym c.in-Filter.is)

pub own-requires-clause-before : goal.own-requires-clause-before
own-requires-clause-before c = rw c.in-Own.is at c.requires.before

pub returns-in-Own-clause-says : goal.returns-in-Own-clause-says
returns-in-Own-clause-says c = rw c.in-Own.is c.own.ensures.says

pub returns-in-Filter-clause-never_stuck : goal.returns-in-Filter-clause-never_stuck
returns-in-Filter-clause-never_stuck c = c.rule_at.ensures.never_stuck c.args.code.now.functions.items (coded_never_stuck c.args.self.now c.args.code.now c.requires.code)
