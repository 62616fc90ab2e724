use Rattle.std.proofs.Common.{◌∙◌}
use Rattle.conf_system.proofs.Coding.{coded_never_stuck, drafted_says}
use Rattle.conf_system.proofs.system.System.by_number.Goals as goal

pub returns : goal.returns
returns c =
    let held = c.args.self.now in
    let code = c.args.code.now in
    c.new.ensures ∙ c.rule_at-rule.ensures.says code.functions.items held.names
    ∙ drafted_says code.functions.items held.checked.declared.scope held.checked.filters.items held.names code.filters.items held.checked.filters.items c.requires.filters c.args.number

pub new-requires : goal.new-requires
new-requires c = c.rule_at-rule.ensures.never_stuck c.args.code.now.functions.items (coded_never_stuck c.args.self.now c.args.code.now c.requires)
