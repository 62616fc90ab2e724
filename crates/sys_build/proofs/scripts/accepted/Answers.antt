use Rattle.std.proofs.Common.{List, map, subst}
use Rattle.script_lines.specs.Script as lines
use Rattle.script_lines.specs.declared.script.Condition.{Condition}
use Rattle.conf_system.specs.Seen.{filter_says, system_of}
use Rattle.sys_build.specs.Names.{named_of}
use Rattle.sys_build.specs.Scripts.{Accepted, Answers, Tells, TellsFirst}
use Rattle.sys_build.proofs.Judged.{are_short, handed_on, none_handed, told_first}
use Rattle.sys_build.proofs.scripts.accepted.Goals as goal

pub judged-requires : goal.judged-requires
judged-requires c =
    let script = c.args.script in
    are_short c.args.text.now c.deref.result.now script.conditions.items c.requires.short c.deref.ensures.value
    (c.conditions_are_short.ensures.accepted (named_of (system_of c.args.system.now) c.args.schedule) c.args.text.now (map (λ phase. phase.items) script.phases.items) script.actors.items script.queries.items script.conditions.items c.requires.lines)

pub returns-in_err-filters-clause-told : goal.returns-in_err-filters-clause-told
returns-in_err-filters-clause-told c =
    let system = c.args.system.now in
    let script = c.args.script in
    let fault = c.in_err-filters.field-0.0 in
    handed_on c.from_residual.result fault (λ read. Answers (system_of system) c.args.schedule c.args.text.now (Accepted (map (λ phase. phase.items) read.phases.items) read.actors.items read.queries.items (map (filter_says system) read.filters.items))) (Tells (system_of system) c.args.schedule c.args.text.now) c.from_residual.ensures.1
    (told_first (system_of system) c.args.schedule c.args.text.now (lines.Accepted (map (λ phase. phase.items) script.phases.items) script.actors.items script.queries.items script.conditions.items) fault c.requires.lines
    (subst (λ (l : List Condition). TellsFirst (system_of system) l fault) c.deref.ensures.value c.in_err-filters.ensures.told))

pub returns-in_err-filters-clause-before : goal.returns-in_err-filters-clause-before
returns-in_err-filters-clause-before c = λ ordered. none_handed c.from_residual.result _ _ c.from_residual.ensures.1
