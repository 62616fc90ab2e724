use Rattle.std.proofs.Common.{map, refl}
use Rattle.script_lines.specs.Script as lines
use Rattle.conf_system.specs.Seen.{filter_says, system_of}
use Rattle.sys_build.specs.Names.{named_of}
use Rattle.sys_build.specs.Scripts.{Accepted, Answers, Tells}
use Rattle.sys_build.proofs.Judged.{are_short, handed_on, none_handed, told_first, told_words}
use Rattle.sys_build.proofs.scripts.refused.Goals as goal

pub judged-requires : goal.judged-requires
judged-requires c =
    are_short c.args.text.now c.args.conditions.now c.args.conditions.now c.requires.short refl
    (c.conditions_are_short.ensures.refused (named_of (system_of c.args.system.now) c.args.schedule) c.args.text.now c.args.line c.args.kind c.args.conditions.now c.requires.lines)

pub returns-in_err-_judged-clause-told : goal.returns-in_err-_judged-clause-told
returns-in_err-_judged-clause-told c =
    let system = c.args.system.now in
    let fault = c.in_err-_judged.field-0.0 in
    handed_on c.from_residual.result fault (λ read. Answers (system_of system) c.args.schedule c.args.text.now (Accepted (map (λ phase. phase.items) read.phases.items) read.actors.items read.queries.items (map (filter_says system) read.filters.items))) (Tells (system_of system) c.args.schedule c.args.text.now) c.from_residual.ensures.1
    (told_first (system_of system) c.args.schedule c.args.text.now (lines.Refused c.args.line c.args.kind c.args.conditions.now) fault c.requires.lines c.in_err-_judged.ensures.told)

pub returns-in_err-_judged-clause-before : goal.returns-in_err-_judged-clause-before
returns-in_err-_judged-clause-before c = λ ordered. none_handed c.from_residual.result _ _ c.from_residual.ensures.1

pub returns-clause-told : goal.returns-clause-told
returns-clause-told c =
    let system = c.args.system.now in
    told_words (system_of system) c.args.schedule c.args.text.now c.args.line c.args.kind c.args.conditions.now (map (filter_says system) c.in_ok-_judged._judged.items) c.requires.lines c.in_ok-_judged.ensures.told
