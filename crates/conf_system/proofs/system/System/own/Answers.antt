use Rattle.conf_system.proofs.Coding.{compiled_never_stuck, compiled_says}
use Rattle.conf_system.proofs.system.System.own.Goals as goal

pub returns-clause-says : goal.returns-clause-says
returns-clause-says c =
    compiled_says c.args.self.now c.args.code.now c.constants-constants.result.now c.as_slice.result.now c.args.filter.now c.in_ok-draft.draft c.requires.code c.constants-constants.ensures c.as_slice.ensures.value c.requires.before c.in_ok-draft.ensures.means

pub returns-clause-never_stuck : goal.returns-clause-never_stuck
returns-clause-never_stuck c =
    compiled_never_stuck c.args.self.now c.args.code.now c.constants-constants.result.now c.as_slice.result.now c.args.filter.now c.in_ok-draft.draft c.requires.code c.constants-constants.ensures c.as_slice.ensures.value c.requires.before c.in_ok-draft.ensures.means
