use Rattle.filt_check.proofs.check.check_filter.Goals as goal

pub returns-clause-steps : goal.returns-clause-steps
returns-clause-steps c = c.check_block.ensures.steps

pub returns-clause-light : goal.returns-clause-light
returns-clause-light c = c.check_block.ensures.light
