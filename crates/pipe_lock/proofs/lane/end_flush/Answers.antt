use Rattle.pipe_lock.proofs.lane.end_flush.Goals as goal

pub take_mark-requires : goal.take_mark-requires
take_mark-requires g c = record { may = c.requires.may c.in-Nothing.is }

pub returns-in-Ok-clause-kept : goal.returns-in-Ok-clause-kept
returns-in-Ok-clause-kept g c = λ key some. c.take_mark.ensures.kept key some.0 some.1

pub returns-in-Err-clause-kept : goal.returns-in-Err-clause-kept
returns-in-Err-clause-kept g c = λ key some. c.take_mark.ensures.kept key some.0 some.1
