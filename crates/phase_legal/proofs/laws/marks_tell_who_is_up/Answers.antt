use Rattle.phase_legal.proofs.Stamping.{opens_on, stamps_open, stretch_opens}
use Rattle.phase_legal.proofs.laws.marks_tell_who_is_up.Goals as goal

pub returns-clause-marks : goal.returns-clause-marks
returns-clause-marks c = stamps_open

pub returns-clause-log : goal.returns-clause-log
returns-clause-log c = stretch_opens

pub returns-clause-joined : goal.returns-clause-joined
returns-clause-joined c = opens_on
