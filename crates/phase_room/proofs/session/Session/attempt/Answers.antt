use Rattle.phase_room.proofs.session.Session.attempt.Goals as goal

pub apply-requires-clause-free : goal.apply-requires-clause-free
apply-requires-clause-free g c = c.requires.free

pub returns-in-Some-clause-kept : goal.returns-in-Some-clause-kept
returns-in-Some-clause-kept g c = λ key imports line. imports

pub returns-in-None-clause-kept : goal.returns-in-None-clause-kept
returns-in-None-clause-kept g c = c.apply.ensures.kept
