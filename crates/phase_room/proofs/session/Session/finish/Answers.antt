use Rattle.phase_room.proofs.session.Session.finish.Goals as goal

pub mark-requires-clause-due : goal.mark-requires-clause-due
mark-requires-clause-due g c = c.requires.due
