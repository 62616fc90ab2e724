use Rattle.room_open.proofs.members.enter_next.Goals as goal

pub returns-in-Own-clause-added : goal.returns-in-Own-clause-added
returns-in-Own-clause-added g c = rw c.in-Own.is c.enter_own.ensures.added

pub returns-in-Pipe-clause-added : goal.returns-in-Pipe-clause-added
returns-in-Pipe-clause-added g c = rw c.in-Pipe.is c.enter_pipe.ensures.added
