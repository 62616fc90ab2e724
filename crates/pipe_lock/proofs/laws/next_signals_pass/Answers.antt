use Rattle.pipe_lock.proofs.Signalling.{passes_next}
use Rattle.pipe_lock.proofs.laws.next_signals_pass.Goals as goal

pub returns-clause-out : goal.returns-clause-out
returns-clause-out c = λ key lane state op free none of room. passes_next key state free.piping key.out state.out (free.marked none).out lane op free.piping.out of room

pub returns-clause-back : goal.returns-clause-back
returns-clause-back c = λ key lane state op free none of room. passes_next key state free.piping key.back state.back (free.marked none).back lane op free.piping.back of room
