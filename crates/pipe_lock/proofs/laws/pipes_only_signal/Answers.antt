use Rattle.pipe_lock.proofs.Signalling.{gives_none, signals}
use Rattle.pipe_lock.proofs.laws.pipes_only_signal.Goals as goal

pub returns-clause-gives : goal.returns-clause-gives
returns-clause-gives c = gives_none

pub returns-clause-signal : goal.returns-clause-signal
returns-clause-signal c = signals
