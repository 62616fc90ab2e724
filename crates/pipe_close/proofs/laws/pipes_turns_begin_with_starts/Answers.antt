use Rattle.pipe_close.proofs.Turned.{hand_said, turned}
use Rattle.pipe_close.proofs.laws.pipes_turns_begin_with_starts.Goals as goal

pub returns-clause-starts : goal.returns-clause-starts
returns-clause-starts c = λ room key list hands ops all of k hand at number starts. turned key list hands ops all k hand at room of number starts

pub returns-clause-hands : goal.returns-clause-hands
returns-clause-hands c = λ key list hands ops all k hand at actor i done number said. hand_said key list hands ops all k hand at actor i done number said
