use Rattle.jour.specs.Seats.{known}
use Rattle.pipe_turns.proofs.Ending.{last_head}
use Rattle.pipe_turns.proofs.laws.ports_have_seen_the_last_head.Goals as goal

pub returns : goal.returns
returns c = λ terms list said reader are heard least below. last_head terms list said (known reader) are least below heard.below
