use Rattle.std.proofs.Common.{arith, refl}
use Rattle.pipe_turns.proofs.Keeping.{held_state, keeps_reading, rests_self}
use Rattle.pipe_turns.proofs.Resting.{memory_alone}
use Rattle.pipe_turns.proofs.turns.feed.Goals as goal

pub feed_turn-requires-clause-held : goal.feed_turn-requires-clause-held
feed_turn-requires-clause-held g c = held_state g.J.Judge.verdict c.args.sources.now c.args.lane c.requires.held

pub returns-in-Ok-clause-keeps : goal.returns-in-Ok-clause-keeps
returns-in-Ok-clause-keeps g c =
    keeps_reading g.J.Judge.verdict c.args.sources.now c.args.lane c.feed_turn.new.self c.feed_turn.ensures.goes c.feed_turn.ensures.flush c.feed_turn.ensures.log c.feed_turn.ensures.marks

pub returns-in-Ok-clause-did : goal.returns-in-Ok-clause-did
returns-in-Ok-clause-did g c = (c.in-Ok.ensures.feeds c.requires.feeds, refl)

pub returns-in-Err-clause-keeps : goal.returns-in-Err-clause-keeps
returns-in-Err-clause-keeps g c =
    keeps_reading g.J.Judge.verdict c.args.sources.now c.args.lane c.feed_turn.new.self c.feed_turn.ensures.goes c.feed_turn.ensures.flush c.feed_turn.ensures.log c.feed_turn.ensures.marks

pub returns-in-Err-clause-fails : goal.returns-in-Err-clause-fails
returns-in-Err-clause-fails g c = record { log = c.feed_turn.ensures.log; port = rests_self c.args.lane.port; cause = λ n e. absurd (memory_alone n e) }
