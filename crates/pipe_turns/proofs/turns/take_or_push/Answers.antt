use Rattle.std.proofs.Common.{refl}
use Rattle.pipe_turns.proofs.Keeping.{held_on, held_state, keeps_reading, keeps_then, rests_self}
use Rattle.pipe_turns.proofs.Resting.{memory_alone, then_fails, then_pushed}
use Rattle.pipe_turns.proofs.turns.take_or_push.Goals as goal

pub take_turn-requires : goal.take_turn-requires
take_turn-requires g c = record { held = held_state g.J.Judge.verdict c.args.sources.now c.args.lane c.requires.held }

pub push-requires-clause-held : goal.push-requires-clause-held
push-requires-clause-held g c =
    held_on g.J.Judge.verdict c.args.sources.now c.args.lane (record { state = c.take_turn.new.self; port = c.args.lane.port })
    (keeps_reading g.J.Judge.verdict c.args.sources.now c.args.lane c.take_turn.new.self c.take_turn.ensures.goes c.take_turn.ensures.flush c.take_turn.ensures.log c.take_turn.ensures.marks)
    c.requires.held

pub returns-in_default-clause-keeps : goal.returns-in_default-clause-keeps
returns-in_default-clause-keeps g c =
    keeps_reading g.J.Judge.verdict c.args.sources.now c.args.lane c.take_turn.new.self c.take_turn.ensures.goes c.take_turn.ensures.flush c.take_turn.ensures.log c.take_turn.ensures.marks

pub returns-in_default-clause-fails : goal.returns-in_default-clause-fails
returns-in_default-clause-fails g c = record { log = c.take_turn.ensures.log; port = rests_self c.args.lane.port; cause = λ n e. absurd (memory_alone n e) }

pub returns-then-took-clause-keeps : goal.returns-then-took-clause-keeps
returns-then-took-clause-keeps g c =
    keeps_reading g.J.Judge.verdict c.args.sources.now c.args.lane c.take_turn.new.self c.take_turn.ensures.goes c.take_turn.ensures.flush c.take_turn.ensures.log c.take_turn.ensures.marks

pub returns-then-took-clause-did : goal.returns-then-took-clause-did
returns-then-took-clause-did g c = (c.in-Ok.ensures.took c.if-took.true, refl)

pub returns-clause-keeps : goal.returns-clause-keeps
returns-clause-keeps g c =
    keeps_then g.J.Judge.verdict c.args.sources.now c.args.lane (record { state = c.take_turn.new.self; port = c.args.lane.port }) c.push.result.0
    (keeps_reading g.J.Judge.verdict c.args.sources.now c.args.lane c.take_turn.new.self c.take_turn.ensures.goes c.take_turn.ensures.flush c.take_turn.ensures.log c.take_turn.ensures.marks)
    c.push.ensures.keeps

pub returns-clause-did : goal.returns-clause-did
returns-clause-did g c =
    let none = c.in-Ok.ensures.none c.if-took.false in
    then_pushed g.J.Judge.verdict c.args.sources.now c.args.lane c.take_turn.new.self c.push.result.0 c.requires.held
    (keeps_reading g.J.Judge.verdict c.args.sources.now c.args.lane c.take_turn.new.self c.take_turn.ensures.goes c.take_turn.ensures.flush c.take_turn.ensures.log c.take_turn.ensures.marks)
    c.push.ensures.keeps c.requires.fed none.0 none.1 c.take_turn.ensures.reads.mode c.push.ensures.cursor c.push.ensures.feed c.push.result.1 c.push.ensures.did

pub returns-clause-fails : goal.returns-clause-fails
returns-clause-fails g c =
    let none = c.in-Ok.ensures.none c.if-took.false in
    then_fails g.J.Judge.verdict c.args.sources.now c.args.lane c.take_turn.new.self c.push.result.0 c.requires.held
    (keeps_reading g.J.Judge.verdict c.args.sources.now c.args.lane c.take_turn.new.self c.take_turn.ensures.goes c.take_turn.ensures.flush c.take_turn.ensures.log c.take_turn.ensures.marks)
    c.push.ensures.keeps c.requires.fed none.0 none.1 c.take_turn.ensures.reads.mode c.push.ensures.cursor c.push.ensures.feed c.push.result.1 c.push.ensures.fails
