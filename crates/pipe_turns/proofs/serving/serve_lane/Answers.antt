use Rattle.export_lock.specs.Locks.{lane_terms_of}
use Rattle.pipe_turns.proofs.Keeping.{door_can, some_on}
use Rattle.pipe_turns.proofs.serving.serve_lane.Goals as goal

pub some_turns-lane-requires : goal.some_turns-lane-requires
some_turns-lane-requires g c = record {
  can = door_can g.J.Judge.verdict (lane_terms_of g.P.Sends.exports g.P.Sends.rules c.args.door.now.lock.now.1) c.args.door.now.reads.now c.args.door.now.writes.now c.args.door.now.sources.now c.lock-held.result.1 c.requires.door c.lock-held.ensures.value;
}

pub unlock-requires-clause-value : goal.unlock-requires-clause-value
unlock-requires-clause-value g c =
    some_on g.J.Judge.verdict (lane_terms_of g.P.Sends.exports g.P.Sends.rules c.args.door.now.lock.now.1) c.args.door.now.sources.now c.lock-held.result.1 c.some_turns-lane.result.0 c.requires.door.sources_are c.some_turns-lane.ensures.keeps c.lock-held.ensures.value
