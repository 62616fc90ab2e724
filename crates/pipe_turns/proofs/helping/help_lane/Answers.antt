use Rattle.export_lock.specs.Locks.{lane_terms_of}
use Rattle.pipe_turns.proofs.Keeping.{held_some, some_reads}
use Rattle.pipe_turns.proofs.helping.help_lane.Goals as goal

pub read_on-requires : goal.read_on-requires
read_on-requires g c = record { held = held_some g.J.Judge.verdict (lane_terms_of g.P.Sends.exports g.P.Sends.rules c.args.lock.now.1) c.lock-held.result.1 c.lock-held.ensures.value }

pub unlock-requires-clause-value : goal.unlock-requires-clause-value
unlock-requires-clause-value g c =
    some_reads g.J.Judge.verdict (lane_terms_of g.P.Sends.exports g.P.Sends.rules c.args.lock.now.1) c.lock-held.result.1 c.read_on.new.state c.read_on.ensures.goes c.read_on.ensures.flush c.read_on.ensures.log c.lock-held.ensures.value
