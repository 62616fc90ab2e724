use Rattle.export_lock.specs.Locks.{lane_terms_of}
use Rattle.pipe_lock.proofs.door.LaneDoor.fall_step.Goals as goal

pub unlock-requires-clause-value : goal.unlock-requires-clause-value
unlock-requires-clause-value g c = c.fall_turn-lane.ensures.kept (lane_terms_of g.P.Sends.exports g.P.Sends.rules c.args.self.now.lock.now.1) c.requires.door.sources_are c.lock-held.ensures.value
