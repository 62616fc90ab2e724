use Rattle.core_machine.specs.Rules.{Fall}
use Rattle.export_lock.specs.Locks.{lane_terms_of}
use Rattle.pipe_lock.proofs.Passing.{pass_on}
use Rattle.pipe_lock.proofs.door.LaneDoor.fall.Goals as goal

pub fall_step-requires-clause-may : goal.fall_step-requires-clause-may
fall_step-requires-clause-may g c = pass_on (lane_terms_of g.P.Sends.exports g.P.Sends.rules c.args.self.now.lock.now.1) Fall c.args.stamp.now c.loop.stamp c.loop.invariant.0 c.loop.invariant.1 c.requires.may
