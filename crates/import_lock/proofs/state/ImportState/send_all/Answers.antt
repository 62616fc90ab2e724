use Rattle.std.proofs.Common.{◌∙◌}
use Rattle.import_lock.proofs.Turning.{held_on, sends_nothing, sends_then}
use Rattle.import_lock.proofs.state.ImportState.send_all.Goals as goal

pub loop-init : goal.loop-init
loop-init g c = sends_nothing g.J.Judge.verdict c.args.self.now

pub send_step-requires-clause-held : goal.send_step-requires-clause-held
send_step-requires-clause-held g c = held_on g.J.Judge.verdict c.args.self.now c.loop.self c.loop.invariant c.requires.held

pub send_step-requires-clause-here : goal.send_step-requires-clause-here
send_step-requires-clause-here g c = c.loop.invariant.only.port ∙ c.requires.here

pub loop-preserved : goal.loop-preserved
loop-preserved g c = sends_then g.J.Judge.verdict c.args.self.now c.loop.self c.send_step.new.self c.loop.invariant c.in_ok-send_step.ensures.sends

pub returns-in_err-send_step-clause-sends : goal.returns-in_err-send_step-clause-sends
returns-in_err-send_step-clause-sends g c = sends_then g.J.Judge.verdict c.args.self.now c.loop.self c.send_step.new.self c.loop.invariant c.in_err-send_step.ensures.sends

pub returns-then-branch-clause-sends : goal.returns-then-branch-clause-sends
returns-then-branch-clause-sends g c = sends_then g.J.Judge.verdict c.args.self.now c.loop.self c.send_step.new.self c.loop.invariant c.in_ok-send_step.ensures.sends
