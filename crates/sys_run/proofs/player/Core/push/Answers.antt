use Rattle.std.proofs.Common.{refl, sym, arith}
use Rattle.std.proofs.lemmas.Result.{on_ok_weaker}
use Rattle.core_machine.specs.Channels.{times}
use Rattle.core_machine.specs.Machine.{if_open, push_at}
use Rattle.core_setup.specs.Protocols.{rules_of}
use Rattle.sys_run.proofs.CoreSteps.{behind_if, behind_push, behind_times, core_behind, none_there}
use Rattle.sys_run.proofs.player.Core.push.Goals as goal

pub returns-then-number-len-clause-core : goal.returns-then-number-len-clause-core
returns-then-number-len-clause-core g c = λ setup past s are. (
  s,
  sym (none_there g.J.Judge.verdict setup past s c.args.self.now c.args.channel (times c.args.count (push_at (rules_of setup) c.args.channel)) are (omega (arith, c.if-number-len.true, c.len.ensures))),
  are,
)

pub push-requires-clause-holds : goal.push-requires-clause-holds
push-requires-clause-holds g c = let h = c.requires in (h.0, h.2, h.3.routes)

pub returns-clause-core : goal.returns-clause-core
returns-clause-core g c = on_ok_weaker c.push.result (λ steps setup past s are. (
  if_open c.args.channel (times c.args.count (push_at (rules_of setup) c.args.channel)) s,
  refl,
  core_behind g.J.Judge.verdict setup past s (if_open c.args.channel (times c.args.count (push_at (rules_of setup) c.args.channel)) s) c.args.self.now _ are (steps setup s are.routes)
      (behind_if c.args.channel (times c.args.count (push_at (rules_of setup) c.args.channel)) s (behind_times (push_at (rules_of setup) c.args.channel) (behind_push (rules_of setup) c.args.channel are.routes.rules_are) c.args.count s)),
)) c.push.ensures
