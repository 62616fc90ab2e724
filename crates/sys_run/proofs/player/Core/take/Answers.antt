use Rattle.std.proofs.Common.{refl, sym, arith}
use Rattle.std.proofs.lemmas.Result.{on_ok_weaker}
use Rattle.core_machine.specs.Machine.{if_open, takes}
use Rattle.core_setup.specs.Protocols.{rules_of}
use Rattle.sys_run.proofs.CoreSteps.{behind_if, behind_takes, core_behind, none_there}
use Rattle.sys_run.proofs.player.Core.take.Goals as goal

pub returns-then-number-len-clause-core : goal.returns-then-number-len-clause-core
returns-then-number-len-clause-core g c = λ setup past s are. (
  s,
  sym (none_there g.J.Judge.verdict setup past s c.args.self.now c.args.channel (takes (rules_of setup) c.args.channel c.args.count) are (omega (arith, c.if-number-len.true, c.len.ensures))),
  are,
)

pub take-requires-clause-holds : goal.take-requires-clause-holds
take-requires-clause-holds g c = let h = c.requires in (h.0, h.2, h.3.routes)

pub returns-clause-core : goal.returns-clause-core
returns-clause-core g c = on_ok_weaker c.take.result (λ steps setup past s are. (
  if_open c.args.channel (takes (rules_of setup) c.args.channel c.args.count) s,
  refl,
  core_behind g.J.Judge.verdict setup past s (if_open c.args.channel (takes (rules_of setup) c.args.channel c.args.count) s) c.args.self.now _ are (steps setup s are.routes)
      (behind_if c.args.channel (takes (rules_of setup) c.args.channel c.args.count) s (behind_takes (rules_of setup) c.args.channel c.args.count s)),
)) c.take.ensures
