use Rattle.std.proofs.lemmas.Result.{IfOk-weaker}
use Rattle.core_machine.specs.Channels.{times}
use Rattle.core_machine.specs.Rounds.{round}
use Rattle.core_setup.specs.Protocols.{rules_of}
use Rattle.sys_run.proofs.CoreSteps.{behind_rounds, core_behind}
use Rattle.sys_run.proofs.player.Core.sync.Goals as goal

pub sync-requires : goal.sync-requires
sync-requires g c = let h = c.requires in (h.0, h.2, h.3.routes, h.4, h.5, h.6)

pub returns-clause-core : goal.returns-clause-core
returns-clause-core g c = IfOk-weaker c.sync.result _ _ (λ rounds ends setup past s are.
    let e = ends setup s are.routes in (
      e.0,
      core_behind g.J.Judge.verdict setup past s (times rounds (round (rules_of setup)) s) c.args.self.now _ are e.1 (behind_rounds (rules_of setup) are.routes.rules_are rounds s),
    )) c.sync.ensures
