use Rattle.std.proofs.Common.{refl}
use Rattle.std.proofs.lemmas.Result.{IfOk-weaker}
use Rattle.import_core.specs.declared.operation.Op.TheVariants.{Enable}
use Rattle.import_core.specs.declared.mode.Mode.TheVariants as mode
use Rattle.import_core.proofs.Methods.{mode_method, mode_seen, stays_in}
use Rattle.import_core.proofs.importer.Importer.enable.Goals as goal

pub returns-in-Idle-clause-step : goal.returns-in-Idle-clause-step
returns-in-Idle-clause-step g c =
    stays_in g.J.Judge.verdict c.args.self.now Enable mode.Idle c.still.result (mode_seen _ c.args.self.now c.self.view_is mode.Idle c.in-Idle.is) refl c.still.ensures.changes c.still.ensures.over c.still.ensures.mark

pub returns-in-Up-clause-step : goal.returns-in-Up-clause-step
returns-in-Up-clause-step g c =
    stays_in g.J.Judge.verdict c.args.self.now Enable mode.Up c.still-in-Up.result (mode_seen _ c.args.self.now c.self.view_is mode.Up c.in-Up.is) refl c.still-in-Up.ensures.changes c.still-in-Up.ensures.over c.still-in-Up.ensures.mark

pub returns-in-Disabled-clause-step : goal.returns-in-Disabled-clause-step
returns-in-Disabled-clause-step g c =
    IfOk-weaker c.switch_on.result _ _ (λ step is. mode_method g.J.Judge.verdict c.args.self.now Enable mode.Disabled _ step (mode_seen _ c.args.self.now c.self.view_is mode.Disabled c.in-Disabled.is) is) c.switch_on.ensures.step

pub returns-in-Limited-clause-step : goal.returns-in-Limited-clause-step
returns-in-Limited-clause-step g c =
    IfOk-weaker c.switch_on-in-Limited.result _ _ (λ step is. mode_method g.J.Judge.verdict c.args.self.now Enable mode.Limited _ step (mode_seen _ c.args.self.now c.self.view_is mode.Limited c.in-Limited.is) is) c.switch_on-in-Limited.ensures.step
