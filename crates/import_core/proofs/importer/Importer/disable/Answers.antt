use Rattle.std.proofs.Common.{refl}
use Rattle.std.proofs.lemmas.Result.{IfOk-weaker}
use Rattle.import_core.specs.declared.operation.Op.TheVariants.{Disable}
use Rattle.import_core.specs.declared.mode.Mode.TheVariants as mode
use Rattle.import_core.proofs.Methods.{mode_method, mode_seen, stays_in}
use Rattle.import_core.proofs.importer.Importer.disable.Goals as goal

pub returns-in-Idle-clause-step : goal.returns-in-Idle-clause-step
returns-in-Idle-clause-step g c =
    IfOk-weaker c.switch_off.result _ _ (λ step is. mode_method g.J.Judge.verdict c.args.self.now Disable mode.Idle _ step (mode_seen _ c.args.self.now c.self.view_is mode.Idle c.in-Idle.is) is) c.switch_off.ensures.step

pub returns-in-Up-clause-step : goal.returns-in-Up-clause-step
returns-in-Up-clause-step g c =
    IfOk-weaker c.switch_off-in-Up.result _ _ (λ step is. mode_method g.J.Judge.verdict c.args.self.now Disable mode.Up _ step (mode_seen _ c.args.self.now c.self.view_is mode.Up c.in-Up.is) is) c.switch_off-in-Up.ensures.step

pub returns-in-Disabled-clause-step : goal.returns-in-Disabled-clause-step
returns-in-Disabled-clause-step g c =
    stays_in g.J.Judge.verdict c.args.self.now Disable mode.Disabled c.still.result (mode_seen _ c.args.self.now c.self.view_is mode.Disabled c.in-Disabled.is) refl c.still.ensures.changes c.still.ensures.over c.still.ensures.mark

pub returns-in-Limited-clause-step : goal.returns-in-Limited-clause-step
returns-in-Limited-clause-step g c =
    IfOk-weaker c.switch_off-in-Limited.result _ _ (λ step is. mode_method g.J.Judge.verdict c.args.self.now Disable mode.Limited _ step (mode_seen _ c.args.self.now c.self.view_is mode.Limited c.in-Limited.is) is) c.switch_off-in-Limited.ensures.step
