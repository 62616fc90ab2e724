use Rattle.std.proofs.Common.{◌∙◌, sym}
use Rattle.import_core.proofs.Methods.{start_method}
use Rattle.import_core.proofs.Steps.{start_off, stays}
use Rattle.import_core.proofs.importer.Importer.start.Goals as goal

pub returns-then-not-is_unstarted-clause-step : goal.returns-then-not-is_unstarted-clause-step
returns-then-not-is_unstarted-clause-step g c =
    stays c.args.self.now.spec c.args.self.now.imports _ c.still.result
    (start_off c.args.self.now.spec (g.J.Judge.verdict c.args.self.now.judge) c.args.self.now.imports (sym c.is_unstarted.ensures ∙ c.if-not-is_unstarted.true))
    c.still.ensures.changes c.still.ensures.over c.still.ensures.mark

pub returns-clause-step : goal.returns-clause-step
returns-clause-step g c =
    start_method g.J.Judge.verdict _ c.args.self.now c.self.view_is c.is_unstarted.result _ _ _ _ _ c.is_unstarted.ensures c.if-not-is_unstarted.false c.self.invariant c.in_ok-nets.ensures c.in_ok-rebuilt.ensures.rebuilt c.finished-mode.ensures.mode c.finished-mode.ensures.changes c.finished-mode.ensures.over c.finished-mode.ensures.mark
