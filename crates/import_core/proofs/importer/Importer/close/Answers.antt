use Rattle.std.proofs.Common.{refl}
use Rattle.import_core.proofs.Methods.{close_method}
use Rattle.import_core.proofs.Steps.{close_off, off_from, stays}
use Rattle.import_core.proofs.importer.Importer.close.Goals as goal

pub returns-then-not-is_up-clause-step : goal.returns-then-not-is_up-clause-step
returns-then-not-is_up-clause-step g c =
    stays c.args.self.now.spec c.args.self.now.imports _ c.still.result
    (close_off c.args.self.now.spec (g.J.Judge.verdict c.args.self.now.judge) c.args.self.now.imports.mode c.args.self.now.imports (off_from _ _ c.is_up.ensures c.if-not-is_up.true))
    c.still.ensures.changes c.still.ensures.over c.still.ensures.mark

pub returns-clause-step : goal.returns-clause-step
returns-clause-step g c =
    close_method g.J.Judge.verdict _ c.args.self.now c.self.view_is c.is_up.result _ _ c.is_up.ensures c.if-not-is_up.false c.clear.ensures c.in_ok-changes.ensures refl c.mark_of.ensures
