use Rattle.import_core.proofs.Methods.{reload_out_method}
use Rattle.import_core.proofs.Steps.{reload_out_off, off_from, stays}
use Rattle.import_core.proofs.importer.Importer.reload_out.Goals as goal

pub returns-then-not-is_up-clause-step : goal.returns-then-not-is_up-clause-step
returns-then-not-is_up-clause-step g c =
    stays c.args.self.now.spec c.args.self.now.imports _ c.still.result
    (reload_out_off c.args.self.now.spec (g.J.Judge.verdict c.args.self.now.judge) c.args.self.now.imports.mode c.args.self.now.imports (off_from _ _ c.is_up.ensures c.if-not-is_up.true))
    c.still.ensures.changes c.still.ensures.over c.still.ensures.mark

pub returns-clause-step : goal.returns-clause-step
returns-clause-step g c =
    reload_out_method g.J.Judge.verdict _ c.args.self.now c.self.view_is c.is_up.result c.mark_of.result c.still-2.result c.is_up.ensures c.if-not-is_up.false c.mark_of.ensures
    c.still-2.ensures.changes c.still-2.ensures.over c.still-2.ensures.mark
