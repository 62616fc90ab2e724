use Rattle.std.proofs.Common.{sym, ◌∙◌}
use Rattle.import_core.proofs.Methods.{open_method}
use Rattle.import_core.proofs.Steps.{open_off, stays}
use Rattle.import_core.proofs.importer.Importer.open.Goals as goal

pub returns-then-is_closed-clause-step : goal.returns-then-is_closed-clause-step
returns-then-is_closed-clause-step g c =
    open_method g.J.Judge.verdict _ c.args.self.now c.self.view_is c.args.id c.is_closed.result _ c.is_closed.ensures c.if-is_closed.true c.still.ensures.changes c.still.ensures.over c.still.ensures.mark

pub returns-clause-step : goal.returns-clause-step
returns-clause-step g c =
    stays c.args.self.now.spec c.args.self.now.imports _ c.still-2.result (open_off c.args.self.now.spec (g.J.Judge.verdict c.args.self.now.judge) c.args.id c.args.self.now.imports (sym c.is_closed.ensures ∙ c.if-is_closed.false)) c.still-2.ensures.changes c.still-2.ensures.over c.still-2.ensures.mark
