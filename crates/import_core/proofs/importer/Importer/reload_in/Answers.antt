use Rattle.std.proofs.lemmas.Result.{IfOk-weaker}
use Rattle.import_core.proofs.Methods.{reload_in_method}
use Rattle.import_core.proofs.Steps.{reload_in_off, off_from, stays}
use Rattle.import_core.proofs.importer.Importer.reload_in.Goals as goal

pub returns-then-not-is_up-clause-step : goal.returns-then-not-is_up-clause-step
returns-then-not-is_up-clause-step g c =
    stays c.args.self.now.spec c.args.self.now.imports _ c.still.result
    (reload_in_off c.args.self.now.spec (g.J.Judge.verdict c.args.self.now.judge) c.args.self.now.imports.mode c.args.self.now.imports (off_from _ _ c.is_up.ensures c.if-not-is_up.true))
    c.still.ensures.changes c.still.ensures.over c.still.ensures.mark

pub returns-clause-step : goal.returns-clause-step
returns-clause-step g c =
    IfOk-weaker c.rebuild.result _ _ (λ step is. reload_in_method g.J.Judge.verdict c.args.self.now _ c.is_up.result step c.is_up.ensures c.if-not-is_up.false is) c.rebuild.ensures.step
