use Rattle.std.proofs.Common.{◌∙◌}
use Rattle.std.proofs.lemmas.Result.{IfOk-weaker}
use Rattle.import_core.proofs.Methods.{add_method, route_seen}
use Rattle.import_core.proofs.Steps.{add_off, off_from, stays}
use Rattle.import_core.proofs.importer.Importer.add.Goals as goal

pub returns-then-not-is_up-clause-step : goal.returns-then-not-is_up-clause-step
returns-then-not-is_up-clause-step g c =
    stays c.args.self.now.spec c.args.self.now.imports _ c.still.result
    (add_off c.args.self.now.spec (g.J.Judge.verdict c.args.self.now.judge) c.args.net.now c.args.given.now c.args.self.now.imports.mode c.args.self.now.imports (off_from _ _ c.is_up.ensures c.if-not-is_up.true))
    c.still.ensures.changes c.still.ensures.over c.still.ensures.mark

pub returns-clause-step : goal.returns-clause-step
returns-clause-step g c =
    IfOk-weaker c.follow.result _ _ (λ step is. add_method g.J.Judge.verdict c.args.self.now c.args.net.now c.args.given.now _ _ _ c.is_up.result step c.is_up.ensures c.if-not-is_up.false (route_seen _ c.args.self.now c.self.view_is c.args.given.now c.in_ok-new.field-0 (c.in_ok-new.ensures ∙ c.in_ok-attrs.ensures)) c.in_ok-decision.ensures is) c.follow.ensures.step
