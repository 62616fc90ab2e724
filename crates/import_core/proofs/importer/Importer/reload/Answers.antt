use Rattle.std.proofs.Common.{refl}
use Rattle.import_core.proofs.Methods.{mark_seen, reload_method}
use Rattle.import_core.proofs.Steps.{reload_off, off_from, stays}
use Rattle.import_core.proofs.importer.Importer.reload.Goals as goal

pub returns-then-not-is_up-clause-step : goal.returns-then-not-is_up-clause-step
returns-then-not-is_up-clause-step g c =
    stays c.args.self.now.spec c.args.self.now.imports _ c.still.result
    (reload_off c.args.self.now.spec (g.J.Judge.verdict c.args.self.now.judge) c.args.self.now.imports.mode c.args.self.now.imports (off_from _ _ c.is_up.ensures c.if-not-is_up.true))
    c.still.ensures.changes c.still.ensures.over c.still.ensures.mark

pub returns-clause-step : goal.returns-clause-step
returns-clause-step g c =
    reload_method g.J.Judge.verdict c.args.self.now c.rebuild.new.self.imports c.is_up.result c.is_up-2.result c.in_ok-step.step
    (record { changes = c.in_ok-step.step.changes; over = c.in_ok-step.step.over; mark = c.mark_of-mark.result })
    c.is_up.ensures c.if-not-is_up.false c.is_up-2.ensures c.if-not-is_up-2.false c.in_ok-step.ensures.step refl refl
    (mark_seen _ c.rebuild.new.self c.self.view_is c.args.self.now c.mark_of-mark.result _ c.rebuild.ensures.kept c.mark_of-mark.ensures)
