use Rattle.import_core.proofs.Methods.{rebuild_method}
use Rattle.import_core.proofs.importer.Importer.rebuild.Goals as goal

pub returns-clause-step : goal.returns-clause-step
returns-clause-step g c =
    rebuild_method g.J.Judge.verdict _ c.args.self.now c.self.view_is _ _ _ _ c.in_ok-rebuilt.ensures.rebuilt c.finished-mode.ensures.mode c.finished-mode.ensures.changes c.finished-mode.ensures.over c.finished-mode.ensures.mark
