use Rattle.std.proofs.Common.{refl}
use Rattle.import_core.proofs.Methods.{switch_off_method}
use Rattle.import_core.proofs.importer.Importer.switch_off.Goals as goal

pub returns-clause-step : goal.returns-clause-step
returns-clause-step g c =
    switch_off_method g.J.Judge.verdict _ c.args.self.now c.self.view_is c.args.mark _ _ c.switch_off.ensures c.in_ok-changes.ensures refl c.mark_of.ensures
