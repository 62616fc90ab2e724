use Rattle.std.proofs.Common.{refl}
use Rattle.import_core.proofs.Methods.{store_method}
use Rattle.import_core.proofs.importer.Importer.store.Goals as goal

pub returns-clause-step : goal.returns-clause-step
returns-clause-step g c =
    store_method g.J.Judge.verdict _ c.args.self.now c.self.view_is c.args.net.now c.args.held c.args.over _ _ c.in_ok-put.ensures.held c.in_ok-changes.ensures refl refl
