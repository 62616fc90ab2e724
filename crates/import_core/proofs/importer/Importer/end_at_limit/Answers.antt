use Rattle.std.proofs.Common.{refl}
use Rattle.import_core.proofs.Methods.{end_at_limit_method}
use Rattle.import_core.proofs.importer.Importer.end_at_limit.Goals as goal

pub returns-clause-step : goal.returns-clause-step
returns-clause-step g c =
    end_at_limit_method g.J.Judge.verdict _ c.args.self.now c.self.view_is c.args.net.now c.args.route _ _ _ c.in_ok-put.ensures.held c.switch_off.ensures c.in_ok-changes.ensures refl c.mark_of.ensures
