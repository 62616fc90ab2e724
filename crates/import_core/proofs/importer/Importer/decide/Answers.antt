use Rattle.std.proofs.lemmas.Result.{IfOk-weaker}
use Rattle.import_core.proofs.Methods.{decide_method}
use Rattle.import_core.proofs.importer.Importer.decide.Goals as goal

pub returns : goal.returns
returns g c =
    IfOk-weaker c.decide.result _ _
    (λ d found. decide_method g.J.Judge.verdict c.args.self.now _ c.self.view_is c.args.net.now c.args.route.now d found.0 _ _ found.1 found.2 c.is_accepted-is_accepted.ensures c.accepted-count.ensures)
    c.decide.ensures
