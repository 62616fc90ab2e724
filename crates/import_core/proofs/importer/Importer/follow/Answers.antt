use Rattle.std.proofs.lemmas.Result.{IfOk-weaker}
use Rattle.import_core.proofs.Methods.{follow_method}
use Rattle.import_core.proofs.importer.Importer.follow.Goals as goal

pub returns-in-Stored-clause-step : goal.returns-in-Stored-clause-step
returns-in-Stored-clause-step g c =
    IfOk-weaker c.store.result _ _
    (λ step is. follow_method g.J.Judge.verdict c.args.self.now c.args.net.now c.args.route c.args.decision _ _ step c.in-Stored.is is) c.store.ensures.step

pub returns-in-Limited-clause-step : goal.returns-in-Limited-clause-step
returns-in-Limited-clause-step g c =
    IfOk-weaker c.end_at_limit.result _ _
    (λ step is. follow_method g.J.Judge.verdict c.args.self.now c.args.net.now c.args.route c.args.decision _ _ step c.in-Limited.is is) c.end_at_limit.ensures.step
