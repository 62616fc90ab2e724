use Rattle.std.proofs.lemmas.Result.{IfOk-weaker}
use Rattle.attrs.specs.declared.attributes.Kind.TheVariants.{Static}
use Rattle.import_core.proofs.Methods.{enabled_method, kind_seen, switch_on_method}
use Rattle.import_core.proofs.importer.Importer.switch_on.Goals as goal

pub returns-in-Static-clause-step : goal.returns-in-Static-clause-step
returns-in-Static-clause-step g c =
    IfOk-weaker c.rebuild.result _ _
    (λ step is. enabled_method g.J.Judge.verdict c.args.self.now Static _ step (kind_seen _ c.args.self.now c.self.view_is Static c.in-Static.is) is)
    c.rebuild.ensures.step

pub returns-in-Bgp-clause-step : goal.returns-in-Bgp-clause-step
returns-in-Bgp-clause-step g c =
    switch_on_method g.J.Judge.verdict _ c.args.self.now c.self.view_is c.still.result c.in-Bgp.is c.still.ensures.changes c.still.ensures.over c.still.ensures.mark
