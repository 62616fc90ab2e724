use Rattle.std.proofs.Common.{◌∙◌, ◌==◌, ap, not, length, rules, tests, Vec, Global}
use Rattle.std.specs.List.{count_by}
use Rattle.std.specs.Map.{values_of}
use Rattle.std.proofs.lemmas.Iterator.Consumers.{YieldsList-at, YieldsList-from_filter, YieldsList-from_rest, count_from_yields_List}
use Rattle.std.proofs.lemmas.List.Sums.{length-filter}
use Rattle.attrs.specs.declared.route.Route.{Route}
use Rattle.rib.specs.Entries.{Entries}
use Rattle.rib.proofs.nets.Nets.count_filled.Goals as goal

pub returns : goal.returns
returns c =
    let vs = values_of c.self.inside.map.entries in
    count_from_yields_List c.filter.result c.count.result c.count.ensures.ran
    (YieldsList-from_filter _ (λ (v : Vec Route Global). not (length v.items == 0)) (YieldsList-at c.filter.ensures.source (YieldsList-from_rest vs c.values.ensures.rest)) c.filter.ensures.closure (λ x r q k. search (rules, tests)))
    ∙ length-filter (λ (v : Vec Route Global). not (length v.items == 0)) vs
    ∙ ap (λ (es : Entries). count_by (λ (v : Vec Route Global). not (length v.items == 0)) (values_of es)) c.self.view_is
