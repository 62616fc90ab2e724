use Rattle.std.proofs.Common.{◌≡◌, ◌∙◌, ◌∷◌, [], ap, map, rules}
use Rattle.std.specs.Map.Iter.{deref_pair}
use Rattle.std.proofs.lemmas.List.{map-append}
use Rattle.std.proofs.lemmas.Map.Iter.{iter_end}
use Rattle.rib.specs.Entries.{rows_of}
use Rattle.rib.proofs.NetSteps.{rows-next}
use Rattle.rib.proofs.nets.Nets.lend_all.Goals as goal

pub loop-net-preserved : goal.loop-net-preserved
loop-net-preserved c =
    rows-next (map deref_pair c.loop-net.yielded) c.in-Some.net.now c.in-Some.routes.now _ _ _ _ c.in_ok-push_lent.ensures c.as_slice.ensures.value c.loop-net.invariant
    (map-append deref_pair c.loop-net.yielded ((c.in-Some.net, c.in-Some.routes) ∷ []))

pub returns : goal.returns
returns c =
    let e : map deref_pair c.loop-net.yielded ≡ c.self.inside.map.entries = search (rules, iter_end) in
    c.loop-net.invariant ∙ ap rows_of (e ∙ c.self.view_is)
