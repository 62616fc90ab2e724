use Rattle.std.proofs.Common.{◌∙◌, ◌∷◌, ◌++◌, [], ap, map, sym}
use Rattle.std.specs.Map.Iter.{deref_pair}
use Rattle.std.proofs.lemmas.List.{map-append}
use Rattle.std.proofs.lemmas.Map.Iter.{rest_more, rest_so_far}
use Rattle.rib.specs.Entries.{Entries}
use Rattle.rib.proofs.NetSteps.{row-found, row-skip, row-step}
use Rattle.rib.proofs.nets.Nets.row.Goals as goal

pub returns-then-left-eq0 : goal.returns-then-left-eq0
returns-then-left-eq0 c =
    let front = map deref_pair c.loop-net.yielded in
    let whole = sym c.self.view_is ∙ sym c.into_iter-net-iterator.ensures.into_iter_gives.0
    ∙ rest_so_far deref_pair c.loop-net.yielded _ _ c.loop-net.yielded_by
    ∙ ap (λ (l : Entries). front ++ l) (rest_more deref_pair _ _ _ _ c.in-Some.is c.next.ensures.steps) in
    row-found front _ c.args.self.now c.in-Some.net.now c.in-Some.routes.now _ c.args.place c.loop-net.left whole c.as_slice-found.ensures.value
    (sym c.is_empty.ensures ∙ c.if-not-is_empty.true) c.loop-net.invariant c.if-left-eq0.true

pub loop-net-preserved-then-not-is_empty : goal.loop-net-preserved-then-not-is_empty
loop-net-preserved-then-not-is_empty c =
    row-step (map deref_pair c.loop-net.yielded) _ c.in-Some.net.now c.in-Some.routes.now _ c.loop-net.left c.args.place
    (map-append deref_pair c.loop-net.yielded ((c.in-Some.net, c.in-Some.routes) ∷ [])) c.as_slice-found.ensures.value
    (sym c.is_empty.ensures ∙ c.if-not-is_empty.true) c.loop-net.invariant c.if-left-eq0.false

pub loop-net-preserved : goal.loop-net-preserved
loop-net-preserved c =
    row-skip (map deref_pair c.loop-net.yielded) _ c.in-Some.net.now c.in-Some.routes.now _ c.loop-net.left c.args.place
    (map-append deref_pair c.loop-net.yielded ((c.in-Some.net, c.in-Some.routes) ∷ [])) c.as_slice-found.ensures.value
    (sym c.is_empty.ensures ∙ c.if-not-is_empty.false) c.loop-net.invariant
