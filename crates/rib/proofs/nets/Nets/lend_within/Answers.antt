use Rattle.std.proofs.Common.{◌≡◌, ◌∙◌, ◌∷◌, ◌++◌, [], ap, append-nil, map, refl, subst, sym}
use Rattle.std.specs.BTreeMap.Range.{IsLeBy, entries_between}
use Rattle.std.specs.List.{filter}
use Rattle.std.specs.Map.Iter.{deref_pair}
use Rattle.std.specs.declared.ops.Bound.TheVariants.{Included}
use Rattle.std.proofs.lemmas.List.{map-append}
use Rattle.std.proofs.lemmas.Map.Iter.{rest_so_far}
use Rattle.bits_ip.specs.Prefix.{Net, net_cmp}
use Rattle.attrs.specs.declared.route.Row.{Row}
use Rattle.attrs.specs.Select.{covers}
use Rattle.rib.specs.Entries.{Entries, rows_of}
use Rattle.rib.specs.Picks.{last_within}
use Rattle.rib.proofs.Covering.{within-forward}
use Rattle.rib.proofs.Longest.{within-picked}
use Rattle.rib.proofs.NetSteps.{picked-next}
use Rattle.rib.proofs.nets.Nets.lend_within.Goals as goal

pub range-net-items-requires : goal.range-net-items-requires
range-net-items-requires c = subst (IsLeBy net_cmp c.args.asked.now) (sym c.last_within-last.ensures) (within-forward c.args.asked.now c.addr-addr.ensures.prefix)

pub loop-net-preserved : goal.loop-net-preserved
loop-net-preserved c =
    picked-next (λ (n : Net). covers c.args.asked.now n) (map deref_pair c.loop-net.yielded) c.in-Some.net.now c.in-Some.routes.now _ _ _ _ _
    c.in_ok-push_covered.ensures refl c.as_slice.ensures.value c.loop-net.invariant (map-append deref_pair c.loop-net.yielded ((c.in-Some.net, c.in-Some.routes) ∷ []))

pub returns : goal.returns
returns c =
    let asked = c.args.asked.now in
    let front = map deref_pair c.loop-net.yielded in
    let whole = sym c.into_iter-net-iterator.ensures.into_iter_gives ∙ rest_so_far deref_pair c.loop-net.yielded _ _ c.loop-net.yielded_by in
    let e : front ≡ c.range-net-items.result = sym (whole ∙ ap (λ (l : Entries). front ++ l) c.in-None.ensures.steps.0 ∙ append-nil front) in
    c.loop-net.invariant
    ∙ ap (λ (es : Entries). filter (λ (row : Row). covers asked row.net) (rows_of es))
    (e ∙ c.range-net-items.ensures.between tt
    ∙ ap (λ (n : Net). entries_between net_cmp (Included asked) (Included n) c.self.inside.map.entries) c.last_within-last.ensures
    ∙ ap (λ (es : Entries). entries_between net_cmp (Included asked) (Included (last_within asked)) es) c.self.view_is)
    ∙ within-picked asked c.args.self.now c.requires.keys c.requires.prefixes c.requires.rows c.addr-addr.ensures.prefix
