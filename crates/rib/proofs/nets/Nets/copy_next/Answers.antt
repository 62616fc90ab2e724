use Rattle.std.proofs.Common.{◌≡◌, ◌≤◌, ◌∙◌, ◌∷◌, [], ap, arith, length, map, option_copied, rules, sym, take}
use Rattle.std.specs.BTreeMap.Range.{entries_between}
use Rattle.std.specs.Map.Iter.{deref_pair}
use Rattle.std.specs.declared.ops.Bound.{Bound}
use Rattle.std.specs.declared.ops.Bound.TheVariants.{Unbounded}
use Rattle.std.proofs.lemmas.List.{map-append, take_all}
use Rattle.std.proofs.lemmas.Map.Iter.{iter_end, rest_so_far}
use Rattle.bits_ip.specs.Prefix.{Net, net_cmp}
use Rattle.attrs.specs.Select.{rows_from}
use Rattle.rib.specs.Entries.{Entries, rows_of}
use Rattle.rib.proofs.NetSteps.{forward, rows-between, rows-bound, rows-next, taken-front}
use Rattle.rib.proofs.nets.Nets.copy_next.Goals as goal
use Rattle.rib.proofs.nets.Nets.copy_next.Goals.{in-None, in-Some+then-len-max}

pub range-net-items-requires : goal.range-net-items-requires
range-net-items-requires c = rw c.first_bound.ensures (forward _)

pub loop-net-preserved : goal.loop-net-preserved
loop-net-preserved c = (
  rows-next (map deref_pair c.loop-net.yielded) c.in-Some.net.now c.in-Some.routes.now _ _ _ _ c.in_ok-copy_row.ensures c.as_slice.ensures.value c.loop-net.invariant.0
      (map-append deref_pair c.loop-net.yielded ((c.in-Some.net, c.in-Some.routes) ∷ [])),
  rows-bound c.in-Some.net.now c.as_slice.result.now c.loop-net.rows.items _ c.args.max c.in_ok-copy_row.ensures (omega (arith, c.if-len-max.false, c.len.ensures, c.loop-net.rows.ok)),
)

pub returns : goal.returns
returns c =
    let from = option_copied c.args.from in
    let max = c.args.max in
    let front = map deref_pair c.loop-net.yielded in
    let told = ap (λ (es : Entries). take max (rows_of es)) (c.range-net-items.ensures.between tt ∙ ap (λ (b : Bound Net). entries_between net_cmp b Unbounded c.self.inside.map.entries) c.first_bound.ensures)
    ∙ ap (take max) (rows-between from c.self.inside.map.entries)
    ∙ ap (λ (es : Entries). take max (rows_from from (rows_of es))) c.self.view_is in
    let most : length (rows_of front) ≤ max = omega (arith, c.loop-net.invariant.1, ap length c.loop-net.invariant.0) in
    elim c.match-next.branch [
      | in-None w ↦
          let all : front ≡ c.range-net-items.result = search (rules, iter_end) in
          c.loop-net.invariant.0 ∙ sym (take_all max (rows_of front) most) ∙ ap (λ (es : Entries). take max (rows_of es)) all ∙ told
      | in-Some+then-len-max w ↦
          c.loop-net.invariant.0
          ∙ sym (taken-front max front _ c.range-net-items.result
          (sym c.into_iter-net-iterator.ensures.into_iter_gives ∙ rest_so_far deref_pair c.loop-net.yielded _ _ c.loop-net.yielded_by)
          (omega (arith, w.if-len-max.true, w.len.ensures, c.loop-net.rows.ok, ap length c.loop-net.invariant.0)) most)
          ∙ told
    ]
