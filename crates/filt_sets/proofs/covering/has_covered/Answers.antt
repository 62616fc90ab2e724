use Rattle.std.proofs.Common.{◌≡◌, ◌≤◌, ◌↔◌, ◌-◌, IsTrue, List, drop, length, rules, subst, sym, take, true, false}
use Rattle.std.specs.Prelude.{Any}
use Rattle.std.specs.List.Sorted.{IsPartitionedBy, IsPartitionPoint}
use Rattle.std.proofs.lemmas.Fn.{always_returns_same}
use Rattle.bits_ip.specs.Prefix.{precedes}
use Rattle.filt_sets.specs.declared.prefixes.PrefixItem.{PrefixItem}
use Rattle.filt_sets.specs.Search.{TakesLength, is_covered}
use Rattle.filt_sets.proofs.NetOrder.{covered_any, from_place, parts_before, parts_covered}
use Rattle.filt_sets.proofs.covering.has_covered.Goals as goal

pub returns : goal.returns
returns c =
    let net = c.args.net.now in
    let items = c.args.items.now in
    let p = c.partition_point-first.result in
    let n = c.partition_point-count.result in
    let behind = from_place items p c.partition_point-first.ensures.bound in
    let first = c.partition_point-first.ensures.partitioned (λ (item : PrefixItem). precedes item.net net) (always_returns_same _ _ _ (λ a r q k. search rules)) (parts_before net items c.requires) in
    let second = c.partition_point-count.ensures.partitioned (is_covered net) (always_returns_same _ _ _ (λ a r q k. search rules))
    (subst (IsPartitionedBy (is_covered net)) (sym behind) (parts_covered net items p c.addr-addr.ensures.prefix c.requires first)) in
    let some = subst (λ len. IsTrue c.some_takes.result ↔ Any (λ item. TakesLength item len) (take n (take (length items - p) (drop p items)))) c.len.ensures c.some_takes.ensures in
    covered_any net items p n c.some_takes.result c.addr-addr.ensures.prefix
    (subst (λ (l : List PrefixItem). n ≤ length l) behind c.partition_point-count.ensures.bound) first
    (subst (λ (l : List PrefixItem). IsPartitionPoint (λ item. is_covered net item ≡ true) (λ item. is_covered net item ≡ false) l n) behind second)
    (subst (λ (l : List PrefixItem). IsTrue c.some_takes.result ↔ Any (λ item. TakesLength item net.len) (take n l)) behind some)
