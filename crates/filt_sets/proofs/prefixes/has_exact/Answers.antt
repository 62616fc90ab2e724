use Rattle.std.proofs.Common.{rules}
use Rattle.std.proofs.lemmas.Fn.{always_returns_same}
use Rattle.bits_ip.specs.Prefix.{net_cmp}
use Rattle.filt_sets.specs.declared.prefixes.PrefixItem.{PrefixItem}
use Rattle.filt_sets.proofs.InOrder.{nets_in_order}
use Rattle.filt_sets.proofs.prefixes.has_exact.Goals as goal

pub returns : goal.returns
returns c =
    let found = nets_in_order c.args.items.now c.args.net.now c.binary_search_by.result c.requires c.addr-addr.ensures.prefix c.binary_search_by.ensures.bound
    (c.binary_search_by.ensures.position (λ (item : PrefixItem). net_cmp item.net c.args.net.now) (always_returns_same _ _ _ (λ a r q k. search rules))) in
    rw c.is_ok.ensures.value found
