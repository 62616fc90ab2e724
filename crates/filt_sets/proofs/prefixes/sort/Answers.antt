use Rattle.std.proofs.Common.{rules}
use Rattle.std.proofs.lemmas.Fn.{always_returns_same}
use Rattle.std.proofs.lemmas.List.MinMax.{ranks_by}
use Rattle.bits_ip.specs.Prefix.{precedes}
use Rattle.bits_ip.proofs.Nets.{net_cmp_total}
use Rattle.filt_sets.specs.declared.prefixes.PrefixItem.{PrefixItem}
use Rattle.filt_sets.proofs.prefixes.sort.Goals as goal

pub returns-clause-rising : goal.returns-clause-rising
returns-clause-rising c =
    c.sort_unstable_by.ensures.sorted (λ (a b : PrefixItem). precedes a.net b.net) (ranks_by net_cmp_total (λ (item : PrefixItem). item.net)) (always_returns_same _ _ _ (λ a r q k. search rules))
