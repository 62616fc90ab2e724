use Rattle.std.proofs.Common.{rules}
use Rattle.std.specs.Prelude.{not}
use Rattle.std.proofs.lemmas.Fn.{always_returns_same}
use Rattle.bits_ip.specs.Prefix.{precedes}
use Rattle.filt_sets.specs.declared.prefixes.PrefixItem.{PrefixItem}
use Rattle.filt_sets.proofs.NetOrder.{parted, parts_at}
use Rattle.filt_sets.proofs.covering.up_to.Goals as goal

pub returns-clause-at : goal.returns-clause-at
returns-clause-at c = λ rising.
    parted c.args.net.now c.args.items.now c.partition_point-count.result c.partition_point-count.ensures.bound
    (c.partition_point-count.ensures.partitioned (λ (item : PrefixItem). not (precedes c.args.net.now item.net)) (always_returns_same _ _ _ (λ a r q k. search rules))
    (parts_at c.args.net.now c.args.items.now rising))
