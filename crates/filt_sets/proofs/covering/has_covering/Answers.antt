use Rattle.std.proofs.Common.{arith, refl, rules}
use Rattle.filt_sets.proofs.NetOrder.{left_next}
use Rattle.filt_sets.proofs.covering.has_covering.Goals as goal

pub loop-front-preserved : goal.loop-front-preserved
loop-front-preserved c =
    left_next c.args.net.now c.args.items.now c.loop-front.front.now _ c.item-item.result c.left_before-front.result.now c.requires c.loop-front.invariant
    (omega (arith, c.in-len1-up.len_at_least)) refl c.item-item.is (search rules) c.left_before-front.ensures.front c.left_before-front.ensures.held
