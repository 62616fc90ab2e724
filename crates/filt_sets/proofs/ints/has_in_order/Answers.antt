use Rattle.std.proofs.Common.{rules}
use Rattle.std.proofs.lemmas.Fn.{always_returns_same}
use Rattle.filt_sets.specs.Search.{side_of}
use Rattle.filt_sets.proofs.InOrder.{ints_in_order}
use Rattle.filt_sets.proofs.ints.has_in_order.Goals as goal

pub returns : goal.returns
returns c =
    let found = ints_in_order c.args.items.now c.args.number c.binary_search_by.result c.requires c.binary_search_by.ensures.bound
    (c.binary_search_by.ensures.position (side_of c.args.number) (always_returns_same _ _ _ (λ a r q k. search rules))) in
    rw c.is_ok.ensures.value found
