use Rattle.rec_words.proofs.Lengths.{route_len_is}
use Rattle.rec_words.proofs.counts.route_len.Goals as goal

pub returns-clause-len : goal.returns-clause-len
returns-clause-len c =
    route_len_is c.args.route.now c.deref-attrs.result.now c.as_slice.result.now c.as_slice-2.result.now _ _ _ _ _ c.deref-attrs.ensures c.as_slice.ensures.value c.as_slice-2.ensures.value c.addr_len.ensures.len c.addr_len-2.ensures.len c.addr_len-3.ensures.len c.numbers_len-path.ensures c.numbers_len-coms.ensures
