use Rattle.std.proofs.Common.{ap, length, arith}
use Rattle.rec_words.proofs.Written.{route_written}
use Rattle.rec_words.proofs.write.put_route.Goals as goal

pub put_pairs-requires : goal.put_pairs-requires
put_pairs-requires c =
    omega (arith, c.requires, c.put_head.ensures.few, c.put_addr.ensures.few, c.put_addr-2.ensures.few, c.put_addr-3.ensures.few, c.put_numbers.ensures.few, c.as_slice.ensures.bound, ap length c.as_slice.ensures.value, c.as_slice-2.ensures.is.short, ap length c.as_slice-2.ensures.value)

pub returns-clause-written : goal.returns-clause-written
returns-clause-written c =
    route_written c.args.route.now c.deref-attrs.result.now c.as_slice.result.now c.as_slice-2.result.now _ _ _ _ _ _ _ c.deref-attrs.ensures c.as_slice.ensures.value c.as_slice-2.ensures.value c.put_head.ensures.written c.put_addr.ensures.written c.put_addr-2.ensures.written c.put_addr-3.ensures.written c.put_numbers.ensures.written c.put_pairs.ensures.written
