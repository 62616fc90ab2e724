use Rattle.std.proofs.Common.{arith}
use Rattle.outside_io.proofs.Blocks.{left_after, written_after}
use Rattle.outside_io.proofs.whole.write_whole.Goals as goal

pub loop-rest-preserved : goal.loop-rest-preserved
loop-rest-preserved g c =
    let inv = c.loop-rest.invariant in
    let rest = c.loop-rest.rest.now in
    let text = c.args.text.now in
    let count = c.in_ok-count.count in
    record {
      left = left_after text rest inv.left count c.min.result c.in_ok-count.ensures.bound;
      written = written_after text rest inv.left count c.min.result c.in_ok-count.ensures.bound (g.K.Sink.contents c.args.out.now) (g.K.Sink.contents c.loop-rest.out) (g.K.Sink.contents c.write.new.self) inv.written c.in_ok-count.ensures.bytes;
      later = omega arith;
    }
