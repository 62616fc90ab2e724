use Rattle.std.proofs.Common.{arith}
use Rattle.core_setup.proofs.PairLemmas.{pairs_end, pairs_turn}
use Rattle.sys_run.specs.Made.{IsMadeTable}
use Rattle.sys_run.proofs.MakingWays.{item_read}
use Rattle.sys_run.proofs.made.make_tables.Goals as goal

pub loop-part-preserved : goal.loop-part-preserved
loop-part-preserved c =
    let xs = c.args.parts.now in
    let k = c.loop-part.part-index in
    pairs_turn IsMadeTable xs c.loop-part.tables.items c.push.new.self.items k c.part-item.result c.make.result
    (item_read xs k c.part-item.result (omega arith) c.part-item.is) c.in_ok-push.ensures.items c.loop-part.invariant c.make.ensures

pub returns : goal.returns
returns c = pairs_end IsMadeTable c.args.parts.now c.loop-part.tables.items c.loop-part.part-index (omega arith) c.loop-part.invariant
