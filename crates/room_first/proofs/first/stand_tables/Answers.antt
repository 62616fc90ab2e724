use Rattle.std.proofs.Common.{refl}
use Rattle.core_setup.proofs.PairLemmas.{pairs_end, pairs_turn}
use Rattle.room_first.specs.Inside.{IsFirstTable}
use Rattle.sys_run.proofs.MakingWays.{item_read}
use Rattle.room_first.proofs.first.stand_tables.Goals as goal

pub loop-table-preserved : goal.loop-table-preserved
loop-table-preserved c =
    let xs = c.args.tables.now in
    let k = c.loop-table.table-index in
    let x = c.table-item.result in
    pairs_turn (λ number table stood. IsFirstTable table stood) xs c.loop-table.stood.items c.push.new.self.items k x _
    (item_read xs k x c.loop-table-test.true c.table-item.is) c.in_ok-push.ensures.items c.loop-table.invariant
    (record { family = refl; rows = c.make.ensures; before = c.new.ensures.items })

pub returns : goal.returns
returns c = pairs_end (λ number table stood. IsFirstTable table stood) c.args.tables.now c.loop-table.stood.items c.loop-table.table-index c.loop-table-test.false c.loop-table.invariant
