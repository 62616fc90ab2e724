use Rattle.std.proofs.Common.{arith}
use Rattle.core_setup.proofs.PairLemmas.{pairs_end, pairs_turn}
use Rattle.run_tables.proofs.Routing.{item_read}
use Rattle.sys_run.specs.Phase.{IsTableOf}
use Rattle.sys_run.proofs.phase.report_tables.Goals as goal

pub loop-number-preserved : goal.loop-number-preserved
loop-number-preserved c =
    let xs = c.args.tables.now in
    let k = c.loop-number.number in
    pairs_turn (IsTableOf c.args.parts.now) xs c.loop-number.reports c.push.new.self k c.index-tables-number.result c.in_ok-report_table.field-0
    (item_read xs k c.index-tables-number.result (omega arith) c.index-tables-number.is) c.in_ok-push.ensures.pushed c.loop-number.invariant c.in_ok-report_table.ensures

pub returns : goal.returns
returns c = pairs_end (IsTableOf c.args.parts.now) c.args.tables.now c.loop-number.reports c.loop-number.number (omega arith) c.loop-number.invariant
