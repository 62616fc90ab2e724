use Rattle.std.proofs.Common.{arith}
use Rattle.core_setup.proofs.PairLemmas.{pairs_end, pairs_turn}
use Rattle.run_tables.proofs.Routing.{item_read}
use Rattle.sys_run.specs.Phase.{IsModeOf}
use Rattle.sys_run.proofs.phase.report_modes.Goals as goal

pub loop-number-preserved : goal.loop-number-preserved
loop-number-preserved g c =
    let xs = c.args.protocols.now in
    let k = c.loop-number.number in
    pairs_turn (IsModeOf c.args.names.now) xs c.loop-number.reports c.push.new.self k c.index-protocols-number.result
    (record { name = c.in_ok-name.name; state = c.state-state.result })
    (item_read xs k c.index-protocols-number.result (omega arith) c.index-protocols-number.is) c.in_ok-push.ensures.pushed c.loop-number.invariant
    (record { name = c.in_ok-name.ensures; state = c.state-state.ensures })

pub returns : goal.returns
returns g c = pairs_end (IsModeOf c.args.names.now) c.args.protocols.now c.loop-number.reports c.loop-number.number (omega arith) c.loop-number.invariant
