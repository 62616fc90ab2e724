use Rattle.std.proofs.Common.{◌≤◌, arith, length}
use Rattle.core_setup.proofs.PairLemmas.{other_here, pairs_end, pairs_turn}
use Rattle.run_tables.specs.declared.channel.Channel.{Channel}
use Rattle.run_tables.proofs.Routing.{item_read}
use Rattle.sys_run.specs.Phase.{IsLogOf}
use Rattle.sys_run.proofs.phase.report_logs.Goals as goal

pub report_log-requires-clause-logged : goal.report_log-requires-clause-logged
report_log-requires-clause-logged g c =
    let xs = c.args.channels.now in
    let k = c.loop-number.number in
    other_here (λ n (held : Channel g.row.J.Denot) len. len ≤ length held.exporter.log) xs c.args.logged.now c.requires.logged k c.index-channels-number.result
    (item_read xs k c.index-channels-number.result (omega arith) c.index-channels-number.is)

pub loop-number-preserved : goal.loop-number-preserved
loop-number-preserved g c =
    let xs = c.args.channels.now in
    let k = c.loop-number.number in
    pairs_turn (IsLogOf c.args.names.now c.args.logged.now) xs c.loop-number.reports c.push.new.self k c.index-channels-number.result c.in_ok-report_log.field-0
    (item_read xs k c.index-channels-number.result (omega arith) c.index-channels-number.is) c.in_ok-push.ensures.pushed c.loop-number.invariant c.in_ok-report_log.ensures

pub returns : goal.returns
returns g c = pairs_end (IsLogOf c.args.names.now c.args.logged.now) c.args.channels.now c.loop-number.reports c.loop-number.number (omega arith) c.loop-number.invariant
