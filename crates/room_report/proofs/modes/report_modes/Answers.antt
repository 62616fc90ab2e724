use Rattle.std.proofs.Common.{arith}
use Rattle.room_report.specs.Inside.{mode_of}
use Rattle.room_report.proofs.Looping.{item_read, reports_end, reports_turn}
use Rattle.room_report.proofs.modes.report_modes.Goals as goal

pub loop-number-preserved : goal.loop-number-preserved
loop-number-preserved g c =
    let xs = c.args.members.now in
    let k = c.loop-number.number in
    let x = c.index-members-number.result in
    reports_turn (mode_of c.args.names.now) xs c.loop-number.reports c.push.new.self k x c.in_ok-report_mode.field-0
    (item_read xs k x (omega arith) c.index-members-number.is) c.in_ok-push.ensures.pushed c.loop-number.invariant c.in_ok-report_mode.ensures

pub returns : goal.returns
returns g c = reports_end (mode_of c.args.names.now) c.args.members.now c.loop-number.reports c.loop-number.number (omega arith) c.loop-number.invariant
