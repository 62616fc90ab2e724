use Rattle.std.proofs.Common.{List, [], sym, subst, arith}
use Rattle.report.specs.declared.phase.ChannelReport.{ChannelReport}
use Rattle.room_report.specs.Inside.{IsLogOf, Serves}
use Rattle.room_report.proofs.Looping.{item_read, serves_end, serves_turn}
use Rattle.room_report.proofs.logs.report_logs.Goals as goal

pub loop-number-init : goal.loop-number-init
loop-number-init g c = subst (λ (l : List ChannelReport). Serves (IsLogOf {J = g.row.J.Denot} c.args.names.now c.args.logged.now) [] l) (sym c.new-reports.ensures) tt

pub loop-number-preserved : goal.loop-number-preserved
loop-number-preserved g c =
    let xs = c.args.members.now in
    let k = c.loop-number.number in
    let x = c.index-members-number.result in
    serves_turn (IsLogOf {J = g.row.J.Denot} c.args.names.now c.args.logged.now) xs c.loop-number.reports c.add_member.new.reports k x
    (item_read xs k x (omega arith) c.index-members-number.is) c.loop-number.invariant c.in_ok-add_member.ensures

pub returns : goal.returns
returns g c = serves_end (IsLogOf {J = g.row.J.Denot} c.args.names.now c.args.logged.now) c.args.members.now c.loop-number.reports c.loop-number.number (omega arith) c.loop-number.invariant
