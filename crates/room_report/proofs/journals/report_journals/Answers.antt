use Rattle.std.proofs.Common.{arith}
use Rattle.room_report.specs.Inside.{journal_of}
use Rattle.room_report.proofs.Looping.{item_read, reports_end, reports_turn}
use Rattle.room_report.proofs.journals.report_journals.Goals as goal

pub loop-number-preserved : goal.loop-number-preserved
loop-number-preserved c =
    let xs = c.args.phases.now in
    let k = c.loop-number.number in
    let x = c.index-phases-number.result in
    reports_turn (journal_of c.args.tables.now) xs c.loop-number.reports c.push.new.self k x c.in_ok-report_journal.field-0
    (item_read xs k x (omega arith) c.index-phases-number.is) c.in_ok-push.ensures.pushed c.loop-number.invariant c.in_ok-report_journal.ensures

pub returns : goal.returns
returns c = reports_end (journal_of c.args.tables.now) c.args.phases.now c.loop-number.reports c.loop-number.number (omega arith) c.loop-number.invariant
