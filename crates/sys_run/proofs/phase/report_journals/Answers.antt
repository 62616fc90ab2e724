use Rattle.std.proofs.Common.{◌≤◌, arith, length}
use Rattle.core_setup.proofs.PairLemmas.{other_here, pairs_end, pairs_turn}
use Rattle.run_tables.specs.declared.table.Table.{Table}
use Rattle.run_tables.proofs.Routing.{item_read}
use Rattle.sys_run.specs.Phase.{IsJournalOf}
use Rattle.sys_run.proofs.phase.report_journals.Goals as goal

pub report_journal-requires-clause-heads : goal.report_journal-requires-clause-heads
report_journal-requires-clause-heads c =
    let xs = c.args.tables.now in
    let k = c.loop-number.number in
    other_here (λ n (table : Table) head. head ≤ length table.entries.items) xs c.args.heads.now c.requires.heads k c.index-tables-number.result
    (item_read xs k c.index-tables-number.result (omega arith) c.index-tables-number.is)

pub loop-number-preserved : goal.loop-number-preserved
loop-number-preserved c =
    let xs = c.args.tables.now in
    let k = c.loop-number.number in
    pairs_turn (IsJournalOf c.args.parts.now c.args.heads.now) xs c.loop-number.reports c.push.new.self k c.index-tables-number.result c.in_ok-report_journal.field-0
    (item_read xs k c.index-tables-number.result (omega arith) c.index-tables-number.is) c.in_ok-push.ensures.pushed c.loop-number.invariant c.in_ok-report_journal.ensures

pub returns : goal.returns
returns c = pairs_end (IsJournalOf c.args.parts.now c.args.heads.now) c.args.tables.now c.loop-number.reports c.loop-number.number (omega arith) c.loop-number.invariant
