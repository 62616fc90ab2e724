use Rattle.report.specs.ReportParts.{names_in}
use Rattle.report.proofs.ReportPieces.{entries_step}
use Rattle.std.proofs.Common.{arith}
use Rattle.report.proofs.journals.write_entries.Goals as goal

pub loop-index-preserved : goal.loop-index-preserved
loop-index-preserved g c = (
  entries_step (names_in c.args.protocols.now) c.args.from _ c.loop-index.index c.args.entries.now c.index-entries-index.result
      (g.W.TextOut.written c.args.out.now) (g.W.TextOut.written c.loop-index.out) (g.W.TextOut.written c.write_entry.new.out)
      (omega arith) c.index-entries-index.is (omega arith) c.loop-index.invariant.0 c.in_ok-write_entry.ensures.written,
  λ first is. c.write_entry.ensures.kept first (c.loop-index.invariant.1 first is),
)
