use Rattle.report.specs.ReportParts.{names_in}
use Rattle.report.proofs.ReportPieces.{rows_step}
use Rattle.std.proofs.Common.{arith}
use Rattle.report.proofs.tables.write_rows.Goals as goal

pub loop-row-preserved : goal.loop-row-preserved
loop-row-preserved g c = (
  rows_step (names_in c.args.protocols.now) c.loop-row.row-index c.args.rows.now c.row-item.result c.as_slice.result.now
      (g.W.TextOut.written c.args.out.now) (g.W.TextOut.written c.loop-row.out) (g.W.TextOut.written c.write_routes.new.out)
      (omega arith) c.row-item.is c.as_slice.ensures c.loop-row.invariant.0 c.in_ok-write_routes.ensures.written,
  λ first is. c.write_routes.ensures.kept first (c.loop-row.invariant.1 first is),
)
