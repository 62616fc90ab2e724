use Rattle.std.proofs.Common.{◌≡◌, ◌++◌, take}
use Rattle.std.specs.List.{flat_map}
use Rattle.bits_ip.specs.Out.{Kept}
use Rattle.report.specs.Report.{row_text}
use Rattle.report.specs.ReportParts.{names_in}
use Rattle.report.proofs.tables.write_rows.Given as goal

abbrev pub invariant-loop-row : goal.invariant-loop-row
invariant-loop-row g l =
    (g.W.TextOut.written l.out ≡ g.W.TextOut.written l.initial.out ++ flat_map (row_text (names_in l.protocols)) (take l.row-index l.rows))
    × Kept g.W.TextOut.follows l.initial.out l.out
