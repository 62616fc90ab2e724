use Rattle.std.proofs.Common.{◌≡◌, ◌++◌, take}
use Rattle.std.specs.List.{flat_map}
use Rattle.bits_ip.specs.Out.{Kept}
use Rattle.report.specs.Report.{table_text}
use Rattle.report.specs.ReportParts.{names_in}
use Rattle.report.proofs.tables.write_tables.Given as goal

abbrev pub invariant-loop-table : goal.invariant-loop-table
invariant-loop-table g l =
    (g.W.TextOut.written l.out ≡ g.W.TextOut.written l.initial.out ++ flat_map (table_text (names_in l.protocols)) (take l.table-index l.tables))
    × Kept g.W.TextOut.follows l.initial.out l.out
