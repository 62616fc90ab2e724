use Rattle.std.proofs.Common.{◌≡◌, ◌++◌, take}
use Rattle.bits_ip.specs.Out.{Kept}
use Rattle.report.specs.Report.{entries_text}
use Rattle.report.specs.ReportParts.{names_in}
use Rattle.report.proofs.journals.write_entries.Given as goal

abbrev pub invariant-loop-index : goal.invariant-loop-index
invariant-loop-index g l =
    (g.W.TextOut.written l.out ≡ g.W.TextOut.written l.initial.out ++ entries_text (names_in l.protocols) l.from (take l.index l.entries))
    × Kept g.W.TextOut.follows l.initial.out l.out
