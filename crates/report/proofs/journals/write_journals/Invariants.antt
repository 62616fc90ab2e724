use Rattle.std.proofs.Common.{◌≡◌, ◌++◌, take}
use Rattle.std.specs.List.{flat_map}
use Rattle.bits_ip.specs.Out.{Kept}
use Rattle.report.specs.Report.{journal_text}
use Rattle.report.specs.ReportParts.{names_in}
use Rattle.report.proofs.journals.write_journals.Given as goal

abbrev pub invariant-loop-journal : goal.invariant-loop-journal
invariant-loop-journal g l =
    (g.W.TextOut.written l.out ≡ g.W.TextOut.written l.initial.out ++ flat_map (journal_text (names_in l.protocols)) (take l.journal-index l.journals))
    × Kept g.W.TextOut.follows l.initial.out l.out
