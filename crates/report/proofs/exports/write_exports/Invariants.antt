use Rattle.std.proofs.Common.{◌≡◌, ◌++◌, take}
use Rattle.std.specs.List.{flat_map}
use Rattle.bits_ip.specs.Out.{Kept}
use Rattle.report.specs.Report.{export_text}
use Rattle.report.specs.ReportParts.{names_in}
use Rattle.report.proofs.exports.write_exports.Given as goal

abbrev pub invariant-loop-export : goal.invariant-loop-export
invariant-loop-export g l =
    (g.W.TextOut.written l.out ≡ g.W.TextOut.written l.initial.out ++ flat_map (export_text (names_in l.protocols)) (take l.export-index l.exports))
    × Kept g.W.TextOut.follows l.initial.out l.out
