use Rattle.std.proofs.Common.{◌≡◌, ◌++◌, take}
use Rattle.std.specs.List.{flat_map}
use Rattle.bits_ip.specs.Out.{Kept}
use Rattle.report.specs.Report.{standing_line}
use Rattle.report.specs.ReportParts.{names_in}
use Rattle.report.proofs.exports.write_standings.Given as goal

abbrev pub invariant-loop-standing : goal.invariant-loop-standing
invariant-loop-standing g l =
    (g.W.TextOut.written l.out ≡ g.W.TextOut.written l.initial.out ++ flat_map (standing_line (names_in l.protocols) l.pipe) (take l.standing-index l.sent))
    × Kept g.W.TextOut.follows l.initial.out l.out
