use Rattle.std.proofs.Common.{◌≡◌, ◌++◌, length}
use Rattle.std.specs.List.{flat_map}
use Rattle.bits_ip.specs.Out.{Kept}
use Rattle.report.specs.Report.{line1}
use Rattle.text.specs.Lines.{lines_of}
use Rattle.report.proofs.replies.write_lines.Given as goal

abbrev pub invariant-loop-line : goal.invariant-loop-line
invariant-loop-line g l =
    (g.W.TextOut.written l.out ++ flat_map line1 (lines_of l.rest) ≡ g.W.TextOut.written l.initial.out ++ flat_map line1 (lines_of l.initial.rest))
    × Kept g.W.TextOut.follows l.initial.out l.out

abbrev pub decreases-loop-line : goal.decreases-loop-line
decreases-loop-line g l = length l.rest
