use Rattle.std.proofs.Common.{◌≡◌, ◌++◌, take}
use Rattle.std.specs.List.{flat_map}
use Rattle.bits_ip.specs.Out.{Kept}
use Rattle.report.specs.Report.{mode_line}
use Rattle.report.proofs.modes.write_modes.Given as goal

abbrev pub invariant-loop-mode : goal.invariant-loop-mode
invariant-loop-mode g l =
    (g.W.TextOut.written l.out ≡ g.W.TextOut.written l.initial.out ++ flat_map mode_line (take l.mode-index l.modes))
    × Kept g.W.TextOut.follows l.initial.out l.out
