use Rattle.std.proofs.Common.{◌≡◌, ◌++◌, take}
use Rattle.std.specs.List.{flat_map}
use Rattle.bits_ip.specs.Out.{Kept}
use Rattle.report.specs.Report.{line1}
use Rattle.report.specs.Operation.{done_text}
use Rattle.report.proofs.protocols.write_ops.Given as goal

abbrev pub invariant-loop-done : goal.invariant-loop-done
invariant-loop-done g l =
    (g.W.TextOut.written l.out ≡ g.W.TextOut.written l.initial.out ++ flat_map (λ done. line1 (done_text done)) (take l.done-index l.ops))
    × Kept g.W.TextOut.follows l.initial.out l.out
