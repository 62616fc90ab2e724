use Rattle.std.proofs.Common.{◌≡◌, ◌++◌, take}
use Rattle.std.specs.List.{flat_map}
use Rattle.bits_ip.specs.Out.{Kept}
use Rattle.report.specs.Report.{line1, log_item_text}
use Rattle.report.specs.ReportParts.{names_in}
use Rattle.report.proofs.logs.write_items.Given as goal

abbrev pub invariant-loop-item : goal.invariant-loop-item
invariant-loop-item g l =
    (g.W.TextOut.written l.out ≡ g.W.TextOut.written l.initial.out ++ flat_map (λ item. line1 (log_item_text (names_in l.protocols) l.pipe item)) (take l.item-index l.items))
    × Kept g.W.TextOut.follows l.initial.out l.out
