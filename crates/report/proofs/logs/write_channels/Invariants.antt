use Rattle.std.proofs.Common.{◌≡◌, ◌++◌, take}
use Rattle.std.specs.List.{flat_map}
use Rattle.bits_ip.specs.Out.{Kept}
use Rattle.report.specs.Report.{channel_text}
use Rattle.report.specs.ReportParts.{names_in}
use Rattle.report.proofs.logs.write_channels.Given as goal

abbrev pub invariant-loop-channel : goal.invariant-loop-channel
invariant-loop-channel g l =
    (g.W.TextOut.written l.out ≡ g.W.TextOut.written l.initial.out ++ flat_map (channel_text (names_in l.protocols)) (take l.channel-index l.channels))
    × Kept g.W.TextOut.follows l.initial.out l.out
