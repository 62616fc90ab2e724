use Rattle.std.proofs.Common.{◌≡◌, ◌++◌, take}
use Rattle.std.specs.List.{flat_map}
use Rattle.bits_ip.specs.Out.{Kept}
use Rattle.bits_ip.specs.Parts.{behind_colon}
use Rattle.bits_ip.proofs.ipv6.write_more_groups.Given as goal

abbrev pub invariant-loop-group : goal.invariant-loop-group
invariant-loop-group g l =
    (g.W.TextOut.written l.out ≡ g.W.TextOut.written l.initial.out ++ flat_map behind_colon (take l.group-index l.groups))
    × Kept g.W.TextOut.follows l.initial.out l.out
