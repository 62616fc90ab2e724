use Rattle.std.proofs.Common.{◌≡◌, ◌++◌, take}
use Rattle.std.specs.List.{flat_map}
use Rattle.bits_ip.specs.Out.{Kept}
use Rattle.report.specs.ReportParts.{names_in, row_route_text}
use Rattle.report.proofs.tables.write_routes.Given as goal

abbrev pub invariant-loop-route : goal.invariant-loop-route
invariant-loop-route g l =
    (g.W.TextOut.written l.out ≡ g.W.TextOut.written l.initial.out ++ flat_map (row_route_text (names_in l.protocols) l.net) (take l.route-index l.routes))
    × Kept g.W.TextOut.follows l.initial.out l.out
