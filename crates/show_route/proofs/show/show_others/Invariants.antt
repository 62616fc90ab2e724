use Rattle.std.proofs.Common.{◌≤◌, ◌+◌, map, false, take}
use Rattle.std.specs.Prelude.{option_copied, option_map}
use Rattle.std.specs.List.{flat_map}
use Rattle.show_route.specs.Steps.{Puts, one_of}
use Rattle.show_route.proofs.show.show_others.Given as goal

abbrev pub invariant-loop-route : goal.invariant-loop-route
invariant-loop-route g l =
    Puts (map (λ name. name.now) l.fn.names) l.fn.query
    (flat_map (one_of l.fn.query (option_map g.J.Judge.verdict (option_copied l.fn.choice)) l.fn.net false) (take l.route-index l.fn.routes)) l.fn.tally l.tally
    × (l.tally.routes ≤ l.fn.tally.routes + l.route-index)
