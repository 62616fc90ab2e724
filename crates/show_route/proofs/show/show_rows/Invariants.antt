use Rattle.std.proofs.Common.{◌≤◌, ◌+◌, map, take}
use Rattle.std.specs.Prelude.{option_copied, option_map}
use Rattle.attrs.specs.Table.{count_routes}
use Rattle.show_route.specs.Senders.{sender_of}
use Rattle.show_route.specs.Steps.{TellsRows}
use Rattle.show_route.proofs.show.show_rows.Given as goal

abbrev pub invariant-loop-row : goal.invariant-loop-row
invariant-loop-row g l =
    TellsRows (map (λ name. name.now) l.fn.names) l.fn.query (option_map g.J.Judge.verdict (option_copied l.fn.choice))
    (option_map (λ through. sender_of through.spec (g.E.Judge.verdict through.judge)) (option_copied l.fn.export)) (take l.row-index l.fn.rows) l.fn.tally l.tally
    × (l.tally.routes ≤ l.fn.tally.routes + count_routes (take l.row-index l.fn.rows))
    × (l.tally.nets ≤ l.fn.tally.nets + l.row-index)
