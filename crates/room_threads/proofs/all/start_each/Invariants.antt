use Rattle.std.proofs.Common.{◌≡◌, ◌++◌, map}
use Rattle.std.specs.List.{All}
use Rattle.room_threads.specs.Acted.{IsReady}
use Rattle.room_threads.specs.Started.{IsStarted, number_in, number_of}
use Rattle.room_threads.proofs.all.start_each.Given as goal

abbrev pub invariant-loop-actor : goal.invariant-loop-actor
invariant-loop-actor g l =
    All (IsReady g.P.Phase.terms g.P.Sends.exports g.P.Sends.rules (g.A.Answers.setup l.answers) l.room l.queries.items l.lines.items) l.actor-iterator.rest.items
    × All (IsStarted g.P.Phase.terms l.room) l.all.items
    × (map number_in l.all.items ++ map number_of l.actor-iterator.rest.items ≡ map number_of l.fn.actors.items)
