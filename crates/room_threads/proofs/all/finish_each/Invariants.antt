use Rattle.std.proofs.Common.{◌≡◌, ◌++◌, map}
use Rattle.std.specs.List.{All}
use Rattle.room_threads.specs.Acted.{HasActed}
use Rattle.room_threads.specs.Started.{IsStarted, acted_number, number_in}
use Rattle.room_threads.proofs.all.finish_each.Given as goal

abbrev pub invariant-loop-one : goal.invariant-loop-one
invariant-loop-one g l =
    All (IsStarted g.P.Phase.terms l.room) l.one-iterator.rest.items
    × All (HasActed g.P.Phase.terms l.room) l.all.items
    × (map acted_number l.all.items ++ map number_in l.one-iterator.rest.items ≡ map number_in l.fn.started.items)
