use Rattle.std.proofs.Common.{◌≡◌, ◌++◌, List, map}
use Rattle.std.specs.List.{All}
use Rattle.room_threads.specs.Acted.{HasActed}
use Rattle.room_threads.specs.declared.actor.Acted.{Acted}
use Rattle.room_run.specs.Inside.{AreDealt, actor_of}
use Rattle.room_run.proofs.dealing.deal_actors.Given as goal

abbrev pub invariant-loop-acted : goal.invariant-loop-acted
invariant-loop-acted g l = record {
  rest : All (HasActed g.P.Phase.terms l.room) l.acted-iterator.rest.items;
  done : List Acted;
  all : done ++ l.acted-iterator.rest.items ≡ l.fn.all.items;
  dealt : AreDealt g.P.Phase.terms l.room (map actor_of done) l.dealt;
}
