use Rattle.std.proofs.Common.{◌≡◌, ◌<◌, ℕ}
use Rattle.jour.specs.Seats.{front}
use Rattle.room_run.specs.Inside.{AreNew, AreOfOthers}
use Rattle.room_run.proofs.telling.tell_actors.Given as goal

abbrev pub invariant-loop-place : goal.invariant-loop-place
invariant-loop-place g l = record {
  same : l.starter ≡ l.fn.starter;
  are : AreNew g.P.Phase.terms l.room l.actors.items;
  none : (actor : ℕ) → actor < l.place → AreOfOthers actor (front l.fn.starter.1);
}
