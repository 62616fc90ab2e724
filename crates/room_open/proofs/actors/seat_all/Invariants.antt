use Rattle.std.proofs.Common.{◌≡◌, ℕ, length, Some}
use Rattle.std.specs.Prelude.{slice_get}
use Rattle.phase_actors.specs.declared.actor.Actor.{Actor}
use Rattle.room_open.specs.Laid.{IsSeated}
use Rattle.room_open.specs.Lists.{AreLater}
use Rattle.room_open.proofs.actors.seat_all.Given as goal

abbrev pub invariant-loop-number : goal.invariant-loop-number
invariant-loop-number l = record {
  many : length l.actors.items ≡ l.number;
  seated : (number : ℕ) (actor : Actor) → slice_get l.actors.items number ≡ Some actor → IsSeated l.fn.hands.items l.fn.passes.items number actor;
  hands_are : AreLater l.number l.fn.hands.items l.hands.items;
  passes_are : AreLater l.number l.fn.passes.items l.passes.items;
}
