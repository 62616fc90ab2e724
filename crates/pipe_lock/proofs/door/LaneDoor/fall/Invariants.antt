use Rattle.std.proofs.Common.{◌≡◌}
use Rattle.jour.specs.Seats.{own}
use Rattle.pipe_lock.specs.Calls.{IsSameStamp}
use Rattle.pipe_lock.proofs.door.LaneDoor.fall.Given as goal

abbrev pub invariant-loop : goal.invariant-loop
invariant-loop g l = IsSameStamp l.fn.stamp l.stamp × (own l.stamp.1 ≡ own l.fn.stamp.1)
