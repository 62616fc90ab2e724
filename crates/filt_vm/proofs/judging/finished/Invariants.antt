use Rattle.std.proofs.Common.{◌≡◌}
use Rattle.filt_route.specs.Seen.{IsUnstuck}
use Rattle.filt_vm.specs.Machines.{IsWhole, outcome, work}
use Rattle.filt_vm.proofs.judging.finished.Given as goal

abbrev pub invariant-loop-machine : goal.invariant-loop-machine
invariant-loop-machine l = record {
  same : outcome l.initial.machine ≡ outcome l.machine;
  unstuck : IsUnstuck (outcome l.machine);
  whole : IsWhole l.machine;
}

abbrev pub decreases-loop-machine : goal.decreases-loop-machine
decreases-loop-machine l = work l.machine
