use Rattle.std.proofs.Common.{◌≡◌, ◌≤◌, length, drop}
use Rattle.filt_compile.specs.Emits.{ahead, jumps_to}
use Rattle.filt_compile.proofs.act.jumps.Given as goal

abbrev pub invariant-loop-n : goal.invariant-loop-n
invariant-loop-n l = record {
  low : l.n ≤ length l.starts;
  made : ahead l.out ≡ jumps_to (drop l.n l.starts) (ahead l.initial.out);
}

abbrev pub decreases-loop-n : goal.decreases-loop-n
decreases-loop-n l = l.n
