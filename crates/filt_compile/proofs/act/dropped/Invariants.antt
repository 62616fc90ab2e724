use Rattle.std.proofs.Common.{◌≤◌, length, drop}
use Rattle.filt_compile.specs.Emits.{ahead, AddsAtMost}
use Rattle.filt_compile.specs.Parts.{dropped_steps}
use Rattle.filt_compile.proofs.Acting as ac
use Rattle.filt_compile.proofs.act.dropped.Given as goal

abbrev pub invariant-loop-n : goal.invariant-loop-n
invariant-loop-n l = record {
  low : l.n ≤ length l.es;
  made : ac.Printed l.seen (drop l.n l.es) (ahead l.initial.out) (ahead l.out);
  cheap : AddsAtMost (λ called. dropped_steps called (drop l.n l.es)) (ahead l.initial.out) (ahead l.out);
}

abbrev pub decreases-loop-n : goal.decreases-loop-n
decreases-loop-n l = l.n
