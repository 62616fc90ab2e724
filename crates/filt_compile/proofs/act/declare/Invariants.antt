use Rattle.std.proofs.Common.{◌≤◌, length, drop}
use Rattle.filt_compile.specs.Emits.{ahead, AddsAtMost, Declares}
use Rattle.filt_compile.proofs.act.declare.Given as goal

abbrev pub invariant-loop-n : goal.invariant-loop-n
invariant-loop-n l = record {
  low : l.n ≤ length l.sorts;
  made : Declares (drop l.n l.sorts) (ahead l.initial.out) (ahead l.out);
  cheap : AddsAtMost (λ called. length (drop l.n l.sorts)) (ahead l.initial.out) (ahead l.out);
}

abbrev pub decreases-loop-n : goal.decreases-loop-n
decreases-loop-n l = l.n
