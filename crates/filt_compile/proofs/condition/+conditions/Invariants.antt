use Rattle.std.proofs.Common.{ℕ, ◌+◌, ◌≤◌, List, length, drop}
use Rattle.filt_meaning.specs.Values.{Val}
use Rattle.filt_meaning.specs.Flow.{Run}
use Rattle.filt_meaning.specs.Trees as trees
use Rattle.filt_meaning.specs.Trees.{Tables}
use Rattle.filt_code.specs.declared.instr.Instr.{Instr}
use Rattle.filt_compile.specs.Emits.{ahead, Leads, LeadsAtMost}
use Rattle.filt_compile.specs.Parts.{sides_steps}
use Rattle.filt_compile.proofs.Cost as k
use Rattle.filt_compile.proofs.condition.+conditions.Given as goal

abbrev pub decreases-condition : goal.decreases-condition
decreases-condition l = k.cost l.e.now

abbrev pub decreases-joined : goal.decreases-joined
decreases-joined l = k.cost l.first.now + k.joints_cost l.more.now + 1

abbrev pub decreases-joined-loop-n : goal.decreases-joined-loop-n
decreases-joined-loop-n l = l.n

abbrev pub invariant-joined-loop-n : goal.invariant-joined-loop-n
invariant-joined-loop-n l = record {
  low : l.n ≤ length l.more;
  far : l.initial.place ≤ length (ahead l.initial.out) → l.place ≤ length (ahead l.out);
  made : l.initial.place ≤ length (ahead l.initial.out) → (run : Tables → Run Val) (new : List Instr) → Leads l.seen l.wanted l.place run (ahead l.out) new → Leads l.seen l.initial.wanted l.initial.place (λ t. trees.joints (run t) (trees.parts t (drop l.n l.more))) (ahead l.initial.out) new;
  cheap : l.initial.place ≤ length (ahead l.initial.out) → (steps : (ℕ → ℕ) → ℕ) (new : List Instr) → LeadsAtMost steps l.place (ahead l.out) new → LeadsAtMost (λ called. steps called + sides_steps called (drop l.n l.more)) l.initial.place (ahead l.initial.out) new;
}
