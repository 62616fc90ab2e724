use Rattle.std.proofs.Common.{◌≡◌, ◌+◌, ◌≤◌, List, length, drop, take}
use Rattle.filt_code.specs.declared.instr.Instr.{Instr}
use Rattle.filt_meaning.specs.Steps.{arms_steps, body_steps}
use Rattle.filt_meaning.specs.Trees as trees
use Rattle.filt_compile.specs.Emits.{ahead, Acts, AddsAtMost, Bodies, Grows, StartsAtMost}
use Rattle.filt_compile.proofs.Cost as k
use Rattle.filt_compile.proofs.act.+acts.Given as goal

abbrev pub decreases-act : goal.decreases-act
decreases-act l = k.act_cost l.s.now

abbrev pub decreases-body : goal.decreases-body
decreases-body l = k.body_cost l.statements.now

abbrev pub decreases-block : goal.decreases-block
decreases-block l = k.body_cost l.statements.now + 1

abbrev pub decreases-choice : goal.decreases-choice
decreases-choice l = k.act_cost l.first.now + 1

abbrev pub decreases-either : goal.decreases-either
decreases-either l = k.act_cost l.first.now + k.act_cost l.second.now + 1

abbrev pub decreases-case : goal.decreases-case
decreases-case l = k.arms_cost l.arms.now + k.body_cost l.otherwise.now + 2

abbrev pub decreases-bodies : goal.decreases-bodies
decreases-bodies l = k.arms_cost l.arms.now + 1

abbrev pub decreases-turns : goal.decreases-turns
decreases-turns l = k.act_cost l.turn.now + 1

abbrev pub invariant-body-loop-n : goal.invariant-body-loop-n
invariant-body-loop-n l = record {
  low : l.n ≤ length l.statements;
  made : Acts l.seen (λ t. trees.body t (drop l.n l.statements)) (ahead l.initial.out) (ahead l.out);
  cheap : AddsAtMost (λ called. body_steps called (drop l.n l.statements)) (ahead l.initial.out) (ahead l.out);
}

abbrev pub decreases-body-loop-n : goal.decreases-body-loop-n
decreases-body-loop-n l = l.n

abbrev pub invariant-bodies-loop-arm : goal.invariant-bodies-loop-arm
invariant-bodies-loop-arm l = (old : List Instr) → l.before ≡ length old → Grows old (ahead l.initial.out) → Bodies l.seen (take l.arm-index l.arms) l.starts.items old (ahead l.initial.out) (ahead l.out) × StartsAtMost (λ called. 1 + arms_steps called l.arms) l.starts.items old (ahead l.out)
