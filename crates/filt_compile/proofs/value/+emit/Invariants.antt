use Rattle.std.proofs.Common.{◌+◌, ◌≤◌, length, drop}
use Rattle.filt_meaning.specs.Steps.{exprs_steps}
use Rattle.filt_meaning.specs.Trees as trees
use Rattle.filt_compile.specs.Emits.{ahead, AddsAtMost, Makes, PutsAll}
use Rattle.filt_compile.specs.Parts.{made_by_all, part_of, parts_of, parts_steps}
use Rattle.filt_compile.proofs.Cost as k
use Rattle.filt_compile.proofs.value.+emit.Given as goal

abbrev pub decreases-value : goal.decreases-value
decreases-value l = k.cost l.e.now

abbrev pub decreases-chain : goal.decreases-chain
decreases-chain l = k.cost l.first.now + k.parts_cost (parts_of l.rest) + 3

abbrev pub decreases-apply : goal.decreases-apply
decreases-apply l = k.part_cost (part_of l.step) + 3

abbrev pub decreases-join : goal.decreases-join
decreases-join l = k.cost l.right.now + 2

abbrev pub decreases-values : goal.decreases-values
decreases-values l = k.costs l.es.now

abbrev pub decreases-call : goal.decreases-call
decreases-call l = k.costs l.es.now + 1

abbrev pub invariant-chain-loop-n : goal.invariant-chain-loop-n
invariant-chain-loop-n l = record {
  low : l.n ≤ length (parts_of l.rest);
  made : Makes l.seen (λ t. made_by_all t (drop l.n (parts_of l.rest))) (ahead l.initial.out) (ahead l.out);
  cheap : AddsAtMost (λ called. parts_steps called (drop l.n (parts_of l.rest))) (ahead l.initial.out) (ahead l.out);
}

abbrev pub invariant-values-loop-n : goal.invariant-values-loop-n
invariant-values-loop-n l = record {
  low : l.n ≤ length l.es;
  made : PutsAll l.seen (λ t. trees.all_values (trees.exprs t (drop l.n l.es))) (ahead l.initial.out) (ahead l.out);
  cheap : AddsAtMost (λ called. exprs_steps called (drop l.n l.es)) (ahead l.initial.out) (ahead l.out);
}

abbrev pub decreases-chain-loop-n : goal.decreases-chain-loop-n
decreases-chain-loop-n l = l.n

abbrev pub decreases-values-loop-n : goal.decreases-values-loop-n
decreases-values-loop-n l = l.n
