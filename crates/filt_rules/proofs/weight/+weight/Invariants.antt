use Rattle.std.proofs.Common.{◌≡◌, ◌≤◌, ◌+◌, ◌^◌, drop}
use Rattle.conf_ast.specs.Filters.{multiplied, added, joined, accessed, expression_of, expressions_of}
use Rattle.filt_types.specs.Walk.{accesses_of, operands_of}
use Rattle.filt_types.specs.Seen.{scene_of}
use Rattle.filt_types.specs.Weight.{weight, weights, capped}
use Rattle.filt_types.proofs.Cost as k
use Rattle.filt_types.proofs.Weighing.{parts, dots}
use Rattle.filt_rules.proofs.weight.+weight.Given as goal

abbrev pub decreases-weigh : goal.decreases-weigh
decreases-weigh l = k.cost l.e.now

abbrev pub decreases-weigh_two : goal.decreases-weigh_two
decreases-weigh_two l = k.cost l.first.now + k.cost l.second.now + 1

abbrev pub decreases-weigh_all : goal.decreases-weigh_all
decreases-weigh_all l = k.costs l.expressions.now

abbrev pub decreases-weigh_call : goal.decreases-weigh_call
decreases-weigh_call l = k.costs l.arguments.now + 1

abbrev pub decreases-weigh_accesses : goal.decreases-weigh_accesses
decreases-weigh_accesses l = k.cost l.operand.now + k.accesses_cost l.more.now + 1

abbrev pub decreases-weigh_access : goal.decreases-weigh_access
decreases-weigh_access l = k.access_cost l.access.now + 1

abbrev pub decreases-weigh_factors : goal.decreases-weigh_factors
decreases-weigh_factors l = k.cost l.operand.now + k.operands_cost l.more.now + 1

abbrev pub decreases-weigh_terms : goal.decreases-weigh_terms
decreases-weigh_terms l = k.cost l.operand.now + k.operands_cost l.more.now + 1

abbrev pub decreases-weigh_joints : goal.decreases-weigh_joints
decreases-weigh_joints l = k.cost l.operand.now + k.operands_cost l.more.now + 1

abbrev pub invariant-weigh_all-loop-e : goal.invariant-weigh_all-loop-e
invariant-weigh_all-loop-e l = record {
  value : capped (weights (scene_of l.text l.scope) (expressions_of l.expressions)) ≡ capped (l.sum + weights (scene_of l.text l.scope) (expressions_of (drop l.e-index l.expressions)));
  bound : l.sum ≤ 2 ^ 127;
}

abbrev pub invariant-weigh_accesses-loop-access : goal.invariant-weigh_accesses-loop-access
invariant-weigh_accesses-loop-access l = record {
  value : capped (weight (scene_of l.text l.scope) (accessed (expression_of l.operand) (accesses_of l.more))) ≡ capped (l.sum + dots (scene_of l.text l.scope) (drop l.access-index l.more));
  bound : l.sum ≤ 2 ^ 127;
}

abbrev pub invariant-weigh_factors-loop-part : goal.invariant-weigh_factors-loop-part
invariant-weigh_factors-loop-part l = record {
  value : capped (weight (scene_of l.text l.scope) (multiplied (expression_of l.operand) (operands_of l.more))) ≡ capped (l.sum + parts (scene_of l.text l.scope) (drop l.part-index l.more));
  bound : l.sum ≤ 2 ^ 127;
}

abbrev pub invariant-weigh_terms-loop-part : goal.invariant-weigh_terms-loop-part
invariant-weigh_terms-loop-part l = record {
  value : capped (weight (scene_of l.text l.scope) (added (expression_of l.operand) (operands_of l.more))) ≡ capped (l.sum + parts (scene_of l.text l.scope) (drop l.part-index l.more));
  bound : l.sum ≤ 2 ^ 127;
}

abbrev pub invariant-weigh_joints-loop-part : goal.invariant-weigh_joints-loop-part
invariant-weigh_joints-loop-part l = record {
  value : capped (weight (scene_of l.text l.scope) (joined (expression_of l.operand) (operands_of l.more))) ≡ capped (l.sum + parts (scene_of l.text l.scope) (drop l.part-index l.more));
  bound : l.sum ≤ 2 ^ 127;
}
