use Rattle.std.proofs.Common.{◌≡◌, ◌≤◌, ◌+◌, ◌^◌, drop}
use Rattle.conf_ast.specs.Filters.{statements_of}
use Rattle.filt_types.specs.Walk.{arms_of}
use Rattle.filt_types.specs.Seen.{scene_of}
use Rattle.filt_types.specs.Weight.{acts_weight, arms_weight, capped}
use Rattle.filt_types.proofs.Cost as k
use Rattle.filt_rules.proofs.weight.+statement_weight.Given as goal

abbrev pub decreases-weigh_statement : goal.decreases-weigh_statement
decreases-weigh_statement l = k.stmt_cost l.s.now

abbrev pub decreases-weigh_statements : goal.decreases-weigh_statements
decreases-weigh_statements l = k.stmts_cost l.body.now

abbrev pub decreases-weigh_arms : goal.decreases-weigh_arms
decreases-weigh_arms l = k.arms_cost l.arms.now

abbrev pub decreases-weigh_else : goal.decreases-weigh_else
decreases-weigh_else l = k.otherwise_cost l.otherwise.now + 1

abbrev pub decreases-weigh_if : goal.decreases-weigh_if
decreases-weigh_if l = k.stmt_cost l.s.now + 1

abbrev pub decreases-weigh_case : goal.decreases-weigh_case
decreases-weigh_case l = k.arms_cost l.arms.now + k.otherwise_cost l.otherwise.now + 2

abbrev pub invariant-weigh_statements-loop-s : goal.invariant-weigh_statements-loop-s
invariant-weigh_statements-loop-s l = record {
  value : capped (acts_weight (scene_of l.text l.scope) (statements_of l.body)) ≡ capped (l.sum + acts_weight (scene_of l.text l.scope) (statements_of (drop l.s-index l.body)));
  bound : l.sum ≤ 2 ^ 127;
}

abbrev pub invariant-weigh_arms-loop-arm : goal.invariant-weigh_arms-loop-arm
invariant-weigh_arms-loop-arm l = record {
  value : capped (arms_weight (scene_of l.text l.scope) (arms_of l.arms)) ≡ capped (l.sum + arms_weight (scene_of l.text l.scope) (arms_of (drop l.arm-index l.arms)));
  bound : l.sum ≤ 2 ^ 127;
}
