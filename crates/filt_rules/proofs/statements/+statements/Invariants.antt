use Rattle.std.proofs.Common.{◌≡◌, ◌+◌, drop}
use Rattle.conf_ast.specs.Filters.{statements_of}
use Rattle.filt_rules.specs.Passes.{around_in}
use Rattle.filt_types.specs.Walk.{arms_of}
use Rattle.filt_types.specs.Refusals.{first_in}
use Rattle.filt_types.specs.Statements.{check_all, check_arms}
use Rattle.filt_types.proofs.Cost as k
use Rattle.filt_rules.proofs.statements.+statements.Given as goal

abbrev pub decreases-check : goal.decreases-check
decreases-check l = k.stmt_cost l.s.now + 1

abbrev pub decreases-check_inside : goal.decreases-check_inside
decreases-check_inside l = k.stmt_cost l.s.now

abbrev pub decreases-check_all : goal.decreases-check_all
decreases-check_all l = k.stmts_cost l.body.now

abbrev pub decreases-check_arms : goal.decreases-check_arms
decreases-check_arms l = k.arms_cost l.arms.now

abbrev pub decreases-check_else : goal.decreases-check_else
decreases-check_else l = k.otherwise_cost l.otherwise.now + 1

abbrev pub decreases-check_block : goal.decreases-check_block
decreases-check_block l = k.stmts_cost l.body.now + 1

abbrev pub decreases-check_loop : goal.decreases-check_loop
decreases-check_loop l = k.stmt_cost l.body.now + 2

abbrev pub invariant-check_all-loop-s : goal.invariant-check_all-loop-s
invariant-check_all-loop-s l = record {
  seen : (check_all (around_in l.around) l.initial.variables (statements_of l.body)).variables ≡ (check_all (around_in l.around) l.variables (statements_of (drop l.s-index l.body))).variables;
  refusals : first_in l.initial.first (check_all (around_in l.around) l.initial.variables (statements_of l.body)).refusals ≡ first_in l.first (check_all (around_in l.around) l.variables (statements_of (drop l.s-index l.body))).refusals;
}

abbrev pub invariant-check_arms-loop-arm : goal.invariant-check_arms-loop-arm
invariant-check_arms-loop-arm l = record {
  seen : (check_arms (around_in l.around) l.initial.variables (arms_of l.arms)).variables ≡ (check_arms (around_in l.around) l.variables (arms_of (drop l.arm-index l.arms))).variables;
  refusals : first_in l.initial.first (check_arms (around_in l.around) l.initial.variables (arms_of l.arms)).refusals ≡ first_in l.first (check_arms (around_in l.around) l.variables (arms_of (drop l.arm-index l.arms))).refusals;
}
