use Rattle.std.proofs.Common.{◌≡◌, ◌+◌, ◌++◌, drop}
use Rattle.conf_ast.specs.Filters.{statements_of}
use Rattle.filt_meaning.specs.Meaning.{all_declared}
use Rattle.filt_types.proofs.Cost as k
use Rattle.filt_check.specs.Seen.{variables_of, arms_declare}
use Rattle.filt_check.proofs.collect.+collect.Given as goal

abbrev pub decreases-collect : goal.decreases-collect
decreases-collect l = k.stmt_cost l.s.now

abbrev pub decreases-collect_all : goal.decreases-collect_all
decreases-collect_all l = k.stmts_cost l.body.now

abbrev pub decreases-collect_arms : goal.decreases-collect_arms
decreases-collect_arms l = k.arms_cost l.arms.now

abbrev pub decreases-collect_otherwise : goal.decreases-collect_otherwise
decreases-collect_otherwise l = k.otherwise_cost l.otherwise.now + 1

abbrev pub invariant-collect_all-loop-s : goal.invariant-collect_all-loop-s
invariant-collect_all-loop-s l = variables_of l.out.items ++ all_declared l.text (statements_of (drop l.s-index l.body)) ≡ variables_of l.initial.out.items ++ all_declared l.text (statements_of l.body)

abbrev pub invariant-collect_arms-loop-arm : goal.invariant-collect_arms-loop-arm
invariant-collect_arms-loop-arm l = variables_of l.out.items ++ arms_declare l.text (drop l.arm-index l.arms) ≡ variables_of l.initial.out.items ++ arms_declare l.text l.arms
