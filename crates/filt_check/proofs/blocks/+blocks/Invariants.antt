use Rattle.std.proofs.Common.{◌≡◌, ◌≤◌, ◌+◌, ◌*◌, ◌++◌, List, drop, length}
use Rattle.conf_ast.specs.Filters.{statements_of}
use Rattle.filt_meaning.specs.declared.scope.TFunction.{TFunction}
use Rattle.filt_meaning.specs.Meaning.{all_declared}
use Rattle.filt_meaning.specs.Steps.{arms_steps, body_steps}
use Rattle.filt_types.specs.Seen.{scene_of}
use Rattle.filt_types.specs.Walk.{arms_of}
use Rattle.filt_types.specs.Weight.{acts_weight, arms_weight}
use Rattle.filt_types.proofs.Cost as k
use Rattle.filt_meaning.specs.Names.{Around}
use Rattle.filt_meaning.specs.Scopes.{context_of, tables_of}
use Rattle.filt_meaning.specs.Trees as trees
use Rattle.filt_check.specs.Seen.{acts_in, arms_declare, arms_in, arms_seen}
use Rattle.filt_resolve.specs.Steps.{calls}
use Rattle.filt_check.proofs.blocks.+blocks.Given as goal

abbrev pub decreases-resolve_statement : goal.decreases-resolve_statement
decreases-resolve_statement l = k.stmt_cost l.s.now

abbrev pub decreases-boxed : goal.decreases-boxed
decreases-boxed l = k.stmt_cost l.s.now + 1

abbrev pub decreases-resolve_block : goal.decreases-resolve_block
decreases-resolve_block l = k.stmts_cost l.body.now + 1

abbrev pub decreases-braced : goal.decreases-braced
decreases-braced l = k.stmts_cost l.body.now + 2

abbrev pub decreases-resolve_all : goal.decreases-resolve_all
decreases-resolve_all l = k.stmts_cost l.body.now

abbrev pub decreases-if_then : goal.decreases-if_then
decreases-if_then l = k.stmt_cost l.first.now + 3

abbrev pub decreases-if_else : goal.decreases-if_else
decreases-if_else l = k.stmt_cost l.first.now + k.stmt_cost l.second.now + 3

abbrev pub decreases-case : goal.decreases-case
decreases-case l = k.arms_cost l.arms.now + k.otherwise_cost l.otherwise.now + 3

abbrev pub decreases-resolve_otherwise : goal.decreases-resolve_otherwise
decreases-resolve_otherwise l = k.otherwise_cost l.otherwise.now + 1

abbrev pub decreases-resolve_arm : goal.decreases-resolve_arm
decreases-resolve_arm l = k.arm_cost l.arm.now + 1

abbrev pub decreases-resolve_arms : goal.decreases-resolve_arms
decreases-resolve_arms l = k.arms_cost l.arms.now

abbrev pub decreases-each : goal.decreases-each
decreases-each l = k.stmt_cost l.body.now + 3

abbrev pub invariant-resolve_all-loop-s : goal.invariant-resolve_all-loop-s
invariant-resolve_all-loop-s l =
    ((around : Around) → trees.stmts (tables_of around l.scope) l.all.items ++ acts_in (context_of l.text around l.scope l.names) (drop l.s-index l.body) ≡ acts_in (context_of l.text around l.scope l.names) l.body)
    × ((more : List TFunction) → length (all_declared l.text (statements_of l.body)) + body_steps (calls l.scope more) l.all.items + 5 * acts_weight (scene_of l.text l.scope) (statements_of (drop l.s-index l.body)) ≤ 5 * acts_weight (scene_of l.text l.scope) (statements_of l.body) + length (all_declared l.text (statements_of (drop l.s-index l.body))))

abbrev pub invariant-resolve_arms-loop-arm : goal.invariant-resolve_arms-loop-arm
invariant-resolve_arms-loop-arm l =
    ((around : Around) → arms_seen (tables_of around l.scope) l.all.items ++ arms_in (context_of l.text around l.scope l.names) (drop l.arm-index l.arms) ≡ arms_in (context_of l.text around l.scope l.names) l.arms)
    × ((more : List TFunction) → length (arms_declare l.text l.arms) + arms_steps (calls l.scope more) l.all.items + 5 * arms_weight (scene_of l.text l.scope) (arms_of (drop l.arm-index l.arms)) ≤ 5 * arms_weight (scene_of l.text l.scope) (arms_of l.arms) + length (arms_declare l.text (drop l.arm-index l.arms)))
