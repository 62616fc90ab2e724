use Rattle.std.proofs.Common.{◌≡◌, ◌≤◌, ◌+◌, ◌*◌, ◌++◌, List, drop, map}
use Rattle.filt_types.proofs.Cost as k
use Rattle.filt_meaning.specs.Names.{Around}
use Rattle.filt_meaning.specs.Scopes.{context_of, tables_of}
use Rattle.filt_meaning.specs.Trees as trees
use Rattle.filt_meaning.specs.declared.scope.TFunction.{TFunction}
use Rattle.filt_meaning.specs.Steps.{expr_steps, sum_over}
use Rattle.filt_types.specs.Seen.{scene_of}
use Rattle.filt_resolve.specs.Seen.{accesses_in, values_in, parts_in}
use Rattle.filt_resolve.specs.Steps.{calls, dots_steps, dots_weight, given_weight, parts_steps, parts_weight}
use Rattle.filt_resolve.proofs.expressions.+resolve.Given as goal

abbrev pub decreases-resolve : goal.decreases-resolve
decreases-resolve l = k.cost l.e.now

abbrev pub decreases-boxed : goal.decreases-boxed
decreases-boxed l = k.cost l.e.now + 1

abbrev pub decreases-pair : goal.decreases-pair
decreases-pair l = k.cost l.first.now + k.cost l.second.now + 3

abbrev pub decreases-method_of : goal.decreases-method_of
decreases-method_of l = k.cost l.list.now + k.cost l.argument.now + 3

abbrev pub decreases-compare : goal.decreases-compare
decreases-compare l = k.cost l.left.now + k.cost l.right.now + 3

abbrev pub decreases-resolve_all : goal.decreases-resolve_all
decreases-resolve_all l = k.costs l.given.now

abbrev pub decreases-access : goal.decreases-access
decreases-access l = k.cost l.operand.now + k.accesses_cost l.more.now + 3

abbrev pub decreases-resolve_access : goal.decreases-resolve_access
decreases-resolve_access l = k.access_cost l.access.now + 1

abbrev pub decreases-resolve_accesses : goal.decreases-resolve_accesses
decreases-resolve_accesses l = k.accesses_cost l.more.now

abbrev pub decreases-product : goal.decreases-product
decreases-product l = k.cost l.operand.now + k.operands_cost l.more.now + 3

abbrev pub decreases-resolve_factors : goal.decreases-resolve_factors
decreases-resolve_factors l = k.operands_cost l.more.now

abbrev pub decreases-sum : goal.decreases-sum
decreases-sum l = k.cost l.operand.now + k.operands_cost l.more.now + 3

abbrev pub decreases-resolve_terms : goal.decreases-resolve_terms
decreases-resolve_terms l = k.operands_cost l.more.now

abbrev pub decreases-joint : goal.decreases-joint
decreases-joint l = k.cost l.operand.now + k.operands_cost l.more.now + 3

abbrev pub decreases-resolve_joints : goal.decreases-resolve_joints
decreases-resolve_joints l = k.operands_cost l.more.now

abbrev pub invariant-resolve_all-loop-e : goal.invariant-resolve_all-loop-e
invariant-resolve_all-loop-e l =
    ((around : Around) → trees.exprs (tables_of around l.scope) l.all.items ++ values_in (context_of l.text around l.scope l.names) (drop l.e-index l.given) ≡ values_in (context_of l.text around l.scope l.names) l.given)
    × ((more : List TFunction) → sum_over 1 (map (expr_steps (calls l.scope more)) l.all.items) + 5 * given_weight (scene_of l.text l.scope) (drop l.e-index l.given) ≤ 5 * given_weight (scene_of l.text l.scope) l.given)

abbrev pub invariant-resolve_accesses-loop-access : goal.invariant-resolve_accesses-loop-access
invariant-resolve_accesses-loop-access l =
    ((around : Around) → trees.accesses_of (tables_of around l.scope) l.all.items ++ accesses_in (context_of l.text around l.scope l.names) (drop l.access-index l.more) ≡ accesses_in (context_of l.text around l.scope l.names) l.more)
    × ((more : List TFunction) → dots_steps (calls l.scope more) l.all.items + 5 * dots_weight (scene_of l.text l.scope) (drop l.access-index l.more) ≤ 5 * dots_weight (scene_of l.text l.scope) l.more)

abbrev pub invariant-resolve_factors-loop-x : goal.invariant-resolve_factors-loop-x
invariant-resolve_factors-loop-x l =
    ((around : Around) → trees.parts (tables_of around l.scope) l.all.items ++ parts_in (context_of l.text around l.scope l.names) (drop l.x-index l.more) ≡ parts_in (context_of l.text around l.scope l.names) l.more)
    × ((more : List TFunction) → parts_steps 1 (calls l.scope more) l.all.items + 5 * parts_weight (scene_of l.text l.scope) (drop l.x-index l.more) ≤ 5 * parts_weight (scene_of l.text l.scope) l.more)

abbrev pub invariant-resolve_terms-loop-x : goal.invariant-resolve_terms-loop-x
invariant-resolve_terms-loop-x l =
    ((around : Around) → trees.parts (tables_of around l.scope) l.all.items ++ parts_in (context_of l.text around l.scope l.names) (drop l.x-index l.more) ≡ parts_in (context_of l.text around l.scope l.names) l.more)
    × ((more : List TFunction) → parts_steps 1 (calls l.scope more) l.all.items + 5 * parts_weight (scene_of l.text l.scope) (drop l.x-index l.more) ≤ 5 * parts_weight (scene_of l.text l.scope) l.more)

abbrev pub invariant-resolve_joints-loop-x : goal.invariant-resolve_joints-loop-x
invariant-resolve_joints-loop-x l =
    ((around : Around) → trees.parts (tables_of around l.scope) l.all.items ++ parts_in (context_of l.text around l.scope l.names) (drop l.x-index l.more) ≡ parts_in (context_of l.text around l.scope l.names) l.more)
    × ((more : List TFunction) → parts_steps 2 (calls l.scope more) l.all.items + 5 * parts_weight (scene_of l.text l.scope) (drop l.x-index l.more) ≤ 5 * parts_weight (scene_of l.text l.scope) l.more)
