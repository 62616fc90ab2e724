use Rattle.std.proofs.Common.{◌≡◌, ◌+◌, ◌&&◌, drop}
use Rattle.filt_types.specs.Expressions.{arguments_fit, all_refusals}
use Rattle.filt_types.specs.Refusals.{first_in}
use Rattle.filt_meaning.specs.Rules.{arithmetic, joining}
use Rattle.filt_types.specs.Walk.{bare, said_of}
use Rattle.filt_types.proofs.Cost.{cost, costs, operands_cost, access_cost, accesses_cost}
use Rattle.filt_types.proofs.Judging.{walk, link, reach, each_wanted, of_exprs}
use Rattle.filt_types.proofs.expressions.+expressions.Given as goal

abbrev pub decreases-judge : goal.decreases-judge
decreases-judge l = cost l.e.now

abbrev pub decreases-with_right : goal.decreases-with_right
decreases-with_right l = cost l.e.now + 1

abbrev pub decreases-method_call : goal.decreases-method_call
decreases-method_call l = cost l.list.now + cost l.argument.now + 2

abbrev pub decreases-factors : goal.decreases-factors
decreases-factors l = cost l.operand.now + operands_cost l.more.now + 3

abbrev pub decreases-terms : goal.decreases-terms
decreases-terms l = cost l.operand.now + operands_cost l.more.now + 3

abbrev pub decreases-joints : goal.decreases-joints
decreases-joints l = cost l.operand.now + operands_cost l.more.now + 3

abbrev pub decreases-accesses : goal.decreases-accesses
decreases-accesses l = cost l.operand.now + accesses_cost l.more.now + 3

abbrev pub decreases-access : goal.decreases-access
decreases-access l = access_cost l.part.now + 2

abbrev pub decreases-pair : goal.decreases-pair
decreases-pair l = cost l.left.now + cost l.right.now + 3

abbrev pub decreases-called : goal.decreases-called
decreases-called l = costs l.arguments.now + 4

abbrev pub decreases-call : goal.decreases-call
decreases-call l = costs l.arguments.now + 3

abbrev pub decreases-call_of : goal.decreases-call_of
decreases-call_of l = costs l.arguments.now + 2

abbrev pub decreases-judge_each : goal.decreases-judge_each
decreases-judge_each l = costs l.es.now + 1

abbrev pub decreases-arguments_are : goal.decreases-arguments_are
decreases-arguments_are l = costs l.arguments.now + 1

abbrev pub invariant-factors-loop-x : goal.invariant-factors-loop-x
invariant-factors-loop-x l = record {
  judged : said_of (walk (link l.seen arithmetic) (bare l.initial.left) l.more) ≡ said_of (walk (link l.seen arithmetic) (bare l.left) (drop l.x-index l.more));
  first : first_in l.initial.first (walk (link l.seen arithmetic) (bare l.initial.left) l.more).refusals ≡ first_in l.first (walk (link l.seen arithmetic) (bare l.left) (drop l.x-index l.more)).refusals;
}

abbrev pub invariant-terms-loop-x : goal.invariant-terms-loop-x
invariant-terms-loop-x l = record {
  judged : said_of (walk (link l.seen arithmetic) (bare l.initial.left) l.more) ≡ said_of (walk (link l.seen arithmetic) (bare l.left) (drop l.x-index l.more));
  first : first_in l.initial.first (walk (link l.seen arithmetic) (bare l.initial.left) l.more).refusals ≡ first_in l.first (walk (link l.seen arithmetic) (bare l.left) (drop l.x-index l.more)).refusals;
}

abbrev pub invariant-joints-loop-x : goal.invariant-joints-loop-x
invariant-joints-loop-x l = record {
  judged : said_of (walk (link l.seen joining) (bare l.initial.left) l.more) ≡ said_of (walk (link l.seen joining) (bare l.left) (drop l.x-index l.more));
  first : first_in l.initial.first (walk (link l.seen joining) (bare l.initial.left) l.more).refusals ≡ first_in l.first (walk (link l.seen joining) (bare l.left) (drop l.x-index l.more)).refusals;
}

abbrev pub invariant-accesses-loop-x : goal.invariant-accesses-loop-x
invariant-accesses-loop-x l = record {
  judged : said_of (walk (reach l.seen) (bare l.initial.left) l.more) ≡ said_of (walk (reach l.seen) (bare l.left) (drop l.x-index l.more));
  first : first_in l.initial.first (walk (reach l.seen) (bare l.initial.left) l.more).refusals ≡ first_in l.first (walk (reach l.seen) (bare l.left) (drop l.x-index l.more)).refusals;
}

abbrev pub invariant-judge_each-loop-e : goal.invariant-judge_each-loop-e
invariant-judge_each-loop-e l =
    first_in l.initial.first (all_refusals (of_exprs l.seen l.es)) ≡ first_in l.first (all_refusals (of_exprs l.seen (drop l.e-index l.es)))

abbrev pub invariant-arguments_are-loop-e : goal.invariant-arguments_are-loop-e
invariant-arguments_are-loop-e l = record {
  fit : arguments_fit l.parameters (of_exprs l.seen l.arguments) ≡ (l.fit && arguments_fit l.rest (of_exprs l.seen (drop l.e-index l.arguments)));
  first : first_in l.initial.first (each_wanted l.parameters (of_exprs l.seen l.arguments)) ≡ first_in l.first (each_wanted l.rest (of_exprs l.seen (drop l.e-index l.arguments)));
}
