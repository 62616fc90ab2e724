use Rattle.std.proofs.Common.{◌-◌, ◌+◌, List, length, drop, map, refl, ap, ◌∙◌, arith}
use Rattle.filt_meaning.specs.Steps.{expr_steps, exprs_steps}
use Rattle.filt_compile.proofs.Spending as sp
use Rattle.std.proofs.lemmas.Result.{on_ok_weaker}
use Rattle.conf_ast.specs.declared.filters.MulOp.{MulOp}
use Rattle.conf_ast.specs.declared.filters.LogicalOp.{LogicalOp}
use Rattle.conf_ast.specs.declared.filters.AddOp.{AddOp}
use Rattle.filt_meaning.specs.declared.tree.TAccess.{TAccess}
use Rattle.filt_meaning.specs.declared.tree.TExpr.{TExpr}
use Rattle.filt_meaning.specs.Values.{Val}
use Rattle.filt_meaning.specs.Flow.{Run}
use Rattle.filt_meaning.specs.Trees as trees
use Rattle.filt_code.specs.declared.instr.OfTwo.TheVariants as of_two
use Rattle.filt_compile.specs.Emits.{ahead}
use Rattle.filt_compile.specs.Parts.{part_of, part_of_access, part_steps, parts_of, parts_steps, Joined, Two}
use Rattle.filt_meaning.proofs.Size as size
use Rattle.filt_compile.proofs.Cost as k
use Rattle.filt_compile.proofs.Emitting as em
use Rattle.filt_compile.proofs.Walk as w
use Rattle.filt_compile.proofs.value.+emit.Goals as goal

pub value-returns-in-Value : goal.value-returns-in-Value
value-returns-in-Value t c =
    on_ok_weaker c.push.result (λ is. (em.value_puts c.args.seen.now c.args.e.now _ c.in-Value.known (ahead c.args.out.now) (ahead c.push.new.out) is refl c.in-Value.is, sp.adds_as (λ called. 1) (λ called. expr_steps called c.args.e.now) (ahead c.args.out.now) (ahead c.push.new.out) (λ called. sp.value_steps called c.in-Value.known c.args.e.now c.in-Value.is) (sp.adds_do _ (ahead c.args.out.now) (ahead c.push.new.out) is))) c.push.ensures

pub value-returns-in-Local : goal.value-returns-in-Local
value-returns-in-Local t c =
    on_ok_weaker c.push-in-Local.result (λ is. (em.local_puts c.args.seen.now c.args.e.now c.in-Local.place (ahead c.args.out.now) (ahead c.push-in-Local.new.out) is c.in-Local.is, sp.adds_as (λ called. 1) (λ called. expr_steps called c.args.e.now) (ahead c.args.out.now) (ahead c.push-in-Local.new.out) (λ called. sp.local_steps called c.in-Local.place c.args.e.now c.in-Local.is) (sp.adds_do _ (ahead c.args.out.now) (ahead c.push-in-Local.new.out) is))) c.push-in-Local.ensures

pub value-returns-in-Attribute : goal.value-returns-in-Attribute
value-returns-in-Attribute t c =
    on_ok_weaker c.push-in-Attribute.result (λ is. (em.attribute_puts c.args.seen.now c.args.e.now c.in-Attribute.a (ahead c.args.out.now) (ahead c.push-in-Attribute.new.out) is c.in-Attribute.is, sp.adds_as (λ called. 1) (λ called. expr_steps called c.args.e.now) (ahead c.args.out.now) (ahead c.push-in-Attribute.new.out) (λ called. sp.attribute_steps called c.in-Attribute.a c.args.e.now c.in-Attribute.is) (sp.adds_do _ (ahead c.args.out.now) (ahead c.push-in-Attribute.new.out) is))) c.push-in-Attribute.ensures

pub value-returns-in-Defined : goal.value-returns-in-Defined
value-returns-in-Defined t c =
    on_ok_weaker c.push-in-Defined.result (λ is. (em.defined_puts c.args.seen.now c.args.e.now c.in-Defined.a (ahead c.args.out.now) (ahead c.push-in-Defined.new.out) is c.in-Defined.is, sp.adds_as (λ called. 1) (λ called. expr_steps called c.args.e.now) (ahead c.args.out.now) (ahead c.push-in-Defined.new.out) (λ called. sp.defined_steps called c.in-Defined.a c.args.e.now c.in-Defined.is) (sp.adds_do _ (ahead c.args.out.now) (ahead c.push-in-Defined.new.out) is))) c.push-in-Defined.ensures

pub value-returns-in-Default : goal.value-returns-in-Default
value-returns-in-Default t c =
    on_ok_weaker c.push-in-Default.result (λ is. (em.default_puts c.args.seen.now c.args.e.now c.in-Default.sort (ahead c.args.out.now) (ahead c.push-in-Default.new.out) is c.in-Default.is, sp.adds_as (λ called. 1) (λ called. expr_steps called c.args.e.now) (ahead c.args.out.now) (ahead c.push-in-Default.new.out) (λ called. sp.default_steps called c.in-Default.sort c.args.e.now c.in-Default.is) (sp.adds_do _ (ahead c.args.out.now) (ahead c.push-in-Default.new.out) is))) c.push-in-Default.ensures

pub value-returns-in-Stuck : goal.value-returns-in-Stuck
value-returns-in-Stuck t c =
    on_ok_weaker c.push-in-Stuck.result (λ is. (em.stuck_puts c.args.seen.now c.args.e.now (ahead c.args.out.now) (ahead c.push-in-Stuck.new.out) is c.in-Stuck.is, sp.adds_as (λ called. 1) (λ called. expr_steps called c.args.e.now) (ahead c.args.out.now) (ahead c.push-in-Stuck.new.out) (λ called. sp.stuck_steps called c.args.e.now c.in-Stuck.is) (sp.adds_last _ (ahead c.args.out.now) (ahead c.push-in-Stuck.new.out) is (λ fs. refl)))) c.push-in-Stuck.ensures

pub value-returns-in-Constant : goal.value-returns-in-Constant
value-returns-in-Constant t c =
    on_ok_weaker c.constant.result (λ p. (em.puts_as c.args.seen.now _ (λ u. trees.expr c.args.e.now u) (ahead c.args.out.now) (ahead c.constant.new.out) (λ u vals attrs. ap (λ (f : Run Val). f vals attrs) (w.constant_is c.in-Constant.number c.args.e.now u c.in-Constant.is)) p.0, sp.adds_as (λ called. 1) (λ called. expr_steps called c.args.e.now) (ahead c.args.out.now) (ahead c.constant.new.out) (λ called. sp.constant_steps called c.in-Constant.number c.args.e.now c.in-Constant.is) p.1)) c.constant.ensures

pub value-returns-in-Call : goal.value-returns-in-Call
value-returns-in-Call t c =
    on_ok_weaker c.call.result (λ p. (em.puts_as c.args.seen.now _ (λ u. trees.expr c.args.e.now u) (ahead c.args.out.now) (ahead c.call.new.out) (λ u vals attrs. w.called_is u c.in-Call.number c.in-Call.es c.args.e.now c.deref.result.now vals attrs c.in-Call.is c.deref.ensures.value) p.0, sp.adds_as _ (λ called. expr_steps called c.args.e.now) (ahead c.args.out.now) (ahead c.call.new.out) (λ called. sp.call_steps called c.in-Call.number c.in-Call.es c.args.e.now c.deref.result.now c.in-Call.is c.deref.ensures.value) p.1)) c.call.ensures

pub value-returns-in-Test : goal.value-returns-in-Test
value-returns-in-Test t c =
    on_ok_weaker c.test.result (λ p. (em.puts_as c.args.seen.now _ (λ u. trees.expr c.args.e.now u) (ahead c.args.out.now) (ahead c.test.new.out) (λ u vals attrs. w.test_is u c.in-Test.what c.args.e.now vals attrs c.in-Test.is) p.0, sp.adds_as (λ called. 3) (λ called. expr_steps called c.args.e.now) (ahead c.args.out.now) (ahead c.test.new.out) (λ called. sp.test_steps called c.in-Test.what c.args.e.now c.in-Test.is) p.1)) c.test.ensures

pub value-chain-requires-in-Access : goal.value-chain-requires-in-Access
value-chain-requires-in-Access t c =
    (omega (arith, ap k.cost c.in-Access.is, k.cost-Access c.in-Access.a c.in-Access.more, ap k.cost c.deref-in-Access.ensures, ap (λ (xs : List (TAccess TExpr)). k.parts_cost (map part_of_access xs)) c.deref-in-Access-2.ensures.value), tt)

pub value-returns-in-Access : goal.value-returns-in-Access
value-returns-in-Access t c =
    on_ok_weaker c.chain-in-Access.result (λ p. (em.puts_as c.args.seen.now _ (λ u. trees.expr c.args.e.now u) (ahead c.args.out.now) (ahead c.chain-in-Access.new.out) (λ u vals attrs. w.access_is u c.in-Access.a c.in-Access.more c.args.e.now c.deref-in-Access.result.now c.deref-in-Access-2.result.now vals attrs c.in-Access.is c.deref-in-Access.ensures c.deref-in-Access-2.ensures.value) p.0, sp.adds_as _ (λ called. expr_steps called c.args.e.now) (ahead c.args.out.now) (ahead c.chain-in-Access.new.out) (λ called. sp.access_steps called c.in-Access.a c.in-Access.more c.args.e.now c.deref-in-Access.result.now c.deref-in-Access-2.result.now c.in-Access.is c.deref-in-Access.ensures c.deref-in-Access-2.ensures.value) p.1)) c.chain-in-Access.ensures

pub value-chain-requires-in-Product : goal.value-chain-requires-in-Product
value-chain-requires-in-Product t c =
    (omega (arith, ap k.cost c.in-Product.is, k.cost-Product c.in-Product.a c.in-Product.more, ap k.cost c.deref-in-Product.ensures, ap (λ (xs : List (MulOp × TExpr)). k.parts_cost (map (λ x. Two (of_two.Factor x.0) x.1) xs)) c.deref-in-Product-2.ensures.value), tt)

pub value-returns-in-Product : goal.value-returns-in-Product
value-returns-in-Product t c =
    on_ok_weaker c.chain-in-Product.result (λ p. (em.puts_as c.args.seen.now _ (λ u. trees.expr c.args.e.now u) (ahead c.args.out.now) (ahead c.chain-in-Product.new.out) (λ u vals attrs. w.product_is u c.in-Product.a c.in-Product.more c.args.e.now c.deref-in-Product.result.now c.deref-in-Product-2.result.now vals attrs c.in-Product.is c.deref-in-Product.ensures c.deref-in-Product-2.ensures.value) p.0, sp.adds_as _ (λ called. expr_steps called c.args.e.now) (ahead c.args.out.now) (ahead c.chain-in-Product.new.out) (λ called. sp.product_steps called c.in-Product.a c.in-Product.more c.args.e.now c.deref-in-Product.result.now c.deref-in-Product-2.result.now c.in-Product.is c.deref-in-Product.ensures c.deref-in-Product-2.ensures.value) p.1)) c.chain-in-Product.ensures

pub value-chain-requires-in-Sum : goal.value-chain-requires-in-Sum
value-chain-requires-in-Sum t c =
    (omega (arith, ap k.cost c.in-Sum.is, k.cost-Sum c.in-Sum.a c.in-Sum.more, ap k.cost c.deref-in-Sum.ensures, ap (λ (xs : List (AddOp × TExpr)). k.parts_cost (map (λ x. Two (of_two.Term x.0) x.1) xs)) c.deref-in-Sum-2.ensures.value), tt)

pub value-returns-in-Sum : goal.value-returns-in-Sum
value-returns-in-Sum t c =
    on_ok_weaker c.chain-in-Sum.result (λ p. (em.puts_as c.args.seen.now _ (λ u. trees.expr c.args.e.now u) (ahead c.args.out.now) (ahead c.chain-in-Sum.new.out) (λ u vals attrs. w.sum_is u c.in-Sum.a c.in-Sum.more c.args.e.now c.deref-in-Sum.result.now c.deref-in-Sum-2.result.now vals attrs c.in-Sum.is c.deref-in-Sum.ensures c.deref-in-Sum-2.ensures.value) p.0, sp.adds_as _ (λ called. expr_steps called c.args.e.now) (ahead c.args.out.now) (ahead c.chain-in-Sum.new.out) (λ called. sp.sum_steps called c.in-Sum.a c.in-Sum.more c.args.e.now c.deref-in-Sum.result.now c.deref-in-Sum-2.result.now c.in-Sum.is c.deref-in-Sum.ensures c.deref-in-Sum-2.ensures.value) p.1)) c.chain-in-Sum.ensures

pub value-chain-requires-in-Joint : goal.value-chain-requires-in-Joint
value-chain-requires-in-Joint t c =
    (omega (arith, ap k.cost c.in-Joint.is, k.cost-Joint c.in-Joint.a c.in-Joint.more, ap k.cost c.deref-in-Joint.ensures, ap (λ (xs : List (LogicalOp × TExpr)). k.parts_cost (map (λ x. Joined x.0 x.1) xs)) c.deref-in-Joint-2.ensures.value), tt)

pub value-returns-in-Joint : goal.value-returns-in-Joint
value-returns-in-Joint t c =
    on_ok_weaker c.chain-in-Joint.result (λ p. (em.puts_as c.args.seen.now _ (λ u. trees.expr c.args.e.now u) (ahead c.args.out.now) (ahead c.chain-in-Joint.new.out) (λ u vals attrs. w.joint_is u c.in-Joint.a c.in-Joint.more c.args.e.now c.deref-in-Joint.result.now c.deref-in-Joint-2.result.now vals attrs c.in-Joint.is c.deref-in-Joint.ensures c.deref-in-Joint-2.ensures.value) p.0, sp.adds_as _ (λ called. expr_steps called c.args.e.now) (ahead c.args.out.now) (ahead c.chain-in-Joint.new.out) (λ called. sp.joint_steps called c.in-Joint.a c.in-Joint.more c.args.e.now c.deref-in-Joint.result.now c.deref-in-Joint-2.result.now c.in-Joint.is c.deref-in-Joint.ensures c.deref-in-Joint-2.ensures.value) p.1)) c.chain-in-Joint.ensures

pub value-returns-in-Pair : goal.value-returns-in-Pair
value-returns-in-Pair t c =
    on_ok_weaker c.chain.result (λ p. (em.puts_as c.args.seen.now _ (λ u. trees.expr c.args.e.now u) (ahead c.args.out.now) (ahead c.chain.new.out) (λ u vals attrs. w.pair_is u c.in-Pair.a c.in-Pair.b c.args.e.now c.deref-in-Pair.result.now c.deref-in-Pair-2.result.now vals attrs c.in-Pair.is c.deref-in-Pair.ensures c.deref-in-Pair-2.ensures) p.0, sp.adds_as _ (λ called. expr_steps called c.args.e.now) (ahead c.args.out.now) (ahead c.chain.new.out) (λ called. sp.pair_steps called c.in-Pair.a c.in-Pair.b c.args.e.now c.deref-in-Pair.result.now c.deref-in-Pair-2.result.now c.in-Pair.is c.deref-in-Pair.ensures c.deref-in-Pair-2.ensures) p.1)) c.chain.ensures

pub value-returns-in-Method : goal.value-returns-in-Method
value-returns-in-Method t c =
    on_ok_weaker c.chain-in-Method.result (λ p. (em.puts_as c.args.seen.now _ (λ u. trees.expr c.args.e.now u) (ahead c.args.out.now) (ahead c.chain-in-Method.new.out) (λ u vals attrs. w.method_is u c.in-Method.kind c.in-Method.a c.in-Method.b c.args.e.now c.deref-in-Method.result.now c.deref-in-Method-2.result.now vals attrs c.in-Method.is c.deref-in-Method.ensures c.deref-in-Method-2.ensures) p.0, sp.adds_as _ (λ called. expr_steps called c.args.e.now) (ahead c.args.out.now) (ahead c.chain-in-Method.new.out) (λ called. sp.method_steps called c.in-Method.kind c.in-Method.a c.in-Method.b c.args.e.now c.deref-in-Method.result.now c.deref-in-Method-2.result.now c.in-Method.is c.deref-in-Method.ensures c.deref-in-Method-2.ensures) p.1)) c.chain-in-Method.ensures

pub value-returns-in-Compare : goal.value-returns-in-Compare
value-returns-in-Compare t c =
    on_ok_weaker c.chain-in-Compare.result (λ p. (em.puts_as c.args.seen.now _ (λ u. trees.expr c.args.e.now u) (ahead c.args.out.now) (ahead c.chain-in-Compare.new.out) (λ u vals attrs. w.compare_is u c.in-Compare.compare c.in-Compare.a c.in-Compare.b c.args.e.now c.deref-in-Compare.result.now c.deref-in-Compare-2.result.now vals attrs c.in-Compare.is c.deref-in-Compare.ensures c.deref-in-Compare-2.ensures) p.0, sp.adds_as _ (λ called. expr_steps called c.args.e.now) (ahead c.args.out.now) (ahead c.chain-in-Compare.new.out) (λ called. sp.compare_steps called c.in-Compare.compare c.in-Compare.a c.in-Compare.b c.args.e.now c.deref-in-Compare.result.now c.deref-in-Compare-2.result.now c.in-Compare.is c.deref-in-Compare.ensures c.deref-in-Compare-2.ensures) p.1)) c.chain-in-Compare.ensures

pub value-returns-in-Empty : goal.value-returns-in-Empty
value-returns-in-Empty t c =
    on_ok_weaker c.chain-in-Empty.result (λ p. (em.puts_as c.args.seen.now _ (λ u. trees.expr c.args.e.now u) (ahead c.args.out.now) (ahead c.chain-in-Empty.new.out) (λ u vals attrs. w.empty_is u c.in-Empty.a c.args.e.now c.deref-in-Empty.result.now vals attrs c.in-Empty.is c.deref-in-Empty.ensures) p.0, sp.adds_as _ (λ called. expr_steps called c.args.e.now) (ahead c.args.out.now) (ahead c.chain-in-Empty.new.out) (λ called. sp.empty_steps called c.in-Empty.a c.args.e.now c.deref-in-Empty.result.now c.in-Empty.is c.deref-in-Empty.ensures) p.1)) c.chain-in-Empty.ensures

pub value-returns-in-Not : goal.value-returns-in-Not
value-returns-in-Not t c =
    on_ok_weaker c.chain-in-Not.result (λ p. (em.puts_as c.args.seen.now _ (λ u. trees.expr c.args.e.now u) (ahead c.args.out.now) (ahead c.chain-in-Not.new.out) (λ u vals attrs. w.not_is u c.in-Not.a c.args.e.now c.deref-in-Not.result.now vals attrs c.in-Not.is c.deref-in-Not.ensures) p.0, sp.adds_as _ (λ called. expr_steps called c.args.e.now) (ahead c.args.out.now) (ahead c.chain-in-Not.new.out) (λ called. sp.not_steps called c.in-Not.a c.args.e.now c.deref-in-Not.result.now c.in-Not.is c.deref-in-Not.ensures) p.1)) c.chain-in-Not.ensures

pub chain-loop-n-preserved : goal.chain-loop-n-preserved
chain-loop-n-preserved t c =
    record {
      low = omega (arith, c.loop-n.invariant.low);
      made = em.makes_at c.args.seen.now (parts_of c.args.rest) c.loop-n.n (part_of c.step.result) (ahead c.args.out.now) (ahead c.loop-n.out) (ahead c.apply.new.out) (omega (arith, c.loop-n-test.true)) c.step.ensures c.loop-n.invariant.made c.in_ok-apply.ensures.0;
      cheap = sp.adds_more parts_steps part_steps (drop c.loop-n.n (parts_of c.args.rest)) (drop (c.loop-n.n - 1) (parts_of c.args.rest)) (part_of c.step.result) (ahead c.args.out.now) (ahead c.loop-n.out) (ahead c.apply.new.out) (λ called. refl) (sp.next_found (parts_of c.args.rest) c.loop-n.n (part_of c.step.result) (omega (arith, c.loop-n-test.true)) c.step.ensures) c.loop-n.invariant.cheap c.in_ok-apply.ensures.1;
    }

pub chain-returns : goal.chain-returns
chain-returns t c =
    on_ok_weaker c.value.result (λ p. (em.chain_puts_at c.args.seen.now c.args.first.now (parts_of c.args.rest) c.loop-n.n (ahead c.args.out.now) (ahead c.loop-n.out) (ahead c.value.new.out) (omega (arith, c.loop-n-test.false)) c.loop-n.invariant.made p.0, sp.adds_both (λ called. expr_steps called c.args.first.now) (λ called. parts_steps called (parts_of c.args.rest)) (ahead c.args.out.now) (ahead c.loop-n.out) (ahead c.value.new.out) (sp.adds_end parts_steps (parts_of c.args.rest) c.loop-n.n (ahead c.args.out.now) (ahead c.loop-n.out) (omega (arith, c.loop-n-test.false)) c.loop-n.invariant.cheap) p.1)) c.value.ensures

pub apply-returns-in-One : goal.apply-returns-in-One
apply-returns-in-One t c =
    on_ok_weaker c.push.result (λ is. (em.makes_part c.args.seen.now (part_of c.args.step) _ (ahead c.args.out.now) (ahead c.push.new.out) (ap part_of c.in-One.is) (em.one_makes c.args.seen.now c.in-One.operator (ahead c.args.out.now) (ahead c.push.new.out) is), sp.adds_as (λ called. 1) (λ called. part_steps called (part_of c.args.step)) (ahead c.args.out.now) (ahead c.push.new.out) (λ called. sp.same_at_most (λ x. part_steps called x) (part_of c.args.step) _ (ap part_of c.in-One.is)) (sp.adds_do _ (ahead c.args.out.now) (ahead c.push.new.out) is))) c.push.ensures

pub apply-returns-in_ok-push-in-Two : goal.apply-returns-in_ok-push-in-Two
apply-returns-in_ok-push-in-Two t c =
    on_ok_weaker c.value.result (λ p. (em.makes_part c.args.seen.now (part_of c.args.step) _ (ahead c.args.out.now) (ahead c.value.new.out) (ap part_of c.in-Two.is) (em.two_makes c.args.seen.now c.in-Two.operator c.in-Two.right.now (ahead c.args.out.now) (ahead c.push-in-Two.new.out) (ahead c.value.new.out) c.in_ok-push-in-Two.ensures p.0), sp.adds_as _ (λ called. part_steps called (part_of c.args.step)) (ahead c.args.out.now) (ahead c.value.new.out) (λ called. sp.two_at_most called c.in-Two.operator c.in-Two.right.now (part_of c.args.step) (ap part_of c.in-Two.is)) (sp.adds_both (λ called. expr_steps called c.in-Two.right.now) (λ called. 1) (ahead c.args.out.now) (ahead c.push-in-Two.new.out) (ahead c.value.new.out) (sp.adds_do _ (ahead c.args.out.now) (ahead c.push-in-Two.new.out) c.in_ok-push-in-Two.ensures) p.1))) c.value.ensures

pub apply-returns-in-Joined : goal.apply-returns-in-Joined
apply-returns-in-Joined t c =
    on_ok_weaker c.join.result (λ p. (em.makes_part c.args.seen.now (part_of c.args.step) _ (ahead c.args.out.now) (ahead c.join.new.out) (ap part_of c.in-Joined.is) p.0, sp.adds_as _ (λ called. part_steps called (part_of c.args.step)) (ahead c.args.out.now) (ahead c.join.new.out) (λ called. sp.same_at_most (λ x. part_steps called x) (part_of c.args.step) _ (ap part_of c.in-Joined.is)) p.1)) c.join.ensures

pub join-returns : goal.join-returns
join-returns t c =
    on_ok_weaker c.push-2.result (λ is. (em.joint_makes c.args.seen.now c.args.joint c.saturating_sub-passed.result c.args.right.now (ahead c.args.out.now) (ahead c.push.new.out) (ahead c.value.new.out) (ahead c.push-2.new.out) c.in_ok-push.ensures c.in_ok-value.ensures.0 (em.distance c.saturating_sub-passed.result c.len.result c.len-before.result c.value.new.out c.args.out.now c.saturating_sub-passed.ensures (c.len.ensures ∙ c.value.new.out.ok.0) (c.len-before.ensures ∙ c.args.out.now.ok.0)) is, sp.adds_joint c.args.joint c.saturating_sub-passed.result (λ called. expr_steps called c.args.right.now) (ahead c.args.out.now) (ahead c.push.new.out) (ahead c.value.new.out) (ahead c.push-2.new.out) c.in_ok-value.ensures.0.code c.in_ok-push.ensures c.in_ok-value.ensures.1 c.in_ok-value.ensures.0.grows (em.distance c.saturating_sub-passed.result c.len.result c.len-before.result c.value.new.out c.args.out.now c.saturating_sub-passed.ensures (c.len.ensures ∙ c.value.new.out.ok.0) (c.len-before.ensures ∙ c.args.out.now.ok.0)) is)) c.push-2.ensures

pub values-loop-n-preserved : goal.values-loop-n-preserved
values-loop-n-preserved t c =
    record {
      low = omega (arith, c.loop-n.invariant.low);
      made = em.puts_at c.args.seen.now c.args.es.now c.loop-n.n c.index-es-n.result (ahead c.args.out.now) (ahead c.loop-n.out) (ahead c.value.new.out) (omega (arith, c.loop-n-test.true)) c.loop-n.invariant.low c.index-es-n.is c.loop-n.invariant.made c.in_ok-value.ensures.0;
      cheap = sp.adds_more exprs_steps expr_steps (drop c.loop-n.n c.args.es.now) (drop (c.loop-n.n - 1) c.args.es.now) c.index-es-n.result (ahead c.args.out.now) (ahead c.loop-n.out) (ahead c.value.new.out) (λ called. refl) (sp.next_is c.args.es.now c.loop-n.n c.index-es-n.result (omega (arith, c.loop-n-test.true)) c.loop-n.invariant.low c.index-es-n.is) c.loop-n.invariant.cheap c.in_ok-value.ensures.1;
    }

pub values-returns : goal.values-returns
values-returns t c =
    (em.puts_end c.args.seen.now c.args.es.now c.loop-n.n (ahead c.args.out.now) (ahead c.loop-n.out) (omega (arith, c.loop-n-test.false)) c.loop-n.invariant.made, sp.adds_end exprs_steps c.args.es.now c.loop-n.n (ahead c.args.out.now) (ahead c.loop-n.out) (omega (arith, c.loop-n-test.false)) c.loop-n.invariant.cheap)

pub call-returns-then-number-seen : goal.call-returns-then-number-seen
call-returns-then-number-seen t c =
    on_ok_weaker c.values.result (λ p. (em.call_puts c.args.seen.now c.args.number (length c.args.es.now) c.args.es.now (ahead c.args.out.now) (ahead c.push.new.out) (ahead c.values.new.out) c.if-number-seen.true refl c.in_ok-push.ensures p.0, sp.adds_call c.args.number (length c.args.es.now) (λ called. exprs_steps called c.args.es.now) (ahead c.args.out.now) (ahead c.push.new.out) (ahead c.values.new.out) c.in_ok-push.ensures p.1)) c.values.ensures

pub call-returns : goal.call-returns
call-returns t c =
    on_ok_weaker c.push-2.result (λ is. (em.no_call_puts c.args.seen.now c.args.number c.args.es.now (ahead c.args.out.now) (ahead c.push-2.new.out) (omega (arith, c.if-number-seen.false)) is, sp.adds_as (λ called. 1) (λ called. 2 + called c.args.number + exprs_steps called c.args.es.now) (ahead c.args.out.now) (ahead c.push-2.new.out) (λ called. omega arith) (sp.adds_last _ (ahead c.args.out.now) (ahead c.push-2.new.out) is (λ fs. refl)))) c.push-2.ensures

pub chain-apply-requires : goal.chain-apply-requires
chain-apply-requires t c =
    (omega (arith, k.got_below k.part_cost (parts_of c.args.rest) (c.loop-n.n - 1) (part_of c.step.result) c.step.ensures), tt)

pub values-value-requires : goal.values-value-requires
values-value-requires t c =
    (omega (arith, size.item_below k.cost c.args.es.now (c.loop-n.n - 1) c.index-es-n.result (omega (arith, c.loop-n.invariant.low, c.loop-n-test.true)) c.index-es-n.is), tt)
