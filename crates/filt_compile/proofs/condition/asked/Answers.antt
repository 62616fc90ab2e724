use Rattle.std.proofs.Common.{ap, arith}
use Rattle.std.proofs.lemmas.Result.{on_ok_weaker}
use Rattle.filt_meaning.specs.Values.{Val}
use Rattle.filt_meaning.specs.Flow.{Run}
use Rattle.filt_meaning.specs.Steps.{expr_steps}
use Rattle.filt_meaning.specs.Trees as trees
use Rattle.filt_compile.specs.Emits.{ahead}
use Rattle.filt_compile.proofs.Acting as ac
use Rattle.filt_compile.proofs.Walk as w
use Rattle.filt_compile.proofs.Spending as sp
use Rattle.filt_compile.proofs.condition.asked.Goals as goal

pub returns-in-Test : goal.returns-in-Test
returns-in-Test c = on_ok_weaker c.tested.result (λ p. (ac.asks_as c.args.seen.now c.args.is c.args.over (λ t. trees.test t.around c.in-Test.what) (λ t. trees.expr c.args.e.now t) (ahead c.args.out.now) (ahead c.tested.new.out) (λ u vals attrs. w.test_is u c.in-Test.what c.args.e.now vals attrs c.in-Test.is) p.0, sp.asks_as c.args.over (λ called. 0) (λ called. expr_steps called c.args.e.now) (ahead c.args.out.now) (ahead c.tested.new.out) (λ called. omega arith) p.1)) c.tested.ensures

pub returns-in-Defined : goal.returns-in-Defined
returns-in-Defined c = on_ok_weaker c.push.result (λ is. (ac.asks_as c.args.seen.now c.args.is c.args.over _ (λ t. trees.expr c.args.e.now t) (ahead c.args.out.now) (ahead c.push.new.out) (λ u vals attrs. ap (λ (f : Run Val). f vals attrs) (w.defined_is c.in-Defined.a c.args.e.now u c.in-Defined.is)) (ac.defined_asks c.args.seen.now c.args.is c.args.over c.in-Defined.a (ahead c.args.out.now) (ahead c.push.new.out) is), sp.asks_question c.args.is c.args.over _ (λ called. expr_steps called c.args.e.now) (ahead c.args.out.now) (ahead c.push.new.out) is)) c.push.ensures

pub returns-in_ok-push-in_default-e : goal.returns-in_ok-push-in_default-e
returns-in_ok-push-in_default-e c = on_ok_weaker c.value.result (λ p. (ac.value_asks c.args.seen.now c.args.is c.args.over (λ t. trees.expr c.args.e.now t) (ahead c.args.out.now) (ahead c.push-in_default-e.new.out) (ahead c.value.new.out) c.in_ok-push-in_default-e.ensures p.0, sp.asks_value c.args.is c.args.over (λ called. expr_steps called c.args.e.now) (ahead c.args.out.now) (ahead c.push-in_default-e.new.out) (ahead c.value.new.out) c.in_ok-push-in_default-e.ensures p.1)) c.value.ensures

pub returns-in-Some : goal.returns-in-Some
returns-in-Some c = on_ok_weaker c.question_asked.result (λ asks. asks c.args.e.now c.in-Some.ensures) c.question_asked.ensures
