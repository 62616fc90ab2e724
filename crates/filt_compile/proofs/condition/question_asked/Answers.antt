use Rattle.std.proofs.Common.{arith}
use Rattle.std.proofs.lemmas.Result.{on_ok_weaker}
use Rattle.filt_meaning.specs.Steps.{expr_steps}
use Rattle.filt_compile.specs.Emits.{ahead}
use Rattle.filt_compile.proofs.Answering as q
use Rattle.filt_compile.proofs.Spending as sp
use Rattle.filt_compile.proofs.condition.question_asked.Goals as goal

pub returns-in-Test : goal.returns-in-Test
returns-in-Test c = on_ok_weaker c.tested.result (λ p x is. (q.test_asks c.args.seen.now c.args.is c.args.over c.in-Test.what x c.args.question (ahead c.args.out.now) (ahead c.tested.new.out) c.in-Test.is is p.0, sp.asks_as c.args.over (λ called. 0) (λ called. expr_steps called x) (ahead c.args.out.now) (ahead c.tested.new.out) (λ called. omega arith) p.1)) c.tested.ensures

pub returns-in_default : goal.returns-in_default
returns-in_default c = on_ok_weaker c.push.result (λ front x is. (q.question_asks c.args.seen.now c.args.is c.args.over x c.args.question (ahead c.args.out.now) (ahead c.push.new.out) is front, sp.asks_question c.args.is c.args.over _ (λ called. expr_steps called x) (ahead c.args.out.now) (ahead c.push.new.out) front)) c.push.ensures
