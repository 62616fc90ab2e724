use Rattle.std.proofs.Common.{refl, arith}
use Rattle.run_tables.proofs.Obeying.{all_settled, more_settled, true_false}
use Rattle.run_tables.proofs.routes.Routes.are_settled.Goals as goal

pub loop-number-preserved : goal.loop-number-preserved
loop-number-preserved g c = λ setup s are.
    more_settled g.J.Judge.verdict setup s c.args.self.now are c.loop-number.number (c.loop-number.invariant setup s are)
    ((c.is_settled_at.ensures setup s are).0 c.if-not-is_settled_at.false)

pub returns-then-not-is_settled_at : goal.returns-then-not-is_settled_at
returns-then-not-is_settled_at g c = λ setup s are. (
  λ bad. true_false _ bad refl,
  λ all. true_false c.is_settled_at.result ((c.is_settled_at.ensures setup s are).1 (all c.loop-number.number)) c.if-not-is_settled_at.true,
)

pub returns : goal.returns
returns g c = λ setup s are. (
  λ _. all_settled g.J.Judge.verdict setup s c.args.self.now are c.loop-number.number (omega (arith, c.args.self.now.channels.ok.0)) (c.loop-number.invariant setup s are),
  λ _. refl,
)
