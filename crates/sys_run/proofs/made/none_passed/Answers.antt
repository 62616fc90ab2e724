use Rattle.std.proofs.Common.{◌≡◌, ◌∙◌, ◌+◌, ap, arith}
use Rattle.sys_run.proofs.MakingWays.{lists_none, lists_push, longer}
use Rattle.sys_run.proofs.made.none_passed.Goals as goal

pub loop-init : goal.loop-init
loop-init c = lists_none c.new-passed.result.items c.new-passed.ensures.items

pub loop-preserved : goal.loop-preserved
loop-preserved c = (
  longer c.loop.passed.items c.push.new.self.items c.new.result c.in_ok-push.ensures.items ∙ ap (λ n. n + 1) c.loop.invariant.0,
  lists_push c.loop.passed.items c.push.new.self.items c.new.result c.in_ok-push.ensures.items c.new.ensures.items c.loop.invariant.1,
)

pub returns : goal.returns
returns c = (c.loop.invariant.0 ∙ (let e : c.loop.counter ≡ c.args.channels = omega (arith, c.loop-test.false, c.loop.auto.counter-end) in e), c.loop.invariant.1)
