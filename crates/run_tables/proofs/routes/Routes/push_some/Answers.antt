use Rattle.std.proofs.Common.{◌≡◌, suc, ◌+◌, ap, sym, ◌∙◌, arith, rules}
use Rattle.core_machine.specs.Channels.{times}
use Rattle.core_machine.specs.Machine.{push_at}
use Rattle.core_setup.specs.Protocols.{rules_of}
use Rattle.run_tables.proofs.Pushing.{pushes_open, pushes_stay}
use Rattle.run_tables.proofs.Routing.{as_state, channels_length}
use Rattle.run_tables.proofs.RouteSteps.{push_nothing}
use Rattle.run_tables.proofs.routes.Routes.push_some.Goals as goal

pub push_one-requires-clause-holds : goal.push_one-requires-clause-holds
push_one-requires-clause-holds g c =
    let h = c.requires.holds in
    (h.0, times c.loop.counter (push_at (rules_of h.0) c.args.number) h.1, c.loop.invariant.1 h.0 h.1 h.2, pushes_open (rules_of h.0) h.2.rules_are c.args.number c.loop.counter h.1 h.3)

pub push_one-requires-clause-there : goal.push_one-requires-clause-there
push_one-requires-clause-there g c =
    let v = g.J.Judge.verdict in
    let h = c.requires.holds in
    let there = c.requires.there in
    omega (
      arith,
      there,
      channels_length v h.0 h.1 c.args.self.now h.2,
      channels_length v h.0 (times c.loop.counter (push_at (rules_of h.0) c.args.number) h.1) c.loop.self (c.loop.invariant.1 h.0 h.1 h.2),
    )

pub returns-then-not-branch : goal.returns-then-not-branch
returns-then-not-branch g c = λ setup s are.
    let n = c.args.number in
    let u = times c.loop.counter (push_at (rules_of setup) n) s in
    let now = c.loop.invariant.1 setup s are in
    let none = (c.in_ok-push_one.ensures.marks setup u now).0 c.if-not-branch.true in
    as_state g.J.Judge.verdict setup
    (push_nothing (rules_of setup) n u none ∙ sym (pushes_stay (rules_of setup) n c.loop.counter c.args.count s c.loop.invariant.0 none))
    (c.in_ok-push_one.ensures.pushes setup u now)

pub loop-preserved : goal.loop-preserved
loop-preserved g c = (
  search rules,
  λ setup s are.
      let next : suc c.loop.counter ≡ c.loop.counter + 1 = omega arith in
      as_state g.J.Judge.verdict setup (ap (λ k. times k (push_at (rules_of setup) c.args.number) s) next)
      (c.in_ok-push_one.ensures.pushes setup (times c.loop.counter (push_at (rules_of setup) c.args.number) s) (c.loop.invariant.1 setup s are)),
)
