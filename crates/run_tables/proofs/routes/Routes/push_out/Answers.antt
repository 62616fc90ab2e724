use Rattle.std.proofs.Common.{sym, ◌∙◌, arith}
use Rattle.core_machine.specs.Machine.{push_at}
use Rattle.core_setup.specs.Protocols.{rules_of}
use Rattle.run_tables.proofs.Pushing.{fewer, marks_are, none_pushed, out_ends, pushed_more}
use Rattle.run_tables.proofs.Routing.{as_state, channels_length}
use Rattle.run_tables.proofs.RouteSteps.{push_nothing}
use Rattle.run_tables.proofs.routes.Routes.push_out.Goals as goal

pub loop-init : goal.loop-init
loop-init g c = λ setup s are. (s, are, none_pushed (rules_of setup) c.args.number s)

pub push_one-requires-clause-holds : goal.push_one-requires-clause-holds
push_one-requires-clause-holds g c =
    let h = c.requires.holds in
    let x = c.loop.invariant h.0 h.1 h.2 in
    (h.0, x.0, x.1, x.2.up ∙ h.3)

pub push_one-requires-clause-there : goal.push_one-requires-clause-there
push_one-requires-clause-there g c =
    let v = g.J.Judge.verdict in
    let h = c.requires.holds in
    let there = c.requires.there in
    let x = c.loop.invariant h.0 h.1 h.2 in
    omega (arith, there, channels_length v h.0 h.1 c.args.self.now h.2, channels_length v h.0 x.0 c.loop.self x.1)

pub loop-smaller : goal.loop-smaller
loop-smaller g c =
    let v = g.J.Judge.verdict in
    let h = c.requires.holds in
    let there = c.requires.there in
    let n = c.args.number in
    let x = c.loop.invariant h.0 h.1 h.2 in
    let next = c.in_ok-push_one.ensures.pushes h.0 x.0 x.1 in
    let u = push_at (rules_of h.0) n x.0 in
    let la = channels_length v h.0 h.1 c.args.self.now h.2 in
    let lb = channels_length v h.0 x.0 c.loop.self x.1 in
    let lc = channels_length v h.0 u c.push_one.new.self next in
    let before = marks_are v h.0 n x.0 c.loop.self x.1 (omega (arith, there, la, lb)) in
    let after = marks_are v h.0 n u c.push_one.new.self next (omega (arith, there, la, lc)) in
    let less = fewer (rules_of h.0) n x.0 ((c.in_ok-push_one.ensures.marks h.0 x.0 x.1).1 c.if-branch.true) in
    omega (arith, before, after, less)

pub loop-preserved : goal.loop-preserved
loop-preserved g c = λ setup s are.
    let x = c.loop.invariant setup s are in
    let le = (c.in_ok-push_one.ensures.marks setup x.0 x.1).1 c.if-branch.true in
    (push_at (rules_of setup) c.args.number x.0, c.in_ok-push_one.ensures.pushes setup x.0 x.1, pushed_more (rules_of setup) c.args.number are.rules_are s x.0 x.2 le)

pub returns : goal.returns
returns g c = λ setup s are.
    let x = c.loop.invariant setup s are in
    let none = (c.in_ok-push_one.ensures.marks setup x.0 x.1).0 c.if-branch.false in
    as_state g.J.Judge.verdict setup
    (push_nothing (rules_of setup) c.args.number x.0 none ∙ sym (out_ends (rules_of setup) c.args.number x.0 none) ∙ x.2.out)
    (c.in_ok-push_one.ensures.pushes setup x.0 x.1)
