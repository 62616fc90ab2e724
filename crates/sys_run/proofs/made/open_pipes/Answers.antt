use Rattle.std.proofs.Common.{◌≤◌, ◌+◌, length, sym, subst, ◌∙◌, arith}
use Rattle.core_machine.specs.Machine.{State}
use Rattle.core_setup.specs.Channels.{channels}
use Rattle.core_setup.specs.Protocols.{rules_of}
use Rattle.core_setup.specs.Setup.{Setup}
use Rattle.run_tables.specs.Routes.{AreRoutes}
use Rattle.sys_run.specs.Made.{opened_to}
use Rattle.sys_run.proofs.MakingRoutes.{all_opened, channels_many, none_beyond}
use Rattle.sys_run.proofs.made.open_pipes.Goals as goal

pub open_pipe-requires-clause-holds : goal.open_pipe-requires-clause-holds
open_pipe-requires-clause-holds g c = (c.requires.0, c.loop-number.invariant.1 c.requires.0 c.requires.1)

pub open_pipe-requires-clause-there : goal.open_pipe-requires-clause-there
open_pipe-requires-clause-there g c = omega (arith, c.loop-number-test.true, c.len-number-end.ensures, c.loop-number.invariant.0, c.args.routes.now.channels.ok.0)

pub loop-number-preserved : goal.loop-number-preserved
loop-number-preserved g c =
    let v = g.J.Judge.verdict in
    let n = c.loop-number.number in
    let more : (setup : Setup) → AreRoutes v setup (opened_to (rules_of setup) 0) c.args.routes.now → AreRoutes v setup (opened_to (rules_of setup) (n + 1)) c.open_pipe.new.routes =
    λ setup are. c.in_ok-open_pipe.ensures setup (c.loop-number.invariant.1 setup are) in
    let h = c.requires.0 in
    (sym (channels_many v h (opened_to (rules_of h) (n + 1)) c.open_pipe.new.routes (more h c.requires.1)) ∙ channels_many v h (opened_to (rules_of h) 0) c.args.routes.now c.requires.1, more)

pub returns : goal.returns
returns g c = λ setup are.
    let v = g.J.Judge.verdict in
    let n = c.loop-number.number in
    let many = channels_many v setup (opened_to (rules_of setup) 0) c.args.routes.now are in
    let w : length (channels setup) ≤ n = omega (arith, many, c.loop-number-test.false, c.len-number-end.ensures, c.args.routes.now.channels.ok.0) in
    subst (λ (s : State). AreRoutes v setup s c.loop-number.routes) (all_opened (rules_of setup) n (λ d le. none_beyond setup d (omega (arith, le, w)))) (c.loop-number.invariant.1 setup are)
