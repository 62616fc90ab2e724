use Rattle.std.proofs.Common.{sym, ap, subst, ◌∙◌}
use Rattle.core_machine.specs.Channels.{is_open}
use Rattle.core_machine.specs.Machine.{State}
use Rattle.core_setup.specs.Protocols.{rules_of}
use Rattle.run_tables.specs.Routes.{AreRoutes}
use Rattle.sys_run.specs.Made.{opened_to}
use Rattle.sys_run.proofs.MakingRoutes.{not_yet, passed_over, pipe_is, risen}
use Rattle.sys_run.proofs.made.open_pipe.Goals as goal

pub obey-requires-clause-holds : goal.obey-requires-clause-holds
obey-requires-clause-holds g c =
    let h = c.requires.holds in
    let s = opened_to (rules_of h.0) c.args.number in
    (h.0, s, h.1, ap is_open (not_yet (rules_of h.0) c.args.number))

pub returns-in_ok-obey : goal.returns-in_ok-obey
returns-in_ok-obey g c = λ setup are.
    let n = c.args.number in
    let v = g.J.Judge.verdict in
    let held = c.index.result.now in
    let t = c.in_ok-obey.ensures setup (opened_to (rules_of setup) n) are (ap is_open (not_yet (rules_of setup) n)) in
    let first = pipe_is v setup (opened_to (rules_of setup) n) c.args.routes.now n held are c.requires.there c.index.ensures ∙ sym c.is_pipe.ensures ∙ c.if-is_pipe.true in
    subst (λ (s : State). AreRoutes v setup s c.obey.new.self) (risen (rules_of setup) n t.0 are.rules_are first t.1) t.2

pub returns-else-is_pipe : goal.returns-else-is_pipe
returns-else-is_pipe g c = λ setup are.
    let n = c.args.number in
    let v = g.J.Judge.verdict in
    let held = c.index.result.now in
    let first = pipe_is v setup (opened_to (rules_of setup) n) c.args.routes.now n held are c.requires.there c.index.ensures ∙ sym c.is_pipe.ensures ∙ c.if-is_pipe.false in
    subst (λ (s : State). AreRoutes v setup s c.args.routes.now) (passed_over (rules_of setup) n first) are
