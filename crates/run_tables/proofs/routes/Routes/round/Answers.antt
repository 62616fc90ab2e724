use Rattle.std.proofs.Common.{◌≡◌, suc, ◌+◌, sym, ap, ◌∙◌, arith}
use Rattle.core_machine.specs.Machine.{State}
use Rattle.core_machine.specs.Rounds.{turns_to}
use Rattle.core_setup.specs.Protocols.{rules_of}
use Rattle.core_setup.specs.Setup.{Setup}
use Rattle.run_tables.specs.Routes.{AreRoutes}
use Rattle.run_tables.proofs.Obeying.{turns_end}
use Rattle.run_tables.proofs.Routing.{as_state, channels_length}
use Rattle.run_tables.proofs.routes.Routes.round.Goals as goal

pub settle-requires-clause-holds : goal.settle-requires-clause-holds
settle-requires-clause-holds g c =
    let h = c.requires in
    (h.0, turns_to (rules_of h.0) c.loop-number.number h.1, c.loop-number.invariant.1 h.0 h.1 h.2)

pub loop-number-preserved : goal.loop-number-preserved
loop-number-preserved g c =
    let v = g.J.Judge.verdict in
    let h = c.requires in
    let n = c.loop-number.number in
    let next : suc n ≡ n + 1 = omega arith in
    let more : (setup : Setup) (s : State) → AreRoutes v setup s c.args.self.now → AreRoutes v setup (turns_to (rules_of setup) (n + 1) s) c.settle.new.self =
    λ setup s are. as_state v setup (ap (λ m. turns_to (rules_of setup) m s) next) (c.in_ok-settle.ensures setup (turns_to (rules_of setup) n s) (c.loop-number.invariant.1 setup s are)) in
    (sym (channels_length v h.0 (turns_to (rules_of h.0) (n + 1) h.1) c.settle.new.self (more h.0 h.1 h.2)) ∙ channels_length v h.0 h.1 c.args.self.now h.2, more)

pub returns : goal.returns
returns g c = λ setup s are.
    turns_end g.J.Judge.verdict setup c.loop-number.number s c.args.self.now c.loop-number.self
    (omega (arith, c.args.self.now.channels.ok.0)) are (c.loop-number.invariant.1 setup s are)
