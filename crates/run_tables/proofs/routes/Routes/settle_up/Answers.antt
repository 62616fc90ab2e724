use Rattle.std.proofs.Common.{arith}
use Rattle.std.proofs.lemmas.Result.{on_ok_weaker}
use Rattle.core_machine.specs.Rounds.{taken_up}
use Rattle.core_setup.specs.Protocols.{rules_of}
use Rattle.run_tables.proofs.Obeying.{still_up}
use Rattle.run_tables.proofs.Routing.{channels_length}
use Rattle.run_tables.proofs.routes.Routes.settle_up.Goals as goal

pub take_up-requires-clause-holds : goal.take_up-requires-clause-holds
take_up-requires-clause-holds g c = let h = c.requires.holds in (h.0, h.1, h.2)

pub push_out-requires-clause-holds : goal.push_out-requires-clause-holds
push_out-requires-clause-holds g c =
    let h = c.requires.holds in
    (h.0, taken_up (rules_of h.0) c.args.number h.1, c.in_ok-take_up.ensures h.0 h.1 h.2 h.3, still_up g.J.Judge.verdict h.0 h.1 c.args.self.now c.args.number h.2 h.3)

pub push_out-requires-clause-there : goal.push_out-requires-clause-there
push_out-requires-clause-there g c =
    let v = g.J.Judge.verdict in
    let h = c.requires.holds in
    let there = c.requires.there in
    omega (
      arith,
      there,
      channels_length v h.0 h.1 c.args.self.now h.2,
      channels_length v h.0 (taken_up (rules_of h.0) c.args.number h.1) c.take_up.new.self (c.in_ok-take_up.ensures h.0 h.1 h.2 h.3),
    )

pub returns : goal.returns
returns g c = on_ok_weaker c.push_out.result (λ pushed setup s are up. pushed setup (taken_up (rules_of setup) c.args.number s) (c.in_ok-take_up.ensures setup s are up)) c.push_out.ensures
