use Rattle.std.proofs.Common.{arith}
use Rattle.core_machine.specs.Channels.{times}
use Rattle.core_machine.specs.Rounds.{round}
use Rattle.core_setup.specs.Protocols.{rules_of}
use Rattle.run_tables.proofs.Obeying.{true_false}
use Rattle.run_tables.proofs.Routing.{tables_length}
use Rattle.run_tables.proofs.Syncing.{all_synced, fewer_rounds, more_synced, none_synced}
use Rattle.run_tables.proofs.routes.Routes.sync.Goals as goal

pub loop-self-init : goal.loop-self-init
loop-self-init g c = none_synced g.J.Judge.verdict c.args.self.now

pub are_settled-requires : goal.are_settled-requires
are_settled-requires g c = let h = c.requires in (h.0, times c.loop-self.rounds (round (rules_of h.0)) h.1, c.loop-self.invariant.are h.0 h.1 h.2)

pub round-requires : goal.round-requires
round-requires g c = let h = c.requires in (h.0, times c.loop-self.rounds (round (rules_of h.0)) h.1, c.loop-self.invariant.are h.0 h.1 h.2)

pub overflow_add-rounds : goal.overflow_add-rounds
overflow_add-rounds g c =
    let lt = fewer_rounds g.J.Judge.verdict c.args.self.now c.loop-self.self c.loop-self.rounds c.requires c.loop-self.invariant
    (λ setup s are all. true_false c.are_settled.result ((c.are_settled.ensures setup s are).1 all) c.loop-self-test.true) in
    omega (arith, lt, c.loop-self.self.tables.ok.0)

pub loop-self-smaller : goal.loop-self-smaller
loop-self-smaller g c =
    let v = g.J.Judge.verdict in
    let h = c.requires in
    let s = times c.loop-self.rounds (round (rules_of h.0)) h.1 in
    let now = c.loop-self.invariant.are h.0 h.1 h.2 in
    let next = c.in_ok-round.ensures h.0 s now in
    let la = tables_length v h.0 s c.loop-self.self now in
    let lb = tables_length v h.0 (round (rules_of h.0) s) c.round.new.self next in
    let lt = fewer_rounds v c.args.self.now c.loop-self.self c.loop-self.rounds h c.loop-self.invariant
    (λ setup s are all. true_false c.are_settled.result ((c.are_settled.ensures setup s are).1 all) c.loop-self-test.true) in
    omega (arith, la, lb, lt)

pub loop-self-preserved : goal.loop-self-preserved
loop-self-preserved g c =
    more_synced g.J.Judge.verdict c.args.self.now c.loop-self.self c.round.new.self c.loop-self.rounds c.loop-self.invariant
    (λ setup s are all. true_false c.are_settled.result ((c.are_settled.ensures setup s are).1 all) c.loop-self-test.true)
    (λ setup s are. c.in_ok-round.ensures setup s are)

pub returns : goal.returns
returns g c =
    all_synced g.J.Judge.verdict c.args.self.now c.loop-self.self c.loop-self.rounds c.loop-self.invariant
    (λ setup s are. (c.are_settled.ensures setup s are).0 c.loop-self-test.false)
