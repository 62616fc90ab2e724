use Rattle.std.proofs.Common.{◌≡◌, true, ℕ, sym, subst}
use Rattle.export_core.specs.Candidates.{has_num}
use Rattle.export_lock.specs.Flushes.{FlushesOn}
use Rattle.export_lock.specs.Outlets.{takes_of, told_by}
use Rattle.export_lock.proofs.LaneTurns.{flushed_lane, lane_sources, lane_takes, was_rested}
use Rattle.export_lock.proofs.lane.PipeLane.flush_turn.Goals as goal

pub make-outlet-requires-clause-sources : goal.make-outlet-requires-clause-sources
make-outlet-requires-clause-sources g c = lane_sources g.J.Judge.verdict c.args.sources.now c.args.self c.requires.held

pub flush_turn-did-requires-clause-held : goal.flush_turn-did-requires-clause-held
flush_turn-did-requires-clause-held g c = record { done = c.requires.held.done; key = c.requires.held.key.exports; direction = c.requires.held.lane_is.direction }

pub flush_turn-did-requires-clause-takes : goal.flush_turn-did-requires-clause-takes
flush_turn-did-requires-clause-takes g c =
    subst (λ o. (num : ℕ) → has_num c.args.self.state.exporter.spec num ≡ true → takes_of o num c.args.self.state.exporter.spec.family ≡ true) (sym c.make-outlet.ensures)
    (lane_takes g.J.Judge.verdict c.args.sources.now c.args.self c.requires.held)

pub returns-clause-flushes : goal.returns-clause-flushes
returns-clause-flushes g c = λ up key done are o.
    flushed_lane c.a_port_alone_changes_its_sources.ensures g.J.Judge.verdict c.args.sources.now key are c.args.self c.position.ensures.lawful done o
    c.flush_turn-did.new.self c.flush_turn-did.new.outlet c.into_port-port.result c.into_port-port.ensures.given c.flush_turn-did.result
    (subst (λ z. FlushesOn g.J.Judge.verdict done key.exports c.args.self.state c.flush_turn-did.new.self (told_by z) (told_by c.flush_turn-did.new.outlet) c.flush_turn-did.result) c.make-outlet.ensures
    (c.flush_turn-did.ensures.flushes up done key.exports o.direction))
    c.flush_turn-did.ensures.cause c.into_port-port.ensures.fault

pub returns-clause-down : goal.returns-clause-down
returns-clause-down g c = λ no.
    let still = c.flush_turn-did.ensures.down no in (
      still.0,
      still.1,
      was_rested g.J.Judge.verdict c.args.sources.now c.args.self c.flush_turn-did.new.self c.flush_turn-did.new.outlet c.into_port-port.result c.into_port-port.ensures.given
          (subst (λ o. told_by c.flush_turn-did.new.outlet ≡ told_by o) c.make-outlet.ensures still.2),
    )
