use Rattle.std.proofs.Common.{◌≡◌, true, ℕ, sym, subst}
use Rattle.std.specs.Prelude.{IfOk, OnErr}
use Rattle.export_core.specs.Calls.{Pushes}
use Rattle.export_core.specs.Candidates.{has_num}
use Rattle.export_lock.specs.Outlets.{takes_of, told_by}
use Rattle.export_lock.proofs.LaneTurns.{lane_sources, lane_takes, pushed_kept, pushed_on, stopped, was_rested}
use Rattle.export_lock.proofs.lane.PipeLane.push_turn.Goals as goal

pub make-outlet-requires-clause-sources : goal.make-outlet-requires-clause-sources
make-outlet-requires-clause-sources g c = lane_sources g.J.Judge.verdict c.args.sources.now c.args.self c.requires.held

pub push_turn-did-requires-clause-held : goal.push_turn-did-requires-clause-held
push_turn-did-requires-clause-held g c = record { every = true; key = c.requires.held.key.exports; exporting = c.requires.held.lane_is.direction.exporting }

pub push_turn-did-requires-clause-takes : goal.push_turn-did-requires-clause-takes
push_turn-did-requires-clause-takes g c =
    subst (λ o. (num : ℕ) → has_num c.args.self.state.exporter.spec num ≡ true → takes_of o num c.args.self.state.exporter.spec.family ≡ true) (sym c.make-outlet.ensures)
    (lane_takes g.J.Judge.verdict c.args.sources.now c.args.self c.requires.held)

pub returns-clause-pushes : goal.returns-clause-pushes
returns-clause-pushes g c = λ run.
    pushed_on g.J.Judge.verdict c.args.sources.now c.args.self c.push_turn-did.new.self c.push_turn-did.new.outlet c.into_port-port.result c.into_port-port.ensures.given c.push_turn-did.result
    (subst (λ o. IfOk c.push_turn-did.result (Pushes g.J.Judge.verdict c.args.self.state.exporter c.push_turn-did.new.self.exporter (told_by o) (told_by c.push_turn-did.new.outlet))) c.make-outlet.ensures (c.push_turn-did.ensures.pushes run))

pub returns-clause-refused : goal.returns-clause-refused
returns-clause-refused g c =
    stopped g.J.Judge.verdict c.args.sources.now c.args.self c.push_turn-did.new.self c.push_turn-did.new.outlet c.into_port-port.result c.into_port-port.ensures.given c.push_turn-did.result
    (subst (λ o. OnErr c.push_turn-did.result ((c.push_turn-did.new.self ≡ c.args.self.state) × (told_by c.push_turn-did.new.outlet ≡ told_by o))) c.make-outlet.ensures c.push_turn-did.ensures.refused)
    c.push_turn-did.ensures.cause c.into_port-port.ensures.fault

pub returns-clause-rests : goal.returns-clause-rests
returns-clause-rests g c = λ no.
    let still = c.push_turn-did.ensures.rests no in (
      still.0,
      still.1,
      was_rested g.J.Judge.verdict c.args.sources.now c.args.self c.push_turn-did.new.self c.push_turn-did.new.outlet c.into_port-port.result c.into_port-port.ensures.given
          (subst (λ o. told_by c.push_turn-did.new.outlet ≡ told_by o) c.make-outlet.ensures still.2),
    )

pub returns-clause-kept : goal.returns-clause-kept
returns-clause-kept g c = λ key done are o.
    pushed_kept c.a_port_alone_changes_its_sources.ensures g.J.Judge.verdict c.args.sources.now key are c.args.self c.position.ensures.lawful done o
    (record { state = c.push_turn-did.new.self; port = c.into_port-port.result }) c.push_turn-did.result
    (returns-clause-pushes g c) (returns-clause-refused g c) (returns-clause-rests g c) c.push_turn-did.ensures.goes c.push_turn-did.ensures.flush
