use Rattle.std.proofs.Common.{◌≡◌, ◌∙◌, sym, false, true}
use Rattle.export_lock.proofs.Pushing.{as_was, feed_stays, pushed, pushed_rests, running}
use Rattle.export_lock.proofs.state.ExportState.push_turn.Goals as goal

pub push_one-requires-clause-stays : goal.push_one-requires-clause-stays
push_one-requires-clause-stays g c = (running c.args.self.now.cursor.1 c.args.self.now.exporter.flushing (sym c.is_running.ensures ∙ c.if-not-is_running.false)).1

pub push_one-requires-clause-up : goal.push_one-requires-clause-up
push_one-requires-clause-up g c = sym c.requires.held.exporting.mode ∙ (running c.args.self.now.cursor.1 c.args.self.now.exporter.flushing (sym c.is_running.ensures ∙ c.if-not-is_running.false)).0

pub returns-clause-goes : goal.returns-clause-goes
returns-clause-goes g c = λ every key o.
    pushed g.J.Judge.verdict key c.args.self.now c.push_one.new.self (g.O.Outlet.told c.args.outlet.now) (g.O.Outlet.told c.push_one.new.outlet) c.push_one.result
    c.push_one.ensures.pushes c.push_one.ensures.refused c.push_one.ensures.stays c.push_one.ensures.stands o

pub returns-clause-flush : goal.returns-clause-flush
returns-clause-flush g c =
    pushed_rests c.push_one.result c.args.self.now c.push_one.new.self (g.O.Outlet.told c.args.outlet.now) (g.O.Outlet.told c.push_one.new.outlet) c.push_one.ensures.refused c.push_one.ensures.stays
    (running c.args.self.now.cursor.1 c.args.self.now.exporter.flushing (sym c.is_running.ensures ∙ c.if-not-is_running.false)).1

pub returns-clause-refused : goal.returns-clause-refused
returns-clause-refused g c = as_was c.push_one.result c.args.self.now c.push_one.new.self (g.O.Outlet.told c.args.outlet.now) (g.O.Outlet.told c.push_one.new.outlet) c.push_one.ensures.refused

pub returns-clause-pushes : goal.returns-clause-pushes
returns-clause-pushes g c = λ _. c.push_one.ensures.pushes

pub returns-clause-rests : goal.returns-clause-rests
returns-clause-rests g c = λ rests. absurd (let e : false ≡ true = sym rests ∙ sym c.is_running.ensures ∙ c.if-not-is_running.false in cc)

pub returns-then-not-is_running-clause-pushes : goal.returns-then-not-is_running-clause-pushes
returns-then-not-is_running-clause-pushes g c = λ runs. absurd (let e : false ≡ true = sym c.if-not-is_running.true ∙ c.is_running.ensures ∙ runs in cc)

pub returns-clause-feed : goal.returns-clause-feed
returns-clause-feed g c =
    feed_stays g.J.Judge.verdict c.args.self.now.exporter c.push_one.new.self (g.O.Outlet.told c.args.outlet.now) (g.O.Outlet.told c.push_one.new.outlet) c.push_one.result c.push_one.ensures.pushes c.push_one.ensures.refused
