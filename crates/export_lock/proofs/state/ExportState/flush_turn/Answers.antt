use Rattle.std.proofs.Common.{◌≡◌, ◌∙◌, ap, sym, false, true}
use Rattle.export_lock.proofs.Flushing.{flushed}
use Rattle.export_lock.proofs.state.ExportState.flush_turn.Goals as goal

pub flush_one-requires-clause-every : goal.flush_one-requires-clause-every
flush_one-requires-clause-every g c =
    let o = c.requires.held.direction.exporting in
    ap (λ z. z.every) o.spec ∙ o.kind

pub flush_one-requires-clause-up : goal.flush_one-requires-clause-up
flush_one-requires-clause-up g c = sym c.requires.held.direction.exporting.mode ∙ sym c.is_started.ensures ∙ c.if-not-is_started.false

pub returns-clause-flushes : goal.returns-clause-flushes
returns-clause-flushes g c = λ _ done key d.
    flushed g.J.Judge.verdict done key c.args.self.now d c.flush_one.new.self (g.O.Outlet.told c.args.outlet.now) (g.O.Outlet.told c.flush_one.new.outlet) c.flush_one.ensures.first c.flush_one.result
    c.flush_one.ensures.flushes c.flush_one.ensures.refused c.flush_one.ensures.stands

pub returns-clause-down : goal.returns-clause-down
returns-clause-down g c = λ closed. absurd (let e : false ≡ true = sym closed ∙ sym c.is_started.ensures ∙ c.if-not-is_started.false in cc)

pub returns-then-not-is_started-clause-flushes : goal.returns-then-not-is_started-clause-flushes
returns-then-not-is_started-clause-flushes g c = λ up. absurd (let e : false ≡ true = sym c.if-not-is_started.true ∙ c.is_started.ensures ∙ up in cc)
