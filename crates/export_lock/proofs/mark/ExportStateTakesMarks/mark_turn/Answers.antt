use Rattle.std.proofs.Common.{◌≡◌, ◌∙◌, ap, sym, refl, subst, true, false}
use Rattle.export_core.specs.Standing.{is_open}
use Rattle.core_machine.specs.Rules.{Fits}
use Rattle.core_setup.specs.Protocols.{signal_of}
use Rattle.export_lock.proofs.Marking.{fits_now, ready_now, started_now, told_on}
use Rattle.export_lock.proofs.mark.ExportStateTakesMarks.mark_turn.Goals as goal

pub start-head-requires-clause-closed : goal.start-head-requires-clause-closed
start-head-requires-clause-closed g c = c.requires.may.held.exporting.mode ∙ subst (λ z. Fits (signal_of z) (is_open c.args.self.now.exporter.log)) c.in-Up.is
    (fits_now g.J.Judge.verdict false c.args.table.now (signal_of c.args.mark) c.args.stamp.now c.tell_maker.new.maker c.tell_maker.new.self c.args.self.now c.requires.may c.lawful.ensures
    c.tell_maker.ensures.here.0 c.tell_maker.ensures.here.1 c.tell_maker.ensures.list c.tell_maker.ensures.maker.0 c.tell_maker.ensures.maker.1 c.tell_maker.ensures.receipts)

pub rise-requires : goal.rise-requires
rise-requires g c = record {
  started =
      started_now g.J.Judge.verdict false c.args.table.now (signal_of c.args.mark) c.args.stamp.now c.tell_maker.new.maker c.tell_maker.new.self c.args.self.now c.requires.may c.lawful.ensures
      c.tell_maker.ensures.here.0 c.tell_maker.ensures.here.1 c.tell_maker.ensures.list c.tell_maker.ensures.maker.0 c.tell_maker.ensures.maker.1 c.tell_maker.ensures.receipts
      c.start-head.result c.start-head.new.cursor (ap signal_of c.in-Up.is)
      (record { here = c.start-head.ensures.here.0; started = c.start-head.ensures.started.1; position = c.start-head.ensures.started.0; seen = c.start-head.ensures.told.seen; prefix = c.start-head.ensures.prefix.0 });
}

pub fall-requires-clause-ready : goal.fall-requires-clause-ready
fall-requires-clause-ready g c = ready_now g.J.Judge.verdict false c.args.table.now (signal_of c.args.mark) c.args.stamp.now c.tell_maker.new.maker c.tell_maker.new.self c.args.self.now c.requires.may c.lawful.ensures
    c.tell_maker.ensures.here.0 c.tell_maker.ensures.here.1 c.tell_maker.ensures.list c.tell_maker.ensures.maker.0 c.tell_maker.ensures.maker.1 c.tell_maker.ensures.receipts

pub fall-requires-clause-up : goal.fall-requires-clause-up
fall-requires-clause-up g c = subst (λ z. Fits (signal_of z) (is_open c.args.self.now.exporter.log)) c.in-Down.is
    (fits_now g.J.Judge.verdict false c.args.table.now (signal_of c.args.mark) c.args.stamp.now c.tell_maker.new.maker c.tell_maker.new.self c.args.self.now c.requires.may c.lawful.ensures
    c.tell_maker.ensures.here.0 c.tell_maker.ensures.here.1 c.tell_maker.ensures.list c.tell_maker.ensures.maker.0 c.tell_maker.ensures.maker.1 c.tell_maker.ensures.receipts)

pub renew-requires-clause-ready : goal.renew-requires-clause-ready
renew-requires-clause-ready g c = ready_now g.J.Judge.verdict false c.args.table.now (signal_of c.args.mark) c.args.stamp.now c.tell_maker.new.maker c.tell_maker.new.self c.args.self.now c.requires.may c.lawful.ensures
    c.tell_maker.ensures.here.0 c.tell_maker.ensures.here.1 c.tell_maker.ensures.list c.tell_maker.ensures.maker.0 c.tell_maker.ensures.maker.1 c.tell_maker.ensures.receipts

pub renew-requires-clause-up : goal.renew-requires-clause-up
renew-requires-clause-up g c = subst (λ z. Fits (signal_of z) (is_open c.args.self.now.exporter.log)) c.in-Refresh.is
    (fits_now g.J.Judge.verdict false c.args.table.now (signal_of c.args.mark) c.args.stamp.now c.tell_maker.new.maker c.tell_maker.new.self c.args.self.now c.requires.may c.lawful.ensures
    c.tell_maker.ensures.here.0 c.tell_maker.ensures.here.1 c.tell_maker.ensures.list c.tell_maker.ensures.maker.0 c.tell_maker.ensures.maker.1 c.tell_maker.ensures.receipts)

pub fall-requires-clause-withdrawn : goal.fall-requires-clause-withdrawn
fall-requires-clause-withdrawn g c = λ every.
    let o = c.requires.may.held.exporting in
    absurd (let e : false ≡ true = sym o.kind ∙ sym (ap (λ z. z.every) o.spec) ∙ every in cc)

pub renew-requires-clause-running : goal.renew-requires-clause-running
renew-requires-clause-running g c = c.requires.may.held.exporting.stays refl

pub returns-in-Up-clause-goes : goal.returns-in-Up-clause-goes
returns-in-Up-clause-goes g c = λ key o. c.rise.ensures.goes c.args.self.now.cursor
    (record { here = c.start-head.ensures.here.0; started = c.start-head.ensures.started.1; position = c.start-head.ensures.started.0; seen = c.start-head.ensures.told.seen; prefix = c.start-head.ensures.prefix.0 }) false key
    (told_on g.J.Judge.verdict false c.args.table.now (signal_of c.args.mark) c.args.stamp.now c.tell_maker.new.maker c.tell_maker.new.self c.args.self.now c.requires.may c.lawful.ensures
    c.tell_maker.ensures.here.0 c.tell_maker.ensures.here.1 c.tell_maker.ensures.list c.tell_maker.ensures.maker.0 c.tell_maker.ensures.maker.1 c.tell_maker.ensures.receipts key o)

pub returns-in-Down-clause-goes : goal.returns-in-Down-clause-goes
returns-in-Down-clause-goes g c = λ key o. c.fall.ensures.goes false key
    (told_on g.J.Judge.verdict false c.args.table.now (signal_of c.args.mark) c.args.stamp.now c.tell_maker.new.maker c.tell_maker.new.self c.args.self.now c.requires.may c.lawful.ensures
    c.tell_maker.ensures.here.0 c.tell_maker.ensures.here.1 c.tell_maker.ensures.list c.tell_maker.ensures.maker.0 c.tell_maker.ensures.maker.1 c.tell_maker.ensures.receipts key o)

pub returns-in-Refresh-clause-goes : goal.returns-in-Refresh-clause-goes
returns-in-Refresh-clause-goes g c = λ key o. c.renew.ensures.goes false key
    (told_on g.J.Judge.verdict false c.args.table.now (signal_of c.args.mark) c.args.stamp.now c.tell_maker.new.maker c.tell_maker.new.self c.args.self.now c.requires.may c.lawful.ensures
    c.tell_maker.ensures.here.0 c.tell_maker.ensures.here.1 c.tell_maker.ensures.list c.tell_maker.ensures.maker.0 c.tell_maker.ensures.maker.1 c.tell_maker.ensures.receipts key o)
