use Rattle.phase_close.proofs.Seating.{port_ended, session_ended}
use Rattle.phase_close.proofs.seats.end_seats.Goals as goal

pub returns-clause-ended : goal.returns-clause-ended
returns-clause-ended g c = λ key left of here.
    let exporter = c.end_channel_seat-exporter in
    session_ended g.J.Judge.verdict key c.args.session c.args.closing.now exporter.new.closing exporter.result left here exporter.ensures.same exporter.ensures.heard c.retire.ensures.retired

pub returns-clause-retired : goal.returns-clause-retired
returns-clause-retired g c =
    let exporter = c.end_channel_seat-exporter in
    port_ended g.J.Judge.verdict c.args.session c.args.closing.now exporter.new.closing exporter.ensures.same c.retire.ensures.retired
