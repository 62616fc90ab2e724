use Rattle.std.proofs.Common.{refl, subst}
use Rattle.jour.specs.Seats.{journal}
use Rattle.phase_close.specs.Closed.{all_lists}
use Rattle.phase_close.specs.Whole.{entries_at}
use Rattle.table_shared.specs.Phases.{IsRetired as IsPortRetired}
use Rattle.pipe_close.proofs.Ending.{lane_ended, still_at}
use Rattle.pipe_close.proofs.seats.end_lane.Goals as goal

pub retire_at-requires : goal.retire_at-requires
retire_at-requires g c = still_at (all_lists c.args.closings.now.items) (all_lists c.hear_at.new.closings.items) c.hear_at.ensures.same c.args.writes (journal c.args.lane.port) c.requires.written

pub returns-clause-ended : goal.returns-clause-ended
returns-clause-ended g c = λ pipe direction key ops left.
    let lane = c.args.lane in
    lane_ended g.J.Judge.verdict pipe direction key ops lane left (all_lists c.args.closings.now.items) (all_lists c.hear_at.new.closings.items) c.hear_at.ensures.same c.args.reads c.args.writes lane.state.exporter
    (record { exporter_is = refl; heard = c.hear_at.ensures.heard }) c.retire_at.ensures.retired

pub returns-clause-retired : goal.returns-clause-retired
returns-clause-retired g c =
    let port = c.args.lane.port in
    subst (λ l. IsPortRetired port.1.seen.terms (entries_at l c.args.writes) port) c.hear_at.ensures.same c.retire_at.ensures.retired
