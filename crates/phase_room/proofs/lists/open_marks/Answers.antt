use Rattle.std.proofs.Common.{sym, ◌∙◌}
use Rattle.phase_room.proofs.Only.{only_one}
use Rattle.phase_room.proofs.lists.open_marks.Goals as goal

pub returns-clause-stamp : goal.returns-clause-stamp
returns-clause-stamp c =
    let all = c.in_ok-marks.ensures.makers in
    let one = all.1 0 c.in-Some.stamp (only_one c.in_ok-marks.stamps.items c.pop.new.self.items c.in-Some.stamp c.in-Some.ensures.items (sym c.in_ok-marks.stamps.ok.0 ∙ all.0)) in
    (one.0, one.1, one.3)
