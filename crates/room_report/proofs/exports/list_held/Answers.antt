use Rattle.room_report.proofs.exports.list_held.Goals as goal

pub returns : goal.returns
returns g c = λ may up.
    let is = c.in_ok-values.ensures.values (may up) in
    record { entries = c.in_ok-values.values.items; items_are = c.in_ok-standing.ensures; ascend = is.ascend; values = is.values }
