use Rattle.std.proofs.Common.{◌∙◌}
use Rattle.room_run.proofs.Seats.{none_dealt}
use Rattle.room_run.proofs.dealing.no_seats.Goals as goal

pub returns-in-Ok : goal.returns-in-Ok
returns-in-Ok g c =
    let none = c.in-Ok.ensures in
    none_dealt g.P.Phase.terms c.args.room.now c.in-Ok.none (none.count ∙ c.len.ensures ∙ c.args.room.now.members.ok.0) none.empty none.others.0 none.others.1
