use Rattle.room_report.proofs.Following.{stands_after}
use Rattle.room_report.proofs.standing.stand_after.Goals as goal

pub returns : goal.returns
returns g c = λ old over.
    stands_after old c.args.tables.now c.args.numbers.now c.args.before.items c.args.made
    (record { tables = c.in_ok-tables.tables; members = c.in_ok-members.members }) over c.in_ok-tables.ensures c.in_ok-members.ensures
