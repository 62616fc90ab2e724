use Rattle.std.proofs.Common.{Some, refl, ap}
use Rattle.import_lock.specs.Locks.{terms_of}
use Rattle.phase_room.proofs.Beginning.{hands_given, new_terms}
use Rattle.phase_room.proofs.begin.begin_neighbour.Goals as goal

pub returns-clause-hands : goal.returns-clause-hands
returns-clause-hands g c =
    let made = c.in_ok-import.ensures in
    (made.2, hands_given (terms_of g.P.Phase.terms c.in_ok-import.import.1) (g.P.Phase.terms c.args.played.now) c.args.part.number c.args.part.port made.0 (Some c.in_ok-marks.stamp) c.in_ok-import.made.items made.1 made.3)

pub returns-clause-new : goal.returns-clause-new
returns-clause-new g c =
    let made = c.in_ok-import.ensures in
    let terms = new_terms (terms_of g.P.Phase.terms c.in_ok-import.import.1) (g.P.Phase.terms c.args.played.now) c.args.part.number c.args.hands c.args.part.port made.0 (Some c.in_ok-marks.stamp) made.1 c.requires.parts.3.port_number made.4 c.requires.hands in
    (record { table = refl; port = terms.0; turns = terms.1 }, (c.in_ok-marks.marks, ap Some c.in_ok-export.ensures))
