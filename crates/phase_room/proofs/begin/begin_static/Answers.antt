use Rattle.std.proofs.Common.{None, refl}
use Rattle.import_lock.specs.Locks.{terms_of}
use Rattle.phase_room.proofs.Beginning.{hands_given, new_terms}
use Rattle.phase_room.proofs.begin.begin_static.Goals as goal

pub returns-clause-hands : goal.returns-clause-hands
returns-clause-hands g c =
    let made = c.in_ok-import.ensures in
    (made.2, hands_given (terms_of g.P.Phase.terms c.in_ok-import.import.1) (g.P.Phase.terms c.args.played.now) c.args.part.number c.args.part.port made.0 None c.in_ok-import.made.items made.1 made.3)

pub returns-clause-new : goal.returns-clause-new
returns-clause-new g c =
    let made = c.in_ok-import.ensures in
    let terms = new_terms (terms_of g.P.Phase.terms c.in_ok-import.import.1) (g.P.Phase.terms c.args.played.now) c.args.part.number c.args.hands c.args.part.port made.0 None made.1 c.requires.part.2.port_number made.4 c.requires.hands in
    (record { table = refl; port = terms.0; turns = terms.1 }, refl)
