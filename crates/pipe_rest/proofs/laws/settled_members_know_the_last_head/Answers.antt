use Rattle.std.proofs.Common.{arith, subst}
use Rattle.export_core.specs.Calls.{IsAtRest}
use Rattle.jour.specs.Seats.{known}
use Rattle.pipe_turns.specs.Ends.{AreBelow}
use Rattle.pipe_rest.proofs.laws.settled_members_know_the_last_head.Goals as goal

pub returns : goal.returns
returns g c = λ heads table terms list said state are below heard least read up.
    let done = read up in
    let told = done.told in
    let at = done.rests.position in
    let all : AreBelow terms list (known state.cursor.0.1) =
    λ number num has.
    (let port = below number num has in
    let seen = port.1.seen in
    (port.0, record { number_is = port.1.number_is; here = port.1.here; retired = port.1.retired; seen = omega (arith, seen, told) })) in
    subst (IsAtRest state.exporter) (c.ports_have_seen_the_last_head.ensures terms list said state.cursor.0.1 are heard (omega (arith, least, at)) all) done.rests
