use Rattle.std.proofs.Common.{◌≡◌, length, Some, refl, arith}
use Rattle.std.specs.Prelude.{slice_get}
use Rattle.std.proofs.lemmas.Option.{slice_get_read}
use Rattle.room_run.proofs.Starters.{hand_is, hand_there, one_started, seats_on, starter_hands, starter_number}
use Rattle.room_run.proofs.starting.start_one.Goals as goal

pub index_mut-hand-requires : goal.index_mut-hand-requires
index_mut-hand-requires g c =
    let w = hand_there g.P.Phase.terms c.args.room.now c.args.starters.now.items c.args.passes.now.items c.requires.seats c.args.number c.requires.there in
    let n = c.args.starters.now.ok.0 in
    omega (arith, n, w)

pub start_with-requires-clause-hand : goal.start_with-requires-clause-hand
start_with-requires-clause-hand g c =
    let starters = c.args.starters.now.items in
    let passes = c.args.passes.now.items in
    let w = hand_there g.P.Phase.terms c.args.room.now starters passes c.requires.seats c.args.number c.requires.there in
    let at = slice_get_read starters (length starters) c.args.number c.index_mut-hand.result.now refl w c.index_mut-hand.ensures.value in
    hand_is g.P.Phase.terms c.args.room.now starters passes c.requires.seats c.args.number c.index_mut-hand.result.now at

pub start_with-requires-clause-number : goal.start_with-requires-clause-number
start_with-requires-clause-number g c =
    let starters = c.args.starters.now.items in
    let passes = c.args.passes.now.items in
    let w = hand_there g.P.Phase.terms c.args.room.now starters passes c.requires.seats c.args.number c.requires.there in
    let at = slice_get_read starters (length starters) c.args.number c.index_mut-hand.result.now refl w c.index_mut-hand.ensures.value in
    starter_number g.P.Phase.terms c.args.room.now starters passes c.requires.seats c.args.number c.index_mut-hand.result.now at

pub start_with-requires-clause-hands : goal.start_with-requires-clause-hands
start_with-requires-clause-hands g c =
    let starters = c.args.starters.now.items in
    let passes = c.args.passes.now.items in
    let w = hand_there g.P.Phase.terms c.args.room.now starters passes c.requires.seats c.args.number c.requires.there in
    let at = slice_get_read starters (length starters) c.args.number c.index_mut-hand.result.now refl w c.index_mut-hand.ensures.value in
    starter_hands g.P.Phase.terms c.args.room.now starters passes c.requires.seats c.args.number c.index_mut-hand.result.now at

pub start_with-requires-clause-passes : goal.start_with-requires-clause-passes
start_with-requires-clause-passes g c = c.requires.seats.passes_are

pub returns-clause-seats : goal.returns-clause-seats
returns-clause-seats g c =
    let starters = c.args.starters.now.items in
    let passes = c.args.passes.now.items in
    let w = hand_there g.P.Phase.terms c.args.room.now starters passes c.requires.seats c.args.number c.requires.there in
    let at = slice_get_read starters (length starters) c.args.number c.index_mut-hand.result.now refl w c.index_mut-hand.ensures.value in
    seats_on g.P.Phase.terms c.args.room.now starters passes c.requires.seats c.args.number c.index_mut-hand.result.now at c.start_with.new.hand c.start_with.new.passes.items c.in_ok-start_with.ensures.starts c.start_with.ensures.passes

pub returns-clause-started : goal.returns-clause-started
returns-clause-started g c = λ starts were.
    let starters = c.args.starters.now.items in
    let passes = c.args.passes.now.items in
    let w = hand_there g.P.Phase.terms c.args.room.now starters passes c.requires.seats c.args.number c.requires.there in
    let at = slice_get_read starters (length starters) c.args.number c.index_mut-hand.result.now refl w c.index_mut-hand.ensures.value in
    one_started (g.P.Phase.terms c.args.room.now.played.value).starter c.args.number starts starters c.index_mut-hand.result.now c.start_with.new.hand at c.in_ok-start_with.ensures.starts were
