use Rattle.std.proofs.Common.{◌≤◌, sym, ap, ◌∙◌, arith}
use Rattle.std.specs.Prelude.{slice_get}
use Rattle.room_open.proofs.Beginning.{is_opening}
use Rattle.room_open.proofs.room.seat_in.Goals as goal

pub seat_all-requires : goal.seat_all-requires
seat_all-requires g c =
    let hands = c.requires.entered.3.hands in
    let actors = c.requires.actors.0 in
    let passes = c.requires.actors.1 in
    (omega (arith, hands, actors), omega (arith, passes))

pub take_list-starters-requires : goal.take_list-starters-requires
take_list-starters-requires g c =
    let hands = c.requires.entered.3.hands in
    let actors = c.requires.actors.0 in
    let same = c.in_ok-seated.ensures.left.0.count in
    omega (arith, hands, actors, same)

pub take_list-shown-requires : goal.take_list-shown-requires
take_list-shown-requires g c =
    let passes = c.requires.actors.1 in
    let same = c.in_ok-seated.ensures.left.1.count in
    omega (arith, passes, same)

pub returns : goal.returns
returns g c = λ stood members laid told entered.
    let n = c.args.actors in
    let starter = c.requires.actors.0 in
    let made = c.in_ok-seated.ensures in
    let least : n ≤ n = omega arith in
    is_opening g.P.Phase.terms g.P.Sends.exports g.P.Sends.rules c.args.played.now c.args.begun c.args.passes.items c.requires.passes c.in_ok-seated.seated c.take_list-starters.result c.take_list-shown.result c.args.spares c.args.before (made.count ∙ starter) made.seated
    (ap (slice_get c.args.begun.hands.items) (sym starter) ∙ sym (made.left.0.each n least) ∙ c.take_list-starters.ensures.taken)
    (ap (slice_get c.args.passes.items) (sym starter) ∙ sym (made.left.1.each n least) ∙ c.take_list-shown.ensures.taken) c.requires.spares stood members laid told entered
