use Rattle.std.proofs.Common.{refl, arith, length}
use Rattle.std.proofs.lemmas.Option.{slice_get_read, slice_get_within}
use Rattle.room_members.specs.Members.{room_seen}
use Rattle.room_actors.proofs.Applying.{recorded}
use Rattle.room_actors.proofs.Members.{hand_is, hand_there, line_is, number_is}
use Rattle.room_actors.proofs.apply.operate.Goals as goal

pub index_mut-hand-requires : goal.index_mut-hand-requires
index_mut-hand-requires g c =
    let w = hand_there g.P.Phase.terms g.P.Sends.exports g.P.Sends.rules c.args.room.now c.requires.room c.args.actor.now.number c.args.protocol c.args.op.now c.requires.can c.args.actor.now.hands.items c.args.actor.now.passes.items c.requires.seats in
    let n = c.args.actor.now.hands.ok.0 in
    omega (arith, n, w)

pub operate-requires-clause-there : goal.operate-requires-clause-there
operate-requires-clause-there g c =
    let can = c.requires.can in
    let w = slice_get_within c.args.room.now.members.items c.args.protocol can.member can.member_at in
    let n = c.args.room.now.members.ok.0 in
    omega (arith, n, w)

pub operate-requires-clause-line : goal.operate-requires-clause-line
operate-requires-clause-line g c = λ member at.
    let w = hand_there g.P.Phase.terms g.P.Sends.exports g.P.Sends.rules c.args.room.now c.requires.room c.args.actor.now.number c.args.protocol c.args.op.now c.requires.can c.args.actor.now.hands.items c.args.actor.now.passes.items c.requires.seats in
    let hand_at = slice_get_read c.args.actor.now.hands.items (length c.args.actor.now.hands.items) c.args.protocol c.index_mut-hand.result.now refl w c.index_mut-hand.ensures.value in
    line_is g.P.Phase.terms g.P.Sends.exports g.P.Sends.rules c.args.room.now c.requires.room c.args.actor.now.number c.args.protocol c.args.op.now c.requires.can c.args.place c.requires.line.0 _ member at c.requires.line.1
    (number_is g.P.Phase.terms g.P.Sends.exports g.P.Sends.rules c.args.room.now c.requires.room c.args.actor.now.number c.args.protocol c.args.op.now c.requires.can c.args.actor.now.hands.items c.args.actor.now.passes.items c.requires.seats c.index_mut-hand.result.now hand_at)

pub operate-requires-clause-hand : goal.operate-requires-clause-hand
operate-requires-clause-hand g c =
    let w = hand_there g.P.Phase.terms g.P.Sends.exports g.P.Sends.rules c.args.room.now c.requires.room c.args.actor.now.number c.args.protocol c.args.op.now c.requires.can c.args.actor.now.hands.items c.args.actor.now.passes.items c.requires.seats in
    let hand_at = slice_get_read c.args.actor.now.hands.items (length c.args.actor.now.hands.items) c.args.protocol c.index_mut-hand.result.now refl w c.index_mut-hand.ensures.value in
    hand_is g.P.Phase.terms g.P.Sends.exports g.P.Sends.rules c.args.room.now c.requires.room c.args.actor.now.number c.args.protocol c.args.op.now c.requires.can c.args.actor.now.hands.items c.args.actor.now.passes.items c.requires.seats c.index_mut-hand.result.now hand_at

pub operate-requires-clause-passes : goal.operate-requires-clause-passes
operate-requires-clause-passes g c = c.requires.seats.passes_are

pub returns-clause-same : goal.returns-clause-same
returns-clause-same g c = (refl, refl)

pub returns-clause-used : goal.returns-clause-used
returns-clause-used g c =
    let w = hand_there g.P.Phase.terms g.P.Sends.exports g.P.Sends.rules c.args.room.now c.requires.room c.args.actor.now.number c.args.protocol c.args.op.now c.requires.can c.args.actor.now.hands.items c.args.actor.now.passes.items c.requires.seats in (
      record {
        hand = c.index_mut-hand.result.now;
        hand_at = slice_get_read c.args.actor.now.hands.items (length c.args.actor.now.hands.items) c.args.protocol c.index_mut-hand.result.now refl w c.index_mut-hand.ensures.value;
        hand_new = c.operate.new.hand;
        hands_are = refl;
        number = c.operate.ensures.hand.1;
        hand_grown = (c.operate.ensures.hand.0, c.operate.ensures.prefix);
        passes_grown = c.operate.ensures.passes;
      },
      recorded c.operate.result (room_seen g.P.Phase.terms c.args.room.now) c.args.protocol c.args.place c.index_mut-hand.result.now c.operate.new.hand c.operate.new.passes.items c.operate.ensures.said c.operate.ensures.seen,
    )
