use Rattle.std.proofs.Common.{refl, arith, length}
use Rattle.std.proofs.lemmas.Option.{slice_get_read}
use Rattle.room_members.specs.Members.{room_seen}
use Rattle.room_run.proofs.Hearing.{hand_is, hand_there, heard_all, heard_none, number_is}
use Rattle.room_run.proofs.telling.tell_actor.Goals as goal

pub index_mut-hand-requires : goal.index_mut-hand-requires
index_mut-hand-requires g c =
    let w = hand_there g.P.Phase.terms c.args.room.now c.args.actor.now c.requires.new c.args.number c.requires.there in
    let n = c.args.actor.now.hands.ok.0 in
    omega (arith, n, w)

pub tell_hand-requires-clause-hand : goal.tell_hand-requires-clause-hand
tell_hand-requires-clause-hand g c =
    let hands = c.args.actor.now.hands.items in
    let w = hand_there g.P.Phase.terms c.args.room.now c.args.actor.now c.requires.new c.args.number c.requires.there in
    let at = slice_get_read hands (length hands) c.args.number c.index_mut-hand.result.now refl w c.index_mut-hand.ensures.value in
    hand_is g.P.Phase.terms c.args.room.now c.args.actor.now c.requires.new c.args.number c.index_mut-hand.result.now at

pub tell_hand-requires-clause-passes : goal.tell_hand-requires-clause-passes
tell_hand-requires-clause-passes g c = c.requires.new.acting.passes_are

pub returns-clause-new : goal.returns-clause-new
returns-clause-new g c =
    let hands = c.args.actor.now.hands.items in
    let w = hand_there g.P.Phase.terms c.args.room.now c.args.actor.now c.requires.new c.args.number c.requires.there in
    let at = slice_get_read hands (length hands) c.args.number c.index_mut-hand.result.now refl w c.index_mut-hand.ensures.value in
    heard_all c.tell_hand.result (g.P.Phase.terms c.args.room.now.played.value).setup (room_seen g.P.Phase.terms c.args.room.now) c.args.actor.now.number c.args.number hands c.args.actor.now.passes.items c.tell_hand.new.passes.items
    c.args.actor.now.replies.items c.args.starter.now c.index_mut-hand.result.now c.tell_hand.new.hand at c.requires.new c.tell_hand.ensures.heard c.tell_hand.ensures.passes c.tell_hand.ensures.seen

pub returns-clause-none : goal.returns-clause-none
returns-clause-none g c =
    let hands = c.args.actor.now.hands.items in
    let w = hand_there g.P.Phase.terms c.args.room.now c.args.actor.now c.requires.new c.args.number c.requires.there in
    let at = slice_get_read hands (length hands) c.args.number c.index_mut-hand.result.now refl w c.index_mut-hand.ensures.value in
    heard_none c.tell_hand.result (g.P.Phase.terms c.args.room.now.played.value).setup (room_seen g.P.Phase.terms c.args.room.now) c.args.actor.now.number c.args.number hands c.args.actor.now.passes.items
    c.args.actor.now.replies.items c.args.starter.now c.index_mut-hand.result.now c.tell_hand.new.hand at c.requires.new (number_is g.P.Phase.terms c.args.room.now c.args.actor.now c.requires.new c.args.number c.index_mut-hand.result.now at) c.tell_hand.ensures.heard
