use Rattle.std.proofs.Common.{refl, arith, length, subst}
use Rattle.std.proofs.lemmas.Option.{slice_get_read}
use Rattle.std.proofs.lemmas.Result.{IfOk-weaker}
use Rattle.jour.specs.Seats.{front}
use Rattle.room_run.specs.Inside.{AreOfOthers}
use Rattle.room_run.proofs.Hearing.{new_at, new_on, number_at}
use Rattle.room_run.proofs.telling.tell_one.Goals as goal

pub index_mut-actor-requires : goal.index_mut-actor-requires
index_mut-actor-requires g c =
    let w = c.requires.place in
    let count = c.requires.actors.count in
    let n = c.args.actors.now.ok.0 in
    omega (arith, w, count, n)

pub tell_actor-requires-clause-new : goal.tell_actor-requires-clause-new
tell_actor-requires-clause-new g c =
    let actors = c.args.actors.now.items in
    let w = c.requires.place in
    let count = c.requires.actors.count in
    let at = slice_get_read actors (length actors) c.args.place c.index_mut-actor.result.now refl (omega (arith, w, count)) c.index_mut-actor.ensures.value in
    new_at g.P.Phase.terms c.args.room.now actors c.requires.actors c.args.place c.index_mut-actor.result.now c.index_mut-actor.result.now at

pub returns-clause-actors : goal.returns-clause-actors
returns-clause-actors g c =
    let actors = c.args.actors.now.items in
    let w = c.requires.place in
    let count = c.requires.actors.count in
    let at = slice_get_read actors (length actors) c.args.place c.index_mut-actor.result.now refl (omega (arith, w, count)) c.index_mut-actor.ensures.value in
    IfOk-weaker c.tell_actor.result _ _ (λ _ is. new_on g.P.Phase.terms c.args.room.now actors c.requires.actors c.args.place c.index_mut-actor.result.now c.tell_actor.new.actor at c.tell_actor.ensures.same is) c.tell_actor.ensures.new

pub returns-clause-none : goal.returns-clause-none
returns-clause-none g c =
    let actors = c.args.actors.now.items in
    let w = c.requires.place in
    let count = c.requires.actors.count in
    let at = slice_get_read actors (length actors) c.args.place c.index_mut-actor.result.now refl (omega (arith, w, count)) c.index_mut-actor.ensures.value in
    IfOk-weaker c.tell_actor.result _ _ (λ _ none. subst (λ k. AreOfOthers k (front c.args.starter.now.1)) (number_at g.P.Phase.terms c.args.room.now actors c.requires.actors c.args.place c.index_mut-actor.result.now c.tell_actor.new.actor at) none) c.tell_actor.ensures.none
