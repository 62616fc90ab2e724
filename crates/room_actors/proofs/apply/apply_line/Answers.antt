use Rattle.std.proofs.lemmas.Result.{IfOk-weaker}
use Rattle.room_members.specs.Members.{room_seen}
use Rattle.room_actors.proofs.Applying.{does_apply, seated_apply}
use Rattle.room_actors.proofs.apply.apply_line.Goals as goal

pub returns-clause-seats : goal.returns-clause-seats
returns-clause-seats g c =
    let phase = g.P.Phase.terms c.args.room.now.played.value in
    seated_apply phase.setup (room_seen g.P.Phase.terms c.args.room.now) c.args.place c.args.actor.now c.operate.new.actor c.operate.ensures.same.0 c.args.protocol c.operate.ensures.used.0 c.requires.seats

pub returns-clause-does : goal.returns-clause-does
returns-clause-does g c = λ number.
    let phase = g.P.Phase.terms c.args.room.now.played.value in
    IfOk-weaker c.operate.result _ _
    (λ _ is. does_apply phase.setup (room_seen g.P.Phase.terms c.args.room.now) c.args.place c.args.actor.now c.operate.new.actor c.operate.ensures.same.0 c.args.asker number c.args.protocol c.args.op.now c.if-asker-actor.false c.operate.ensures.same.1 c.operate.ensures.used.0 is)
    c.operate.ensures.used.1
