use Rattle.std.proofs.Common.{subst, sym}
use Rattle.std.specs.Prelude.{IfOk}
use Rattle.room_members.specs.Members.{room_seen}
use Rattle.sys_run.specs.Scripts.{line_of}
use Rattle.phase_actors.specs.Steps.{Does}
use Rattle.room_actors.proofs.acting.act_line.Goals as goal

pub returns-in-Apply-clause-does : goal.returns-in-Apply-clause-does
returns-in-Apply-clause-does g c =
    subst (λ z. IfOk c.apply_line.result (λ _. Does (g.P.Phase.terms c.args.room.now.played.value).setup (room_seen g.P.Phase.terms c.args.room.now) c.args.place (line_of c.args.queries.now z) c.args.actor.now c.apply_line.new.actor))
    (sym c.in-Apply.is) (c.apply_line.ensures.does c.in-Apply.line)
