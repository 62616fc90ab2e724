use Rattle.std.proofs.Common.{Some, ap, arith, ◌∙◌}
use Rattle.std.specs.Prelude.{vec_len}
use Rattle.std.proofs.lemmas.Option.{slice_get_read}
use Rattle.jour.specs.Seats.{journal}
use Rattle.phase_actors.proofs.Growing.{all_grown_self}
use Rattle.room_members.proofs.Pipes.{pipe_seen}
use Rattle.room_members.proofs.Rooms.{turns_here}
use Rattle.room_members.specs.declared.member.Member.TheVariants.{Own, Pipe}
use Rattle.room_run.proofs.telling.tell_hand.Goals as goal

pub index-requires : goal.index-requires
index-requires g c = let w = c.requires.there in let n = c.args.room.now.members.ok.0 in omega (arith, n, w)

pub tell_own-requires-clause-there : goal.tell_own-requires-clause-there
tell_own-requires-clause-there g c =
    let members = c.args.room.now.members in
    let w = c.requires.there in
    let n = members.ok.0 in
    slice_get_read members.items (vec_len members) c.args.number c.index.result.now n (omega (arith, n, w)) c.index.ensures ∙ ap Some c.in-Own.is

pub tell_own-requires-clause-hands : goal.tell_own-requires-clause-hands
tell_own-requires-clause-hands g c =
    let members = c.args.room.now.members in
    let w = c.requires.there in
    let n = members.ok.0 in
    let at = slice_get_read members.items (vec_len members) c.args.number c.index.result.now n (omega (arith, n, w)) c.index.ensures ∙ ap Some c.in-Own.is in (
      turns_here g.P.Phase.terms c.args.room.now c.args.number (Own c.in-Own.session) (journal c.args.other.now) at c.requires.other,
      turns_here g.P.Phase.terms c.args.room.now c.args.number (Own c.in-Own.session) (journal c.args.hand.now) at c.requires.hand,
    )

pub tell_pipe-requires : goal.tell_pipe-requires
tell_pipe-requires g c =
    let members = c.args.room.now.members in
    let w = c.requires.there in
    let n = members.ok.0 in
    let at = slice_get_read members.items (vec_len members) c.args.number c.index.result.now n (omega (arith, n, w)) c.index.ensures ∙ ap Some c.in-Pipe.is in (
      turns_here g.P.Phase.terms c.args.room.now c.args.number (Pipe c.in-Pipe.pipe) (journal c.args.other.now) at c.requires.other,
      turns_here g.P.Phase.terms c.args.room.now c.args.number (Pipe c.in-Pipe.pipe) (journal c.args.hand.now) at c.requires.hand,
    )

pub returns-in-Pipe-clause-passes : goal.returns-in-Pipe-clause-passes
returns-in-Pipe-clause-passes g c = all_grown_self c.args.passes.now.items

pub returns-in-Pipe-clause-seen : goal.returns-in-Pipe-clause-seen
returns-in-Pipe-clause-seen g c = λ port pass _ _.
    let members = c.args.room.now.members in
    let w = c.requires.there in
    let n = members.ok.0 in
    let at = slice_get_read members.items (vec_len members) c.args.number c.index.result.now n (omega (arith, n, w)) c.index.ensures ∙ ap Some c.in-Pipe.is in
    pipe_seen g.P.Phase.terms g.P.Sends.exports g.P.Sends.rules c.args.room.now c.requires.room c.args.number c.in-Pipe.pipe at port c.tell_pipe.new.hand pass
