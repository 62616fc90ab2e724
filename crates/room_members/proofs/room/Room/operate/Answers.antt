use Rattle.std.proofs.Common.{Some, ap, ◌∙◌}
use Rattle.std.specs.Prelude.{vec_len}
use Rattle.std.proofs.lemmas.Option.{slice_get_read}
use Rattle.std.proofs.lemmas.Result.{IfOk-weaker}
use Rattle.jour.specs.Seats.{journal}
use Rattle.room_members.proofs.Pipes.{pipe_seen}
use Rattle.room_members.proofs.Rooms.{turns_here}
use Rattle.room_members.specs.declared.member.Member.TheVariants.{Own, Pipe}
use Rattle.room_members.proofs.room.Room.operate.Goals as goal

pub operate_own-requires-clause-line : goal.operate_own-requires-clause-line
operate_own-requires-clause-line g c =
    let members = c.args.self.now.members in
    let at = slice_get_read members.items (vec_len members) c.args.protocol c.index.result.now members.ok.0 c.requires.there c.index.ensures in
    c.requires.line (Own c.in-Own.session) (at ∙ ap Some c.in-Own.is)

pub operate_own-requires-clause-hand : goal.operate_own-requires-clause-hand
operate_own-requires-clause-hand g c =
    let members = c.args.self.now.members in
    let at = slice_get_read members.items (vec_len members) c.args.protocol c.index.result.now members.ok.0 c.requires.there c.index.ensures in
    turns_here g.P.Phase.terms c.args.self.now c.args.protocol (Own c.in-Own.session) (journal c.args.hand.now) (at ∙ ap Some c.in-Own.is) c.requires.hand

pub operate_pipe-requires-clause-there : goal.operate_pipe-requires-clause-there
operate_pipe-requires-clause-there g c =
    let members = c.args.self.now.members in
    slice_get_read members.items (vec_len members) c.args.protocol c.index.result.now members.ok.0 c.requires.there c.index.ensures ∙ ap Some c.in-Pipe.is

pub operate_pipe-requires-clause-line : goal.operate_pipe-requires-clause-line
operate_pipe-requires-clause-line g c =
    let members = c.args.self.now.members in
    let at = slice_get_read members.items (vec_len members) c.args.protocol c.index.result.now members.ok.0 c.requires.there c.index.ensures in
    c.requires.line (Pipe c.in-Pipe.pipe) (at ∙ ap Some c.in-Pipe.is)

pub operate_pipe-requires-clause-hand : goal.operate_pipe-requires-clause-hand
operate_pipe-requires-clause-hand g c =
    let members = c.args.self.now.members in
    let at = slice_get_read members.items (vec_len members) c.args.protocol c.index.result.now members.ok.0 c.requires.there c.index.ensures in
    turns_here g.P.Phase.terms c.args.self.now c.args.protocol (Pipe c.in-Pipe.pipe) (journal c.args.hand.now) (at ∙ ap Some c.in-Pipe.is) c.requires.hand

pub returns-in-Pipe-clause-seen : goal.returns-in-Pipe-clause-seen
returns-in-Pipe-clause-seen g c =
    let room = c.args.self.now in
    let members = room.members in
    let at = slice_get_read members.items (vec_len members) c.args.protocol c.index.result.now members.ok.0 c.requires.there c.index.ensures in
    IfOk-weaker c.operate_pipe.result _ _
    (λ _ _. λ port pass _ _. pipe_seen g.P.Phase.terms g.P.Sends.exports g.P.Sends.rules room c.requires.room c.args.protocol c.in-Pipe.pipe (at ∙ ap Some c.in-Pipe.is) port c.operate_pipe.new.hand pass)
    c.operate_pipe.ensures.said
