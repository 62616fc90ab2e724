use Rattle.std.proofs.Common.{length, refl, subst, sym, ◌∙◌}
use Rattle.std.specs.Prelude.{vec_len}
use Rattle.std.proofs.lemmas.Result.{on_ok_weaker}
use Rattle.phase_pipes.specs.Sessions.{IsPipeSession, back_terms, out_terms, pipe_terms}
use Rattle.phase_room.proofs.Dealing.{longer_by_one}
use Rattle.room_members.specs.declared.member.Member.TheVariants.{Pipe}
use Rattle.room_members.proofs.begun.Begun.enter_pipe.Goals as goal

pub add-requires-clause-member : goal.add-requires-clause-member
add-requires-clause-member g c =
    let room = c.args.self.now.room in
    let pipe = c.in_ok-pipe.pipe in
    let terms = pipe_terms g.P.Phase.terms pipe in
    let out = out_terms g.P.Sends.exports g.P.Sends.rules pipe in
    let back = back_terms g.P.Sends.exports g.P.Sends.rules pipe in
    subst (λ z. IsPipeSession (g.P.Phase.terms z) room.tables.items (vec_len room.members) pipe.primary pipe.peer terms out back) (sym c.requires.played)
    (subst (λ n. IsPipeSession (g.P.Phase.terms c.args.played.now) room.tables.items n pipe.primary pipe.peer terms out back) (c.requires.number ∙ sym room.members.ok.0)
    (c.in_ok-pipe.ensures.session room.tables.items c.requires.tables.0 c.requires.tables.1))

pub returns-clause-count : goal.returns-clause-count
returns-clause-count g c =
    let old = c.args.self.now.room.members.items in
    on_ok_weaker c.add.result (λ e. longer_by_one old c.add.new.self.room.members.items (Pipe c.in_ok-pipe.pipe) (length old) refl e) c.add.ensures.added

pub returns-clause-added : goal.returns-clause-added
returns-clause-added g c =
    on_ok_weaker c.add.result (λ e. (c.in_ok-pipe.pipe, e, c.in_ok-pipe.ensures.new, c.in_ok-pipe.ensures.lanes.0, c.in_ok-pipe.ensures.lanes.1)) c.add.ensures.added
