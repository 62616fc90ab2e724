use Rattle.std.proofs.Common.{sym, subst, ap, ◌∙◌, refl, arith, length, slice_set}
use Rattle.std.specs.Prelude.{slice_get}
use Rattle.std.proofs.lemmas.Option.{slice_get_read}
use Rattle.phase_legal.specs.Shown.{IsSeen}
use Rattle.phase_room.specs.Sessions.{protocol_terms}
use Rattle.room_members.proofs.Passes.{one_grown, one_there}
use Rattle.room_members.proofs.Rooms.{channel_here, home_here, pass_here, pass_there, seen_here, table_here, table_there}
use Rattle.room_members.proofs.room.Room.operate_own.Goals as goal

pub index-table-requires : goal.index-table-requires
index-table-requires g c = table_there g.P.Phase.terms g.P.Sends.exports g.P.Sends.rules c.args.self.now c.requires.room c.args.protocol c.args.session.now c.requires.there

pub index_mut-pass-requires : goal.index_mut-pass-requires
index_mut-pass-requires g c =
    let w = pass_there g.P.Phase.terms g.P.Sends.exports g.P.Sends.rules c.args.self.now c.requires.room c.args.protocol c.args.session.now c.requires.there c.args.passes.now.items c.requires.passes in
    let n = c.args.passes.now.ok.0 in
    omega (arith, n, w)

pub operate-requires-clause-here : goal.operate-requires-clause-here
operate-requires-clause-here g c =
    table_here g.P.Phase.terms g.P.Sends.exports g.P.Sends.rules c.args.self.now c.requires.room c.args.protocol c.args.session.now c.requires.there c.index-table.result.now c.index-table.ensures

pub operate-requires-clause-pass : goal.operate-requires-clause-pass
operate-requires-clause-pass g c =
    let passes = c.args.passes.now.items in
    let w = pass_there g.P.Phase.terms g.P.Sends.exports g.P.Sends.rules c.args.self.now c.requires.room c.args.protocol c.args.session.now c.requires.there passes c.requires.passes in
    let at = slice_get_read passes (length passes) c.args.session.now.table c.index_mut-pass.result.now refl w c.index_mut-pass.ensures.value in
    pass_here g.P.Phase.terms g.P.Sends.exports g.P.Sends.rules c.args.self.now c.requires.room c.args.protocol c.args.session.now c.requires.there passes c.requires.passes c.index_mut-pass.result.now at
    ∙ table_here g.P.Phase.terms g.P.Sends.exports g.P.Sends.rules c.args.self.now c.requires.room c.args.protocol c.args.session.now c.requires.there c.index-table.result.now c.index-table.ensures

pub operate-requires-clause-channel : goal.operate-requires-clause-channel
operate-requires-clause-channel g c = channel_here g.P.Phase.terms g.P.Sends.exports g.P.Sends.rules c.args.self.now c.requires.room c.args.protocol c.args.session.now c.requires.there

pub returns-in-Ok-clause-passes : goal.returns-in-Ok-clause-passes
returns-in-Ok-clause-passes g c =
    let passes = c.args.passes.now.items in
    let w = pass_there g.P.Phase.terms g.P.Sends.exports g.P.Sends.rules c.args.self.now c.requires.room c.args.protocol c.args.session.now c.requires.there passes c.requires.passes in
    let at = slice_get_read passes (length passes) c.args.session.now.table c.index_mut-pass.result.now refl w c.index_mut-pass.ensures.value in
    one_grown passes c.args.session.now.table c.index_mut-pass.result.now c.operate.new.pass at (c.operate.ensures.pass, c.operate.ensures.prefix.1)

pub returns-in-Err-clause-passes : goal.returns-in-Err-clause-passes
returns-in-Err-clause-passes g c =
    let passes = c.args.passes.now.items in
    let w = pass_there g.P.Phase.terms g.P.Sends.exports g.P.Sends.rules c.args.self.now c.requires.room c.args.protocol c.args.session.now c.requires.there passes c.requires.passes in
    let at = slice_get_read passes (length passes) c.args.session.now.table c.index_mut-pass.result.now refl w c.index_mut-pass.ensures.value in
    one_grown passes c.args.session.now.table c.index_mut-pass.result.now c.operate.new.pass at (c.operate.ensures.pass, c.operate.ensures.prefix.1)

pub returns-in-Ok-clause-seen : goal.returns-in-Ok-clause-seen
returns-in-Ok-clause-seen g c = λ port pass numbered there.
    let passes = c.args.passes.now.items in
    let room = c.args.self.now in
    let w = pass_there g.P.Phase.terms g.P.Sends.exports g.P.Sends.rules room c.requires.room c.args.protocol c.args.session.now c.requires.there passes c.requires.passes in
    let at = slice_get_read passes (length passes) c.args.session.now.table c.index_mut-pass.result.now refl w c.index_mut-pass.ensures.value in
    let home = home_here g.P.Phase.terms g.P.Sends.exports g.P.Sends.rules room c.requires.room c.args.protocol c.args.session.now c.requires.there in
    let new = one_there passes c.args.session.now.table c.index_mut-pass.result.now c.operate.new.pass at pass
    (ap (slice_get (slice_set passes c.args.session.now.table c.operate.new.pass)) (sym home) ∙ there) in
    seen_here g.P.Phase.terms g.P.Sends.exports g.P.Sends.rules room c.requires.room c.args.protocol c.args.session.now c.requires.there c.operate.new.hand pass port
    (λ journals of_phase. subst (λ z. IsSeen journals (protocol_terms g.P.Phase.terms c.args.session.now).number (protocol_terms g.P.Phase.terms c.args.session.now).port_number c.operate.new.hand z) (sym new) (c.in-Ok.ensures.seen journals of_phase))
    numbered
