use Rattle.std.proofs.Common.{sym, subst, ap, ◌∙◌, refl, arith, length, slice_set}
use Rattle.std.specs.Prelude.{slice_get}
use Rattle.std.proofs.lemmas.Option.{slice_get_read}
use Rattle.std.proofs.lemmas.Result.{IfOk-weaker}
use Rattle.import_lock.specs.Locks.{terms_of}
use Rattle.phase_legal.specs.Shown.{IsSeen}
use Rattle.phase_room.specs.Sessions.{protocol_terms}
use Rattle.room_members.proofs.Passes.{one_grown, one_there}
use Rattle.room_members.proofs.Rooms.{home_here, pass_here, pass_there, seen_here}
use Rattle.room_run.proofs.telling.tell_own.Goals as goal

pub index_mut-pass-requires : goal.index_mut-pass-requires
index_mut-pass-requires g c =
    let w = pass_there g.P.Phase.terms g.P.Sends.exports g.P.Sends.rules c.args.room.now c.requires.room c.args.number c.args.session.now c.requires.there c.args.passes.now.items c.requires.passes in
    let n = c.args.passes.now.ok.0 in
    omega (arith, n, w)

pub tell_imports-told-requires : goal.tell_imports-told-requires
tell_imports-told-requires g c =
    let passes = c.args.passes.now.items in
    let w = pass_there g.P.Phase.terms g.P.Sends.exports g.P.Sends.rules c.args.room.now c.requires.room c.args.number c.args.session.now c.requires.there passes c.requires.passes in
    let at = slice_get_read passes (length passes) c.args.session.now.table c.index_mut-pass.result.now refl w c.index_mut-pass.ensures.value in
    let here = pass_here g.P.Phase.terms g.P.Sends.exports g.P.Sends.rules c.args.room.now c.requires.room c.args.number c.args.session.now c.requires.there passes c.requires.passes c.index_mut-pass.result.now at in
    record { imports = (terms_of g.P.Phase.terms c.args.session.now.import.1, c.lock-held.ensures.value, here, c.requires.hands.0, c.requires.hands.1) }

pub unlock-requires-clause-value : goal.unlock-requires-clause-value
unlock-requires-clause-value g c = c.tell_imports-told.ensures.kept (terms_of g.P.Phase.terms c.args.session.now.import.1) c.lock-held.ensures.value

pub returns-clause-passes : goal.returns-clause-passes
returns-clause-passes g c =
    let passes = c.args.passes.now.items in
    let w = pass_there g.P.Phase.terms g.P.Sends.exports g.P.Sends.rules c.args.room.now c.requires.room c.args.number c.args.session.now c.requires.there passes c.requires.passes in
    let at = slice_get_read passes (length passes) c.args.session.now.table c.index_mut-pass.result.now refl w c.index_mut-pass.ensures.value in
    IfOk-weaker c.tell_imports-told.result _ _ (λ _ grown. one_grown passes c.args.session.now.table c.index_mut-pass.result.now c.tell_imports-told.new.pass at grown) c.tell_imports-told.ensures.pass

pub returns-clause-seen : goal.returns-clause-seen
returns-clause-seen g c =
    let passes = c.args.passes.now.items in
    let room = c.args.room.now in
    let w = pass_there g.P.Phase.terms g.P.Sends.exports g.P.Sends.rules room c.requires.room c.args.number c.args.session.now c.requires.there passes c.requires.passes in
    let at = slice_get_read passes (length passes) c.args.session.now.table c.index_mut-pass.result.now refl w c.index_mut-pass.ensures.value in
    let home = home_here g.P.Phase.terms g.P.Sends.exports g.P.Sends.rules room c.requires.room c.args.number c.args.session.now c.requires.there in
    let key = terms_of g.P.Phase.terms c.args.session.now.import.1 in
    IfOk-weaker c.tell_imports-told.result _ _
    (λ _ seen. λ port pass numbered there.
    let new = one_there passes c.args.session.now.table c.index_mut-pass.result.now c.tell_imports-told.new.pass at pass
    (ap (slice_get (slice_set passes c.args.session.now.table c.tell_imports-told.new.pass)) (sym home) ∙ there) in
    seen_here g.P.Phase.terms g.P.Sends.exports g.P.Sends.rules room c.requires.room c.args.number c.args.session.now c.requires.there c.tell_imports-told.new.hand pass port
    (λ journals of_phase. subst (λ z. IsSeen journals (protocol_terms g.P.Phase.terms c.args.session.now).number (protocol_terms g.P.Phase.terms c.args.session.now).port_number c.tell_imports-told.new.hand z) (sym new) (seen key journals c.lock-held.ensures.value of_phase))
    numbered)
    c.tell_imports-told.ensures.seen
