use Rattle.std.proofs.Common.{◌≡◌, ◌++◌, ◌∷◌, [], sym, ap, subst, ◌∙◌, refl}
use Rattle.std.specs.Prelude.{slice_get}
use Rattle.std.proofs.lemmas.Result.{IfOk-weaker}
use Rattle.room_members.specs.Members.{room_seen}
use Rattle.sys_run.specs.Scripts.{asked_table, table_in}
use Rattle.phase_actors.specs.Steps.{Does, IsAnswered, showing}
use Rattle.phase_actors.specs.declared.actor.Actor.{Actor}
use Rattle.phase_actors.proofs.Lines.{does_show}
use Rattle.room_actors.proofs.show.show_line.Goals as goal

pub returns-clause-does : goal.returns-clause-does
returns-clause-does g c =
    let phase = g.P.Phase.terms c.args.room.now.played.value in
    let old = c.args.actor.now in
    let told = c.in_ok-told.told in
    let new : Actor = record { number = old.number; hands = old.hands; passes = c.answer.new.passes; replies = c.note.new.replies } in
    let answered = subst (λ z. IsAnswered z c.args.number old.passes.items c.answer.new.passes.items told) c.requires.setup c.in_ok-told.ensures.answered in
    let asked = ap table_in (ap (λ z. slice_get z c.args.number) (sym c.requires.queries) ∙ answered.query_at) ∙ sym answered.table in
    IfOk-weaker c.note.result (λ _. c.note.new.replies.items ≡ old.replies.items ++ told ∷ [])
    (λ _. Does phase.setup (room_seen g.P.Phase.terms c.args.room.now) c.args.place (showing c.args.asker (asked_table c.args.queries.now c.args.number) c.args.number) old new)
    (λ _ is. does_show phase.setup (room_seen g.P.Phase.terms c.args.room.now) c.args.place old new refl c.args.asker (asked_table c.args.queries.now c.args.number) c.args.number told c.if-asker-actor.false asked refl is answered)
    c.note.ensures
