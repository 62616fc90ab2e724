use Rattle.std.proofs.Common.{◌++◌, ◌∙◌, subst, sym}
use Rattle.jour.specs.Seats.{front}
use Rattle.import_lock.specs.Calls.{IsDue}
use Rattle.import_lock.specs.Terms.{ops_told}
use Rattle.phase_room.proofs.Dues.{any_ok, fresh}
use Rattle.phase_room.proofs.session.Session.apply.Goals as goal

pub op_turn-requires-clause-turn : goal.op_turn-requires-clause-turn
op_turn-requires-clause-turn g c =
    let r = c.requires.free in
    let f = fresh g.J.Judge.verdict r.0 c.args.state.now c.requires.none r.1 in
    record { key = r.0; made = f.0; importing = f.1.importing; line = r.4 }

pub op_turn-requires-clause-hand : goal.op_turn-requires-clause-hand
op_turn-requires-clause-hand g c =
    let r = c.requires.free in
    r.3 ∙ sym (fresh g.J.Judge.verdict r.0 c.args.state.now c.requires.none r.1).1.importing.turns

pub op_turn-requires-clause-here : goal.op_turn-requires-clause-here
op_turn-requires-clause-here g c =
    let r = c.requires.free in
    (fresh g.J.Judge.verdict r.0 c.args.state.now c.requires.none r.1).1.importing.port ∙ r.2

pub op_turn-requires-clause-rest : goal.op_turn-requires-clause-rest
op_turn-requires-clause-rest g c =
    let r = c.requires.free in
    (fresh g.J.Judge.verdict r.0 c.args.state.now c.requires.none r.1).1.rest c.requires.none

pub share-requires : goal.share-requires
share-requires g c =
    let r = c.requires.free in
    let f = fresh g.J.Judge.verdict r.0 c.args.state.now c.requires.none r.1 in
    c.requires.pass ∙ sym ((c.in-Ok.ensures.due r.0 f.0 f.1 c.requires.none r.4).1.importing.port ∙ r.2)

pub finish-requires-clause-due : goal.finish-requires-clause-due
finish-requires-clause-due g c =
    let r = c.requires.free in
    let f = fresh g.J.Judge.verdict r.0 c.args.state.now c.requires.none r.1 in
    let d = c.in-Ok.ensures.due r.0 f.0 f.1 c.requires.none r.4 in
    let ops = ops_told r.0 (front c.args.state.now.turns.1) in
    (r.0, f.0 ++ d.0, c.args.op.now, ops, subst (IsDue g.J.Judge.verdict r.0 (f.0 ++ d.0) c.args.op.now ops c.in-Ok.plan.mark) (sym c.share.ensures.same) d.1, r.2, r.5)

pub returns-in-Ok-clause-kept : goal.returns-in-Ok-clause-kept
returns-in-Ok-clause-kept g c = λ key imports line.
    let f = fresh g.J.Judge.verdict key c.args.state.now c.requires.none imports in
    let d = c.in-Ok.ensures.due key f.0 f.1 c.requires.none line in
    let ops = ops_told key (front c.args.state.now.turns.1) in
    c.finish.ensures.kept key (f.0 ++ d.0) c.args.op.now ops (subst (IsDue g.J.Judge.verdict key (f.0 ++ d.0) c.args.op.now ops c.in-Ok.plan.mark) (sym c.share.ensures.same) d.1)

pub returns-in-Ok-clause-said : goal.returns-in-Ok-clause-said
returns-in-Ok-clause-said g c = any_ok c.finish.result _ c.in-Ok.ensures.said

pub returns-in-Ok-clause-seen : goal.returns-in-Ok-clause-seen
returns-in-Ok-clause-seen g c = any_ok c.finish.result _ (λ key room imports line is.
    let f = fresh g.J.Judge.verdict key c.args.state.now c.requires.none imports in
    let d = c.in-Ok.ensures.due key f.0 f.1 c.requires.none line in
    c.share.ensures.seen key (f.0 ++ d.0) room c.op_turn.new.hand d.1.importing c.in-Ok.ensures.rest is c.in-Ok.ensures.seen)

pub returns-in-Err-clause-kept : goal.returns-in-Err-clause-kept
returns-in-Err-clause-kept g c = λ key imports line. c.in-Err.ensures.kept key imports c.requires.none line
