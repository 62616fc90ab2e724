use Rattle.std.proofs.Common.{◌∙◌, subst, sym}
use Rattle.import_lock.specs.Kept.{IsImports}
use Rattle.phase_room.proofs.Dues.{fresh}
use Rattle.room_run.proofs.Locks.{importing_kept, imports_kept}
use Rattle.room_run.proofs.telling.tell_imports.Goals as goal

pub tell_turns-requires : goal.tell_turns-requires
tell_turns-requires g c =
    let r = c.requires.imports in
    let is = (fresh g.J.Judge.verdict r.0 c.args.state.now c.in-None.is r.1).1.importing.turns in
    record { here = (r.3 ∙ sym is, r.4 ∙ sym is) }

pub share-requires : goal.share-requires
share-requires g c =
    let r = c.requires.imports in
    r.2 ∙ sym (fresh g.J.Judge.verdict r.0 c.args.state.now c.in-None.is r.1).1.importing.port

pub returns-in-Some-clause-kept : goal.returns-in-Some-clause-kept
returns-in-Some-clause-kept g c = λ key imports. imports

pub returns-in-None-clause-kept : goal.returns-in-None-clause-kept
returns-in-None-clause-kept g c = λ key imports.
    let told = c.tell_turns.ensures.turns in
    subst (IsImports g.J.Judge.verdict key) (sym c.share.ensures.same) (imports_kept g.J.Judge.verdict key c.args.state.now c.tell_turns.new.turns told.0 told.1 c.in-None.is imports)

pub returns-in-None-clause-pass : goal.returns-in-None-clause-pass
returns-in-None-clause-pass g c = (c.share.ensures.here, c.share.ensures.prefix)

pub returns-in-None-clause-seen : goal.returns-in-None-clause-seen
returns-in-None-clause-seen g c = λ key room imports is.
    let told = c.tell_turns.ensures.turns in
    let free = fresh g.J.Judge.verdict key c.args.state.now c.in-None.is imports in
    c.share.ensures.seen key free.0 room c.tell_turns.new.hand (importing_kept g.J.Judge.verdict key c.args.state.now c.tell_turns.new.turns told.0 told.1 free.0 free.1.importing) (free.1.rest c.in-None.is) is
    (c.tell_turns.ensures.all ∙ sym told.1)
