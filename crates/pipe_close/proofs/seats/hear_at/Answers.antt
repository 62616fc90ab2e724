use Rattle.std.proofs.Common.{arith, length, refl}
use Rattle.std.proofs.lemmas.Option.{slice_get_read}
use Rattle.jour.specs.Seats.{journal}
use Rattle.table_shared.specs.Phases.{IsHeard}
use Rattle.phase_close.proofs.Indexed.{list_within, same_lists}
use Rattle.pipe_close.proofs.Placed.{at_place, here_is}
use Rattle.pipe_close.proofs.seats.hear_at.Goals as goal

pub index_mut-requires : goal.index_mut-requires
index_mut-requires c =
    let inside = list_within c.args.closings.now.items c.args.place (journal c.args.cursor.0, c.requires.0) c.requires.1 in
    let many = c.args.closings.now.ok.0 in
    omega (arith, inside, many)

pub hear_cursor-requires : goal.hear_cursor-requires
hear_cursor-requires c =
    let xs = c.args.closings.now.items in
    let k = c.args.place in
    let r = c.requires in
    let here = journal c.args.cursor.0 in
    let at = slice_get_read xs (length xs) k c.index_mut.result.now refl (list_within xs k (here, r.0) r.1) c.index_mut.ensures.value in
    here_is xs k c.index_mut.result.now at here r

pub returns-clause-same : goal.returns-clause-same
returns-clause-same c =
    let xs = c.args.closings.now.items in
    let k = c.args.place in
    let r = c.requires in
    let here = journal c.args.cursor.0 in
    let at = slice_get_read xs (length xs) k c.index_mut.result.now refl (list_within xs k (here, r.0) r.1) c.index_mut.ensures.value in
    let same = c.hear_cursor.ensures.same in
    same_lists xs k c.index_mut.result.now c.hear_cursor.new.self at (λ j. (same.0 j, same.1 j))

pub returns-clause-heard : goal.returns-clause-heard
returns-clause-heard c =
    let xs = c.args.closings.now.items in
    let k = c.args.place in
    let r = c.requires in
    let here = journal c.args.cursor.0 in
    let at = slice_get_read xs (length xs) k c.index_mut.result.now refl (list_within xs k (here, r.0) r.1) c.index_mut.ensures.value in
    at_place xs k c.index_mut.result.now at here r (λ terms entries. IsHeard terms entries c.args.cursor.0.1) c.hear_cursor.ensures.heard
