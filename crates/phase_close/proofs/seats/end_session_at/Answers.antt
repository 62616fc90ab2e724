use Rattle.std.proofs.Common.{length, refl}
use Rattle.std.proofs.lemmas.Option.{slice_get_read}
use Rattle.phase_close.proofs.Indexed.{ends_at, list_within, same_lists}
use Rattle.phase_close.proofs.seats.end_session_at.Goals as goal

pub returns-clause-same : goal.returns-clause-same
returns-clause-same g c =
    let xs = c.args.closings.now.items in
    let k = c.args.session.table in
    let e = c.requires.1 in
    let at = slice_get_read xs (length xs) k c.index_mut.result.now refl (list_within xs k (c.requires.0.protocol.port, e.entries) e.there) c.index_mut.ensures.value in
    let same = c.end_seats.ensures.same in
    same_lists xs k c.index_mut.result.now c.end_seats.new.closing at (λ j. (same.0 j, same.1 j))

pub returns-clause-ended : goal.returns-clause-ended
returns-clause-ended g c =
    let xs = c.args.closings.now.items in
    let k = c.args.session.table in
    let e = c.requires.1 in
    let at = slice_get_read xs (length xs) k c.index_mut.result.now refl (list_within xs k (c.requires.0.protocol.port, e.entries) e.there) c.index_mut.ensures.value in
    ends_at g.J.Judge.verdict xs c.index_mut.result.now c.args.session c.end_seats.result at c.end_seats.ensures.table c.end_seats.ensures.ended c.end_seats.ensures.heard c.end_seats.ensures.retired
