use Rattle.std.proofs.Common.{length, refl, subst}
use Rattle.std.proofs.lemmas.Option.{slice_get_read}
use Rattle.core_setup.proofs.PairLemmas.{get_one}
use Rattle.table_shared.specs.Phases.{IsHeard}
use Rattle.phase_close.specs.Closed.{TableList, all_lists, list_of}
use Rattle.phase_close.proofs.Indexed.{get_map, same_lists}
use Rattle.phase_close.proofs.tables.hear_at.Goals as goal

pub hear_pass-requires : goal.hear_pass-requires
hear_pass-requires c =
    let xs = c.args.closings.now.items in
    let k = c.args.place in
    let at = slice_get_read xs (length xs) k c.index_mut.result.now refl c.requires.inside c.index_mut.ensures.value in
    c.requires.here (list_of c.index_mut.result.now) (get_map list_of xs k c.index_mut.result.now at)

pub returns-clause-same : goal.returns-clause-same
returns-clause-same c =
    let xs = c.args.closings.now.items in
    let k = c.args.place in
    let at = slice_get_read xs (length xs) k c.index_mut.result.now refl c.requires.inside c.index_mut.ensures.value in
    let same = c.hear_pass.ensures.same in
    same_lists xs k c.index_mut.result.now c.hear_pass.new.self at (λ j. (same.0 j, same.1 j))

pub returns-clause-heard : goal.returns-clause-heard
returns-clause-heard c = λ l there.
    let xs = c.args.closings.now.items in
    let k = c.args.place in
    let at = slice_get_read xs (length xs) k c.index_mut.result.now refl c.requires.inside c.index_mut.ensures.value in
    let same = get_one (all_lists xs) k (list_of c.index_mut.result.now) l (get_map list_of xs k c.index_mut.result.now at) there in
    subst (λ (z : TableList). IsHeard z.0.1 z.1 c.args.pass.1) same c.hear_pass.ensures.heard
