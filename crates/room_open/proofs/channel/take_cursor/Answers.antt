use Rattle.std.proofs.Common.{◌≡◌, ◌<◌, Some, length, refl, sym, subst}
use Rattle.std.specs.Prelude.{slice_get}
use Rattle.std.specs.declared.alloc.Global.{Global}
use Rattle.std.specs.declared.vec.Vec.{Vec}
use Rattle.std.proofs.lemmas.Option.{slice_get_read}
use Rattle.core_setup.proofs.PairLemmas.{get_one, get_within}
use Rattle.room_open.specs.Laid.{CursorView}
use Rattle.room_open.proofs.channel.take_cursor.Goals as goal

pub index_mut-requires : goal.index_mut-requires
index_mut-requires c =
    let v = c.args.cursors.now in
    subst (λ n. c.args.channel < n) (sym v.ok.0) (get_within v.items c.args.channel c.requires.0 c.requires.1)

pub swap_remove-requires : goal.swap_remove-requires
swap_remove-requires c =
    let v = c.args.cursors.now in
    let was = c.index_mut.result.now in
    let inside = get_within v.items c.args.channel c.requires.0 c.requires.1 in
    let same = get_one v.items c.args.channel c.requires.0 was c.requires.1 (slice_get_read v.items (length v.items) c.args.channel was refl inside c.index_mut.ensures.value) in
    subst (λ n. c.args.table < n) (sym was.ok.0) (subst (λ (z : Vec CursorView Global). c.args.table < length z.items) same c.requires.2)

pub returns-clause-taken : goal.returns-clause-taken
returns-clause-taken c = λ list at.
    let v = c.args.cursors.now in
    let was = c.index_mut.result.now in
    let inside = get_within v.items c.args.channel list at in
    let same = get_one v.items c.args.channel was list (slice_get_read v.items (length v.items) c.args.channel was refl inside c.index_mut.ensures.value) at in
    let one = get_one v.items c.args.channel c.requires.0 was c.requires.1 (slice_get_read v.items (length v.items) c.args.channel was refl inside c.index_mut.ensures.value) in
    let less = subst (λ (z : Vec CursorView Global). c.args.table < length z.items) one c.requires.2 in
    subst (λ (z : Vec CursorView Global). slice_get z.items c.args.table ≡ Some c.swap_remove.result) same
    (slice_get_read was.items (length was.items) c.args.table c.swap_remove.result refl less c.swap_remove.ensures.value)
