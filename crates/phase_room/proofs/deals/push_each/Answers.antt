use Rattle.std.proofs.Common.{◌≡◌, ◌+◌, ◌<◌, [], ◌∷◌, ◌++◌, length, set, refl, sym, ap, subst, ◌∙◌, arith, append_assoc, length-append}
use Rattle.std.specs.Prelude.{slice_get}
use Rattle.std.proofs.lemmas.Option.{slice_get_read}
use Rattle.phase_room.specs.Dealt.{AreLonger}
use Rattle.phase_room.proofs.Dealing.{none_longer, one_longer, within_all}
use Rattle.phase_room.proofs.deals.push_each.Goals as goal

pub loop-item-init : goal.loop-item-init
loop-item-init g c = ([], c.into_iter-item-iterator.ensures.into_iter_gives.0, refl, none_longer c.args.lists.now.items)

pub loop-item-preserved : goal.loop-item-preserved
loop-item-preserved g c =
    let i = c.loop-item.invariant in
    let old = c.args.lists.now.items in
    let new = c.loop-item.lists.items in
    let item = c.in-Some.item in
    let rest = c.next.new.self.rest.items in
    let joined : i.0 ++ item ∷ rest ≡ c.args.items.items = ap (λ l. i.0 ++ l) (sym c.in-Some.ensures.steps.0) ∙ i.1 in
    let less = within_all i.0 rest c.args.items.items item joined in
    let all = c.requires in
    let count = i.3.count in
    let place = i.2 in
    let many = length-append i.0 (item ∷ []) in
    let within : length i.0 < length new = omega (arith, less, all, count) in
    let here : c.loop-item.place < length new = omega (arith, within, place) in
    let next : c.loop-item.place + 1 ≡ length (i.0 ++ item ∷ []) = omega (arith, place, many) in
    let at = ap (slice_get new) (sym place) ∙ slice_get_read new (length new) c.loop-item.place c.index_mut.result.now refl here c.index_mut.ensures.value in (
      i.0 ++ item ∷ [],
      append_assoc i.0 (item ∷ []) rest ∙ joined,
      next,
      subst (λ k. AreLonger old (set new k c.push.new.self) (i.0 ++ item ∷ [])) (sym place) (one_longer old new i.0 item c.index_mut.result.now c.push.new.self i.3 within at c.in_ok-push.ensures.items),
    )
