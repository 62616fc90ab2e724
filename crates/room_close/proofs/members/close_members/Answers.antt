use Rattle.std.proofs.Common.{◌≡◌, ◌≤◌, [], ◌∷◌, ◌++◌, length, refl, sym, ap, subst, ◌∙◌, arith, append-nil, append_assoc, length-append}
use Rattle.std.specs.Prelude.{slice_get}
use Rattle.std.proofs.Math.Nat.{le_refl}
use Rattle.std.proofs.lemmas.List.{nil_from_length}
use Rattle.core_setup.proofs.PairLemmas.{get_within}
use Rattle.phase_close.proofs.Hearing.{mid_at}
use Rattle.phase_close.proofs.Lefts.{if_each, if_one}
use Rattle.room_ends.specs.Left.{AreHandsOf, AreMembersLeft, IsMemberLeft}
use Rattle.room_close.proofs.Lefts.{none_left, one_left}
use Rattle.room_close.proofs.members.close_members.Goals as goal

pub loop-member-init : goal.loop-member-init
loop-member-init g c =
    let all = c.args.hands.items in
    record {
      done = [];
      all = c.into_iter-member-iterator.ensures.into_iter_gives.0;
      place_is = refl;
      many = refl;
      later = λ k least. refl;
      left =
          subst (AreMembersLeft g.P.Phase.terms g.P.Sends.exports g.P.Sends.rules g.J.Judge.verdict [] all) (sym c.new-lefts.ensures.items)
          (none_left g.P.Phase.terms g.P.Sends.exports g.P.Sends.rules g.J.Judge.verdict all);
    }

pub close_next-requires-clause-inside : goal.close_next-requires-clause-inside
close_next-requires-clause-inside g c =
    let i = c.loop-member.invariant in
    let x = c.in-Some.member in
    let rest = c.next.new.self.rest.items in
    let joined = ap (λ l. i.done ++ l) (sym c.in-Some.ensures.steps.0) ∙ i.all in
    let there = ap (λ z. slice_get z (length i.done)) (sym joined) ∙ mid_at i.done x rest in
    let inside = get_within c.args.members.items (length i.done) x there in
    let count = c.requires.2.hands_are.count in
    let place = i.place_is in
    let many = i.many in
    omega (arith, inside, count, place, many)

pub close_next-requires-clause-member : goal.close_next-requires-clause-member
close_next-requires-clause-member g c =
    let i = c.loop-member.invariant in
    let x = c.in-Some.member in
    let rest = c.next.new.self.rest.items in
    let joined = ap (λ l. i.done ++ l) (sym c.in-Some.ensures.steps.0) ∙ i.all in
    (c.requires.0, c.requires.1, length i.done, c.requires.2.members_are (length i.done) x (ap (λ z. slice_get z (length i.done)) (sym joined) ∙ mid_at i.done x rest))

pub close_next-requires-clause-hands : goal.close_next-requires-clause-hands
close_next-requires-clause-hands g c =
    let i = c.loop-member.invariant in
    let x = c.in-Some.member in
    let now = c.loop-member.hands.items in
    let rest = c.next.new.self.rest.items in
    let joined = ap (λ l. i.done ++ l) (sym c.in-Some.ensures.steps.0) ∙ i.all in
    let there = ap (λ z. slice_get z (length i.done)) (sym joined) ∙ mid_at i.done x rest in
    if_each (slice_get now c.loop-member.place) (AreHandsOf g.P.Phase.terms x)
    (λ own e. c.requires.2.hands_are.each (length i.done) x own there (sym (i.later (length i.done) (le_refl (length i.done))) ∙ ap (slice_get now) (sym i.place_is) ∙ e))

pub loop-member-preserved : goal.loop-member-preserved
loop-member-preserved g c =
    let i = c.loop-member.invariant in
    let x = c.in-Some.member in
    let all = c.args.hands.items in
    let now = c.loop-member.hands.items in
    let place = i.place_is in
    let many = length-append i.done (x ∷ []) in
    let others = c.close_next.ensures.others in
    record {
      done = i.done ++ x ∷ [];
      all = append_assoc i.done (x ∷ []) c.next.new.self.rest.items ∙ ap (λ l. i.done ++ l) (sym c.in-Some.ensures.steps.0) ∙ i.all;
      place_is = omega (arith, place, many);
      many = others.count ∙ i.many;
      later = λ k least.
          others.each k (λ e. let bad : 1 ≤ 0 = omega (arith, e, least, place, many) in omega (arith, bad))
          ∙ i.later k (omega (arith, least, many));
      left =
          subst (AreMembersLeft g.P.Phase.terms g.P.Sends.exports g.P.Sends.rules g.J.Judge.verdict (i.done ++ x ∷ []) all) (sym c.in_ok-keep.ensures)
          (one_left g.P.Phase.terms g.P.Sends.exports g.P.Sends.rules g.J.Judge.verdict all i.done c.loop-member.lefts.items x c.in_ok-left.left i.left
          (λ own h.
          if_one (slice_get now c.loop-member.place) (λ l. IsMemberLeft g.P.Phase.terms g.P.Sends.exports g.P.Sends.rules g.J.Judge.verdict x l c.in_ok-left.left) own
          (ap (slice_get now) place ∙ i.later (length i.done) (le_refl (length i.done)) ∙ h) c.in_ok-left.ensures.left));
    }

pub returns : goal.returns
returns g c =
    let i = c.loop-member.invariant in
    let rest = c.loop-member.member-iterator.rest in
    let none : rest.items ≡ [] = nil_from_length rest.items (omega (arith, c.in-None.ensures.steps, rest.ok.0)) in
    let whole = sym (append-nil i.done) ∙ ap (λ z. i.done ++ z) (sym none) ∙ i.all in
    subst (λ z. AreMembersLeft g.P.Phase.terms g.P.Sends.exports g.P.Sends.rules g.J.Judge.verdict z c.args.hands.items c.loop-member.lefts.items) whole i.left
