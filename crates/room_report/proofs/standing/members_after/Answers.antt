use Rattle.std.proofs.Common.{◌≡◌, List, [], ◌∷◌, ◌++◌, length, refl, sym, ap, subst, ◌∙◌, arith, append-nil, append_assoc, length-append}
use Rattle.std.specs.Prelude.{slice_get}
use Rattle.std.proofs.lemmas.List.{nil_from_length}
use Rattle.core_setup.specs.Pairs.{Pairs}
use Rattle.room_ends.specs.declared.ended.MemberEnded.{MemberEnded}
use Rattle.room_open.specs.declared.standing.StandingMember.{StandingMember}
use Rattle.room_report.specs.Inside.{IsMemberBehind, member_behind, numbers_or_none}
use Rattle.room_report.proofs.Looping.{push_here}
use Rattle.room_report.proofs.standing.members_after.Goals as goal

pub loop-member-init : goal.loop-member-init
loop-member-init g c = record {
  done = [];
  all = c.into_iter-member-iterator.ensures.into_iter_gives.0;
  place_is = refl;
  stands = subst (λ (l : List (StandingMember g.row.J.Denot)). Pairs (IsMemberBehind c.args.numbers.now) 0 [] l) (sym c.new-stands.ensures.items) tt;
}

pub overflow_add-place : goal.overflow_add-place
overflow_add-place g c =
    let i = c.loop-member.invariant in
    let more = c.in-Some.member ∷ c.next.new.self.rest.items in
    let whole : i.done ++ more ≡ c.args.members.items = ap (λ (l : List (MemberEnded g.row.J.Denot)). i.done ++ l) (sym c.in-Some.ensures.steps.0) ∙ i.all in
    let at = i.place_is in
    omega (arith, at, c.args.members.ok.0, ap length whole, length-append i.done more)

pub loop-member-preserved : goal.loop-member-preserved
loop-member-preserved g c =
    let i = c.loop-member.invariant in
    let x = c.in-Some.member in
    let place = i.place_is in
    let many = length-append i.done (x ∷ []) in
    let k = length i.done in
    let told = c.numbers_at-told.ensures ∙ ap (λ n. numbers_or_none (slice_get c.args.numbers.now n)) place in
    record {
      done = i.done ++ x ∷ [];
      all = append_assoc i.done (x ∷ []) c.next.new.self.rest.items ∙ ap (λ (l : List (MemberEnded g.row.J.Denot)). i.done ++ l) (sym c.in-Some.ensures.steps.0) ∙ i.all;
      place_is = omega (arith, place, many);
      stands =
          push_here (IsMemberBehind c.args.numbers.now) i.done c.loop-member.stands.items c.push.new.self.items k x c.member_after-stand.result refl c.in_ok-push.ensures.items i.stands
          (c.member_after-stand.ensures ∙ ap (λ m. member_behind m x) told);
    }

pub returns : goal.returns
returns g c =
    let i = c.loop-member.invariant in
    let rest = c.loop-member.member-iterator.rest in
    let none : rest.items ≡ [] = nil_from_length rest.items (omega (arith, c.in-None.ensures.steps, rest.ok.0)) in
    let whole = sym (append-nil i.done) ∙ ap (λ (l : List (MemberEnded g.row.J.Denot)). i.done ++ l) (sym none) ∙ i.all in
    subst (λ (l : List (MemberEnded g.row.J.Denot)). Pairs (IsMemberBehind c.args.numbers.now) 0 l c.loop-member.stands.items) whole i.stands
