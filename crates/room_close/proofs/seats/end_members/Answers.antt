use Rattle.std.proofs.Common.{◌≡◌, List, [], ◌∷◌, ◌++◌, refl, sym, ap, subst, ◌∙◌, arith, append-nil, append_assoc}
use Rattle.std.specs.List.{AllByRecursion}
use Rattle.std.proofs.lemmas.List.{nil_from_length}
use Rattle.phase_close.specs.Closed.{TableList, all_lists}
use Rattle.phase_close.proofs.Besides.{beside_more, beside_none}
use Rattle.phase_legal.specs.Shown.{AreBeside}
use Rattle.room_ends.specs.Ended.{CanEndMember, EndsMember}
use Rattle.room_close.proofs.seats.end_members.Goals as goal

pub loop-member-init : goal.loop-member-init
loop-member-init g c =
    let whole = c.into_iter-member-iterator.ensures.into_iter_gives.0 in
    let lists = all_lists c.args.closings.now.items in
    record {
      same = refl;
      rest = subst (AllByRecursion (CanEndMember g.J.Judge.verdict lists)) (sym whole) c.requires;
      done = [];
      all = whole;
      beside = subst (AreBeside (EndsMember g.J.Judge.verdict lists) []) (sym c.new-all.ensures.items) (beside_none (EndsMember g.J.Judge.verdict lists));
    }

pub end_member-ended-requires : goal.end_member-ended-requires
end_member-ended-requires g c =
    let i = c.loop-member.invariant in
    let lists = all_lists c.args.closings.now.items in
    let first = (subst (AllByRecursion (CanEndMember g.J.Judge.verdict lists)) c.in-Some.ensures.steps.0 i.rest).0 in
    subst (λ (l : List TableList). CanEndMember g.J.Judge.verdict l c.in-Some.member) (sym i.same) first

pub loop-member-preserved : goal.loop-member-preserved
loop-member-preserved g c =
    let i = c.loop-member.invariant in
    let lists = all_lists c.args.closings.now.items in
    let steps = c.in-Some.ensures.steps.0 in
    let r = c.end_member-ended.ensures in
    let ends = subst (λ (l : List TableList). EndsMember g.J.Judge.verdict l c.in-Some.member c.end_member-ended.result) i.same r.ended in
    record {
      same = r.same ∙ i.same;
      rest = (subst (AllByRecursion (CanEndMember g.J.Judge.verdict lists)) steps i.rest).1;
      done = i.done ++ c.in-Some.member ∷ [];
      all = append_assoc i.done (c.in-Some.member ∷ []) c.next.new.self.rest.items ∙ ap (λ l. i.done ++ l) (sym steps) ∙ i.all;
      beside =
          subst (AreBeside (EndsMember g.J.Judge.verdict lists) (i.done ++ c.in-Some.member ∷ [])) (sym c.in_ok-push.ensures.items)
          (beside_more (EndsMember g.J.Judge.verdict lists) i.done c.loop-member.all.items c.in-Some.member c.end_member-ended.result i.beside ends);
    }

pub returns-clause-ended : goal.returns-clause-ended
returns-clause-ended g c =
    let i = c.loop-member.invariant in
    let lists = all_lists c.args.closings.now.items in
    let rest = c.loop-member.member-iterator.rest in
    let none : rest.items ≡ [] = nil_from_length rest.items (omega (arith, c.in-None.ensures.steps, rest.ok.0)) in
    subst (λ z. AreBeside (EndsMember g.J.Judge.verdict lists) z c.loop-member.all.items) (sym (append-nil i.done) ∙ ap (λ z. i.done ++ z) (sym none) ∙ i.all) i.beside
