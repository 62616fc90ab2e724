use Rattle.std.proofs.Common.{◌≡◌, [], ◌∷◌, ◌++◌, sym, ap, subst, ◌∙◌, arith, append-nil, append_assoc}
use Rattle.std.specs.List.{AllByRecursion}
use Rattle.std.proofs.lemmas.List.{nil_from_length}
use Rattle.phase_legal.specs.Shown.{AreBeside}
use Rattle.phase_close.proofs.Besides.{beside_none}
use Rattle.pipe_rest.specs.Later.{CanSettle, IsLaterMember}
use Rattle.room_rounds.proofs.Turning.{beside_one}
use Rattle.room_rounds.proofs.rounds.one_round.Goals as goal

pub loop-member-init : goal.loop-member-init
loop-member-init g c =
    let whole = c.into_iter-member-iterator.ensures.into_iter_gives.0 in
    let later = IsLaterMember g.J.Judge.verdict c.args.sources.now in
    record {
      rest = subst (AllByRecursion (CanSettle g.J.Judge.verdict c.args.tables.now.items c.args.sources.now)) (sym whole) c.requires;
      done = [];
      all = whole;
      beside = subst (AreBeside later []) (sym c.new-all.ensures.items) (beside_none later);
    }

pub settle_member-requires : goal.settle_member-requires
settle_member-requires g c =
    (subst (AllByRecursion (CanSettle g.J.Judge.verdict c.args.tables.now.items c.args.sources.now)) c.in-Some.ensures.steps.0 c.loop-member.invariant.rest).0

pub loop-member-preserved : goal.loop-member-preserved
loop-member-preserved g c =
    let i = c.loop-member.invariant in
    let steps = c.in-Some.ensures.steps.0 in
    let later = IsLaterMember g.J.Judge.verdict c.args.sources.now in
    record {
      rest = (subst (AllByRecursion (CanSettle g.J.Judge.verdict c.args.tables.now.items c.args.sources.now)) steps i.rest).1;
      done = i.done ++ c.in-Some.member ∷ [];
      all = append_assoc i.done (c.in-Some.member ∷ []) c.next.new.self.rest.items ∙ ap (λ l. i.done ++ l) (sym steps) ∙ i.all;
      beside = beside_one later i.done c.loop-member.all.items c.keep.new.members.items c.in-Some.member c.in_ok-settled.settled c.in_ok-keep.ensures i.beside c.in_ok-settled.ensures;
    }

pub returns : goal.returns
returns g c =
    let i = c.loop-member.invariant in
    let rest = c.loop-member.member-iterator.rest in
    let none : rest.items ≡ [] = nil_from_length rest.items (omega (arith, c.in-None.ensures.steps, rest.ok.0)) in
    let whole = sym (append-nil i.done) ∙ ap (λ z. i.done ++ z) (sym none) ∙ i.all in
    subst (λ z. AreBeside (IsLaterMember g.J.Judge.verdict c.args.sources.now) z c.loop-member.all.items) whole i.beside
