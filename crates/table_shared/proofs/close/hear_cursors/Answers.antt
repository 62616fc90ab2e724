use Rattle.std.proofs.Common.{◌≡◌, Bool, List, [], refl, sym, ◌∙◌, subst, arith}
use Rattle.std.specs.List.{AllByRecursion}
use Rattle.std.proofs.lemmas.List.{nil_from_length}
use Rattle.jour_rule.specs.declared.views.Entry.{Entry}
use Rattle.jour.specs.Seats.{front, journal}
use Rattle.jour_rule.specs.declared.views.Terms.{Terms}
use Rattle.table_shared.specs.Opening.{TableOpening}
use Rattle.table_shared.specs.Phases.{IsHeard, Seated}
use Rattle.table_shared.proofs.close.hear_cursors.Goals as goal

pub loop-cursor-init : goal.loop-cursor-init
loop-cursor-init c =
    let whole = c.into_iter-cursor-iterator.ensures.into_iter_gives.0 in
    record {
      same = (refl, refl);
      left = subst (AllByRecursion (λ (x : Seated × Bool). journal x.0 ≡ journal c.args.closing.now)) (sym whole) c.requires.here;
      done = λ h. subst (AllByRecursion (λ (x : Seated × Bool). IsHeard c.args.closing.now.1.seen.terms (front c.args.closing.now.1) x.0.1)) whole h;
    }

pub hear_cursor-requires : goal.hear_cursor-requires
hear_cursor-requires c =
    let i = c.loop-cursor.invariant in
    (subst (AllByRecursion (λ (x : Seated × Bool). journal x.0 ≡ journal c.args.closing.now)) c.in-Some.ensures.steps.0 i.left).0 ∙ sym i.same.0

pub loop-cursor-preserved : goal.loop-cursor-preserved
loop-cursor-preserved c =
    let i = c.loop-cursor.invariant in let r = c.hear_cursor.ensures in
    let steps = c.in-Some.ensures.steps.0 in
    let heard : IsHeard c.args.closing.now.1.seen.terms (front c.args.closing.now.1) c.in-Some.cursor.0.1 =
    subst (λ (z : Terms TableOpening × List Entry). IsHeard z.0 z.1 c.in-Some.cursor.0.1) (λ k. ((i.same.0 k).1, i.same.1 k)) r.heard in
    record {
      same = (r.same.0 ∙ i.same.0, r.same.1 ∙ i.same.1);
      left = (subst (AllByRecursion (λ (x : Seated × Bool). journal x.0 ≡ journal c.args.closing.now)) steps i.left).1;
      done = λ h. i.done (subst (AllByRecursion (λ (x : Seated × Bool). IsHeard c.args.closing.now.1.seen.terms (front c.args.closing.now.1) x.0.1)) (sym steps) (heard, h));
    }

pub returns-clause-heard : goal.returns-clause-heard
returns-clause-heard c =
    let rest = c.loop-cursor.cursor-iterator.rest in
    let none : rest.items ≡ [] = nil_from_length rest.items (omega (arith, c.in-None.ensures.steps, rest.ok.0)) in
    c.loop-cursor.invariant.done (subst (AllByRecursion (λ (x : Seated × Bool). IsHeard c.args.closing.now.1.seen.terms (front c.args.closing.now.1) x.0.1)) (sym none) tt)
