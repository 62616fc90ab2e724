use Rattle.std.proofs.Common.{◌≡◌, List, [], refl, sym, ◌∙◌, subst, arith}
use Rattle.std.specs.List.{AllByRecursion}
use Rattle.std.proofs.lemmas.List.{nil_from_length}
use Rattle.jour_rule.specs.declared.views.Terms.{Terms}
use Rattle.jour_rule.specs.declared.views.Entry.{Entry}
use Rattle.jour.specs.Seats.{front, journal}
use Rattle.table_shared.specs.Opening.{TableOpening}
use Rattle.table_shared.specs.Phases.{IsRetired, Seated}
use Rattle.table_shared.proofs.close.retire_all.Goals as goal

pub loop-port-init : goal.loop-port-init
loop-port-init c =
    let whole = c.into_iter-port-iterator.ensures.into_iter_gives.0 in
    record {
      same = (refl, refl);
      left = subst (AllByRecursion (λ (x : Seated). journal x ≡ journal c.args.closing.now)) (sym whole) c.requires.here;
      done = λ h. subst (AllByRecursion (IsRetired c.args.closing.now.1.seen.terms (front c.args.closing.now.1))) whole h;
    }

pub retire-requires : goal.retire-requires
retire-requires c =
    let i = c.loop-port.invariant in
    (subst (AllByRecursion (λ (x : Seated). journal x ≡ journal c.args.closing.now)) c.in-Some.ensures.steps.0 i.left).0 ∙ sym i.same.0

pub loop-port-preserved : goal.loop-port-preserved
loop-port-preserved c =
    let i = c.loop-port.invariant in let r = c.retire.ensures in
    let steps = c.in-Some.ensures.steps.0 in
    let retired : IsRetired c.args.closing.now.1.seen.terms (front c.args.closing.now.1) c.in-Some.port =
    subst (λ (z : Terms TableOpening × List Entry). IsRetired z.0 z.1 c.in-Some.port) (λ k. ((i.same.0 k).1, i.same.1 k)) r.retired in
    record {
      same = (r.same.0 ∙ i.same.0, r.same.1 ∙ i.same.1);
      left = (subst (AllByRecursion (λ (x : Seated). journal x ≡ journal c.args.closing.now)) steps i.left).1;
      done = λ h. i.done (subst (AllByRecursion (IsRetired c.args.closing.now.1.seen.terms (front c.args.closing.now.1))) (sym steps) (retired, h));
    }

pub returns-clause-retired : goal.returns-clause-retired
returns-clause-retired c =
    let rest = c.loop-port.port-iterator.rest in
    let none : rest.items ≡ [] = nil_from_length rest.items (omega (arith, c.in-None.ensures.steps, rest.ok.0)) in
    c.loop-port.invariant.done (subst (AllByRecursion (IsRetired c.args.closing.now.1.seen.terms (front c.args.closing.now.1))) (sym none) tt)
