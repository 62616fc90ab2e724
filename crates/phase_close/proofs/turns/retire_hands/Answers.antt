use Rattle.std.proofs.Common.{◌≡◌, ℕ, List, [], refl, sym, ◌∙◌, subst, arith}
use Rattle.std.specs.List.{AllByRecursion}
use Rattle.std.proofs.lemmas.List.{nil_from_length}
use Rattle.atomic_table.specs.Seated.{TableId}
use Rattle.jour_rule.specs.declared.views.Entry.{Entry}
use Rattle.jour_rule.specs.declared.views.Terms.{Terms}
use Rattle.jour_rule.specs.declared.views.View.{View as Seat}
use Rattle.jour.specs.Seats.{front, journal}
use Rattle.phase_close.specs.Retired.{IsRetired}
use Rattle.phase_close.proofs.turns.retire_hands.Goals as goal

pub loop-hand-init : goal.loop-hand-init
loop-hand-init c =
    let whole = c.into_iter-hand-iterator.ensures.into_iter_gives.0 in
    record {
      same = (refl, refl);
      left = subst (AllByRecursion (λ (x : TableId × Seat ℕ). journal x ≡ journal c.args.turns.now)) (sym whole) c.requires.here;
      done = λ h. subst (AllByRecursion (IsRetired (journal c.args.turns.now) (front c.args.turns.now.1))) whole h;
    }

pub retire_hand-requires : goal.retire_hand-requires
retire_hand-requires c =
    let i = c.loop-hand.invariant in
    record { here = (subst (AllByRecursion (λ (x : TableId × Seat ℕ). journal x ≡ journal c.args.turns.now)) c.in-Some.ensures.steps.0 i.left).0 ∙ sym i.same.0 }

pub loop-hand-preserved : goal.loop-hand-preserved
loop-hand-preserved c =
    let i = c.loop-hand.invariant in let r = c.retire_hand.ensures in
    let steps = c.in-Some.ensures.steps.0 in
    let retired : IsRetired (journal c.args.turns.now) (front c.args.turns.now.1) c.in-Some.hand =
    subst (λ (z : (TableId × Terms ℕ) × List Entry). IsRetired z.0 z.1 c.in-Some.hand) (λ k. (i.same.0 k, i.same.1 k)) r.retired in
    record {
      same = (r.same.0 ∙ i.same.0, r.same.1 ∙ i.same.1);
      left = (subst (AllByRecursion (λ (x : TableId × Seat ℕ). journal x ≡ journal c.args.turns.now)) steps i.left).1;
      done = λ h. i.done (subst (AllByRecursion (IsRetired (journal c.args.turns.now) (front c.args.turns.now.1))) (sym steps) (retired, h));
    }

pub returns-clause-retired : goal.returns-clause-retired
returns-clause-retired c =
    let rest = c.loop-hand.hand-iterator.rest in
    let none : rest.items ≡ [] = nil_from_length rest.items (omega (arith, c.in-None.ensures.steps, rest.ok.0)) in
    c.loop-hand.invariant.done (subst (AllByRecursion (IsRetired (journal c.args.turns.now) (front c.args.turns.now.1))) (sym none) tt)
