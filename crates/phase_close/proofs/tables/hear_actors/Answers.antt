use Rattle.std.proofs.Common.{◌≡◌, List, [], refl, sym, ◌∙◌, subst, arith}
use Rattle.std.specs.List.{AllByRecursion}
use Rattle.std.specs.declared.alloc.Global.{Global}
use Rattle.std.specs.declared.vec.Vec.{Vec}
use Rattle.std.proofs.lemmas.List.{nil_from_length}
use Rattle.jour.specs.Seats.{journal}
use Rattle.phase_legal.specs.Shown.{AreBeside, PassView}
use Rattle.phase_close.specs.Closed.{TableList, all_lists}
use Rattle.phase_close.specs.Whole.{ArePassesHeard}
use Rattle.phase_close.proofs.tables.hear_actors.Goals as goal

abbrev Here : List TableList → Vec PassView Global → Type 0
Here lists v = AreBeside (λ (t : TableList) (pass : PassView). journal pass ≡ t.0) lists v.items

pub loop-passes-init : goal.loop-passes-init
loop-passes-init c =
    let whole = c.into_iter-passes-iterator.ensures.into_iter_gives.0 in
    let lists = all_lists c.args.closings.now.items in
    record {
      same = refl;
      left = subst (AllByRecursion (Here lists)) (sym whole) c.requires;
      done = λ h. subst (AllByRecursion (ArePassesHeard lists)) whole h;
    }

pub hear_actor-requires : goal.hear_actor-requires
hear_actor-requires c =
    let i = c.loop-passes.invariant in
    let first = (subst (AllByRecursion (Here (all_lists c.args.closings.now.items))) c.in-Some.ensures.steps.0 i.left).0 in
    subst (λ (l : List TableList). Here l c.in-Some.passes) (sym i.same) first

pub loop-passes-preserved : goal.loop-passes-preserved
loop-passes-preserved c =
    let i = c.loop-passes.invariant in
    let r = c.hear_actor.ensures in
    let steps = c.in-Some.ensures.steps.0 in
    let lists = all_lists c.args.closings.now.items in
    let heard : ArePassesHeard lists c.in-Some.passes = subst (λ (l : List TableList). ArePassesHeard l c.in-Some.passes) i.same r.heard in
    record {
      same = r.same ∙ i.same;
      left = (subst (AllByRecursion (Here lists)) steps i.left).1;
      done = λ h. i.done (subst (AllByRecursion (ArePassesHeard lists)) (sym steps) (heard, h));
    }

pub returns-clause-heard : goal.returns-clause-heard
returns-clause-heard c =
    let rest = c.loop-passes.passes-iterator.rest in
    let none : rest.items ≡ [] = nil_from_length rest.items (omega (arith, c.in-None.ensures.steps, rest.ok.0)) in
    c.loop-passes.invariant.done (subst (AllByRecursion (ArePassesHeard (all_lists c.args.closings.now.items))) (sym none) tt)
