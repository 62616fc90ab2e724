use Rattle.std.proofs.Common.{◌≡◌, List, [], ◌∷◌, ◌++◌, length, Some, sym, ap, ◌∙◌, arith, append-nil, append_assoc, length-append}
use Rattle.std.specs.Prelude.{slice_get}
use Rattle.std.proofs.lemmas.List.{length-map, nil_from_length}
use Rattle.phase_legal.specs.Shown.{PassView}
use Rattle.table_shared.specs.Phases.{IsHeard}
use Rattle.phase_close.specs.Closed.{TableList, all_lists, list_of}
use Rattle.phase_close.proofs.Hearing.{first_more, mid_at}
use Rattle.phase_close.proofs.tables.hear_actor.Goals as goal

pub hear_at-requires-clause-inside : goal.hear_at-requires-clause-inside
hear_at-requires-clause-inside c =
    let i = c.loop-pass.invariant in
    let place = i.count in
    let joined = ap length (ap (λ l. i.done ++ l) (sym c.in-Some.ensures.steps.0) ∙ i.all) in
    let parts = length-append i.done (c.in-Some.pass ∷ c.next.new.self.rest.items) in
    let many = c.requires.count in
    let lists = ap length i.same in
    let now = length-map c.loop-pass.closings.items list_of in
    omega (arith, place, joined, parts, many, lists, now)

pub hear_at-requires-clause-here : goal.hear_at-requires-clause-here
hear_at-requires-clause-here c = λ l at.
    let i = c.loop-pass.invariant in
    let k = c.loop-pass.place in
    let x = c.in-Some.pass in
    let passes = c.args.passes.items in
    let joined : i.done ++ x ∷ c.next.new.self.rest.items ≡ passes = ap (λ l. i.done ++ l) (sym c.in-Some.ensures.steps.0) ∙ i.all in
    let there : slice_get passes k ≡ Some x = ap (slice_get passes) i.count ∙ ap (λ z. slice_get z (length i.done)) (sym joined) ∙ mid_at i.done x c.next.new.self.rest.items in
    c.requires.each k l x (ap (λ (z : List TableList). slice_get z k) (sym i.same) ∙ at) there

pub loop-pass-preserved : goal.loop-pass-preserved
loop-pass-preserved c =
    let i = c.loop-pass.invariant in
    let k = c.loop-pass.place in
    let x = c.in-Some.pass in
    let lists = all_lists c.args.closings.now.items in
    let place = i.count in
    let many = length-append i.done (x ∷ []) in
    record {
      same = c.hear_at.ensures.same ∙ i.same;
      done = i.done ++ x ∷ [];
      all = append_assoc i.done (x ∷ []) c.next.new.self.rest.items ∙ ap (λ l. i.done ++ l) (sym c.in-Some.ensures.steps.0) ∙ i.all;
      count = omega (arith, place, many);
      heard =
          first_more (λ (t : TableList) (pass : PassView). IsHeard t.0.1 t.1 pass.1) i.done lists x i.heard
          (λ y at. c.hear_at.ensures.heard y (ap (λ (z : List TableList). slice_get z k) i.same ∙ ap (slice_get lists) i.count ∙ at));
    }

pub returns-clause-heard : goal.returns-clause-heard
returns-clause-heard c =
    let i = c.loop-pass.invariant in
    let rest = c.loop-pass.pass-iterator.rest in
    let none : rest.items ≡ [] = nil_from_length rest.items (omega (arith, c.in-None.ensures.steps, rest.ok.0)) in
    let whole = sym (append-nil i.done) ∙ ap (λ z. i.done ++ z) (sym none) ∙ i.all in
    record {
      count = c.requires.count;
      each = λ k l pass at there. i.heard k pass (ap (λ (z : List PassView). slice_get z k) whole ∙ there) l at;
    }
