use Rattle.std.proofs.Common.{◌≡◌, [], ◌∷◌, ◌++◌, sym, ap, subst, ◌∙◌, arith, append-nil, append_assoc}
use Rattle.std.proofs.lemmas.List.{nil_from_length}
use Rattle.atomic_table.specs.Seated.{TableId}
use Rattle.jour_rule.specs.declared.views.Terms.{Terms}
use Rattle.jour_rule.specs.declared.views.View.{View as Seat}
use Rattle.jour.specs.Seats.{journal}
use Rattle.table_shared.specs.Opening.{TableOpening}
use Rattle.phase_legal.specs.Shown.{AreBeside}
use Rattle.phase_close.proofs.Besides.{beside_more, beside_none}
use Rattle.phase_close.proofs.tables.close_tables.Goals as goal

pub loop-table-init : goal.loop-table-init
loop-table-init g c = let whole = c.into_iter-table-iterator.ensures.into_iter_gives.0 in
    record {
      done = [];
      all = whole;
      beside = subst (AreBeside (λ (t : TableId × Terms TableOpening) (closing : TableId × Seat TableOpening). journal closing ≡ t) []) (sym c.new-closings.ensures.items) (beside_none (λ (t : TableId × Terms TableOpening) (closing : TableId × Seat TableOpening). journal closing ≡ t));
    }

pub loop-table-preserved : goal.loop-table-preserved
loop-table-preserved g c =
    let i = c.loop-table.invariant in
    let x = c.in-Some.table in
    record {
      done = i.done ++ x ∷ [];
      all = append_assoc i.done (x ∷ []) c.next.new.self.rest.items ∙ ap (λ l. i.done ++ l) (sym c.in-Some.ensures.steps.0) ∙ i.all;
      beside =
          subst (AreBeside (λ (t : TableId × Terms TableOpening) (closing : TableId × Seat TableOpening). journal closing ≡ t) (i.done ++ x ∷ [])) (sym c.in_ok-push.ensures.items)
          (beside_more (λ (t : TableId × Terms TableOpening) (closing : TableId × Seat TableOpening). journal closing ≡ t) i.done c.loop-table.closings.items x c.close-closing.result i.beside c.close-closing.ensures);
    }

pub returns : goal.returns
returns g c =
    let i = c.loop-table.invariant in
    let rest = c.loop-table.table-iterator.rest in
    let none : rest.items ≡ [] = nil_from_length rest.items (omega (arith, c.in-None.ensures.steps, rest.ok.0)) in
    subst (λ z. AreBeside (λ (t : TableId × Terms TableOpening) (closing : TableId × Seat TableOpening). journal closing ≡ t) z c.loop-table.closings.items) (sym (append-nil i.done) ∙ ap (λ z. i.done ++ z) (sym none) ∙ i.all) i.beside
