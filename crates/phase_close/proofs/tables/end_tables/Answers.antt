use Rattle.std.proofs.Common.{◌≡◌, [], ◌∷◌, ◌++◌, sym, ap, subst, ◌∙◌, arith, append-nil, append_assoc}
use Rattle.std.proofs.lemmas.List.{nil_from_length}
use Rattle.atomic_table.specs.Seated.{TableId}
use Rattle.jour_rule.specs.declared.views.View.{View as Seat}
use Rattle.jour.specs.Seats.{front}
use Rattle.table_shared.specs.Opening.{TableOpening}
use Rattle.table_shared.specs.Phases.{IsPhase}
use Rattle.table_shared.specs.declared.close.Phase.{Phase}
use Rattle.phase_legal.specs.Shown.{AreBeside}
use Rattle.phase_close.proofs.Besides.{beside_more, beside_none}
use Rattle.phase_close.proofs.tables.end_tables.Goals as goal

pub loop-closing-init : goal.loop-closing-init
loop-closing-init c = let whole = c.into_iter-closing-iterator.ensures.into_iter_gives.0 in
    record {
      done = [];
      all = whole;
      beside = subst (AreBeside (λ (closing : TableId × Seat TableOpening) (phase : Phase). IsPhase closing.1.seen.terms (front closing.1) phase) []) (sym c.new-phases.ensures.items) (beside_none (λ (closing : TableId × Seat TableOpening) (phase : Phase). IsPhase closing.1.seen.terms (front closing.1) phase));
    }

pub loop-closing-preserved : goal.loop-closing-preserved
loop-closing-preserved c =
    let i = c.loop-closing.invariant in
    let x = c.in-Some.closing in
    record {
      done = i.done ++ x ∷ [];
      all = append_assoc i.done (x ∷ []) c.next.new.self.rest.items ∙ ap (λ l. i.done ++ l) (sym c.in-Some.ensures.steps.0) ∙ i.all;
      beside =
          subst (AreBeside (λ (closing : TableId × Seat TableOpening) (phase : Phase). IsPhase closing.1.seen.terms (front closing.1) phase) (i.done ++ x ∷ [])) (sym c.in_ok-push.ensures.items)
          (beside_more (λ (closing : TableId × Seat TableOpening) (phase : Phase). IsPhase closing.1.seen.terms (front closing.1) phase) i.done c.loop-closing.phases.items x c.phase-phase.result i.beside c.phase-phase.ensures);
    }

pub returns : goal.returns
returns c =
    let i = c.loop-closing.invariant in
    let rest = c.loop-closing.closing-iterator.rest in
    let none : rest.items ≡ [] = nil_from_length rest.items (omega (arith, c.in-None.ensures.steps, rest.ok.0)) in
    subst (λ z. AreBeside (λ (closing : TableId × Seat TableOpening) (phase : Phase). IsPhase closing.1.seen.terms (front closing.1) phase) z c.loop-closing.phases.items) (sym (append-nil i.done) ∙ ap (λ z. i.done ++ z) (sym none) ∙ i.all) i.beside
