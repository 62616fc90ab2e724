use Rattle.std.proofs.Common.{◌≡◌, List, [], ◌∷◌, ◌++◌, sym, ap, ◌∙◌, append_assoc, arith}
use Rattle.std.proofs.lemmas.List.{append-nil, nil_from_length}
use Rattle.table_shared.specs.Phases.{Seated}
use Rattle.table_shared.proofs.table.ports_of.Goals as goal

pub loop-maker-init : goal.loop-maker-init
loop-maker-init c =
    ap (λ (l : List Seated). l ++ c.into_iter-maker-iterator.result.rest.items) c.in_ok-ports.ensures.items ∙ c.into_iter-maker-iterator.ensures.into_iter_gives.0

pub loop-maker-preserved : goal.loop-maker-preserved
loop-maker-preserved c =
    ap (λ (l : List Seated). l ++ c.next.new.self.rest.items) c.in_ok-push.ensures.items
    ∙ append_assoc c.loop-maker.ports.items (c.in-Some.maker ∷ []) c.next.new.self.rest.items
    ∙ ap (λ (l : List Seated). c.loop-maker.ports.items ++ l) (sym c.in-Some.ensures.steps.0)
    ∙ c.loop-maker.invariant

pub returns : goal.returns
returns c =
    let rest = c.loop-maker.maker-iterator.rest in
    let none : rest.items ≡ [] = nil_from_length rest.items (omega (arith, c.in-None.ensures.steps, rest.ok.0)) in
    sym (append-nil c.loop-maker.ports.items) ∙ ap (λ (l : List Seated). c.loop-maker.ports.items ++ l) (sym none) ∙ c.loop-maker.invariant
