use Rattle.std.proofs.Common.{◌≡◌, List, [], ◌∷◌, ◌++◌, sym, ap, ◌∙◌, append_assoc, rules}
use Rattle.std.proofs.lemmas.List.{append-nil, nil_from_length}
use Rattle.attrs.specs.declared.journal.JEntry.{JEntry}
use Rattle.room_report.proofs.standing.join_entries.Goals as goal

pub loop-entry-init : goal.loop-entry-init
loop-entry-init c = (sym (append-nil c.args.stood.items), c.into_iter-entry-iterator.ensures.into_iter_gives.0 ∙ c.into_vec-entries.ensures)

pub loop-entry-preserved : goal.loop-entry-preserved
loop-entry-preserved c =
    let done = c.loop-entry.yielded in
    let entry = c.in-Some.entry in (
      c.in_ok-push.ensures.items ∙ ap (λ (l : List JEntry). l ++ entry ∷ []) c.loop-entry.invariant.0 ∙ append_assoc c.args.stood.items done (entry ∷ []),
      append_assoc done (entry ∷ []) c.next.new.self.rest.items ∙ ap (λ (l : List JEntry). done ++ l) (sym c.in-Some.ensures.steps.0) ∙ c.loop-entry.invariant.1,
    )

pub returns : goal.returns
returns c =
    let none : c.loop-entry.entry-iterator.rest.items ≡ [] = search (rules, nil_from_length) in
    let whole : c.loop-entry.yielded ≡ c.args.entries =
    sym (append-nil c.loop-entry.yielded) ∙ ap (λ (l : List JEntry). c.loop-entry.yielded ++ l) (sym none) ∙ c.loop-entry.invariant.1 in
    c.loop-entry.invariant.0 ∙ ap (λ (l : List JEntry). c.args.stood.items ++ l) whole
