use Rattle.std.proofs.Common.{◌∙◌, [], ap, length, rules, sym}
use Rattle.std.proofs.lemmas.Map.Made.{map_same_pairs}
use Rattle.import_core.specs.Held.{Kept, kept_in}
use Rattle.import_core.proofs.Keeping.{blanked, kept-blanked}
use Rattle.import_core.proofs.nets.Nets.blank.Goals as goal

pub invariant_of-self : goal.invariant_of-self
invariant_of-self c =
    let e = map_same_pairs _ blanked _ (λ k v b w f t. search rules) _ _ c.retain.ensures.filtered in
    sym (ap (λ (k : Kept). length k.accepted) (ap kept_in e ∙ kept-blanked c.self.inside.held.entries))

pub returns : goal.returns
returns c =
    let e = map_same_pairs _ blanked _ (λ k v b w f t. search rules) _ _ c.retain.ensures.filtered in
    ap kept_in e
    ∙ kept-blanked c.self.inside.held.entries
    ∙ ap (λ (k : Kept). record { received = k.received; accepted = [] }) c.self.view_is
