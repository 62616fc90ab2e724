use Rattle.std.proofs.Common.{◌≡◌, ◌<◌, ◌∙◌, ℕ, List, length, get_or, refl, sym, ap, subst}
use Rattle.std.proofs.lemmas.Grind.{get_or_default_zero}
use Rattle.conf_names.specs.Regions.{renamed}
use Rattle.conf_names.proofs.Joins.{regions_written}
use Rattle.conf_names.proofs.joints.join.Goals as goal

pub returns : goal.returns
returns c =
    let old = c.args.regions.now.items in
    let value = c.as_mut_slice.ensures.value in
    regions_written c.args.joint old c.rename.new.regions _ c.args.regions.now.len c.index-from.result.now c.index-to.result.now c.requires
    (c.rename.ensures.length ∙ ap (λ (l : List ℕ). length l) value) (sym c.as_mut_slice.ensures.len ∙ ap (λ (l : List ℕ). length l) value) refl
    (c.index-from.ensures ∙ get_or_default_zero old c.args.joint.peer c.index-from.result.now c.requires.1)
    (c.index-to.ensures ∙ get_or_default_zero old c.args.joint.table c.index-to.result.now c.requires.0)
    (subst (λ (l : List ℕ). (t : ℕ) → t < length l → get_or c.rename.new.regions t 0 ≡ renamed c.index-from.result.now c.index-to.result.now (get_or l t 0)) value c.rename.ensures.renamed)
