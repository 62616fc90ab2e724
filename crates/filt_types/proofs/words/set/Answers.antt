use Rattle.std.proofs.Common.{Bool, ◌||◌, ap, ◌∙◌, sym}
use Rattle.filt_types.specs.declared.refusal.Cause.TheVariants as causes
use Rattle.filt_types.proofs.Firsts.{first_two, empty_is}
use Rattle.filt_types.specs.Items as of
use Rattle.filt_types.specs.Refusals.{first_in, refused_if}
use Rattle.filt_types.specs.Seen.{scene_in}
use Rattle.filt_types.proofs.words.set.Goals as goal

pub returns-clause-first : goal.returns-clause-first
returns-clause-first c =
    let differ = of.differ (of.common of.NoneYet (of.sorts_of_items (scene_in c.args.seen) c.args.elements.now)) in
    first_two (of.all_items (scene_in c.args.seen) c.args.elements.now) (refused_if (of.is_empty c.args.elements.now || differ) c.args.at causes.Mismatch) c.args.first.now c.all_items-found.new.first c.note_if.new.first c.all_items-found.ensures.first
    (c.note_if.ensures
    ∙ ap (λ (b : Bool). first_in c.all_items-found.new.first (refused_if (b || c.differ.result) c.args.at causes.Mismatch)) (c.is_empty.ensures ∙ sym (empty_is c.args.elements.now))
    ∙ ap (λ (b : Bool). first_in c.all_items-found.new.first (refused_if (of.is_empty c.args.elements.now || b) c.args.at causes.Mismatch)) (c.differ.ensures ∙ ap of.differ c.all_items-found.ensures.common))
