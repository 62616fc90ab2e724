use Rattle.std.proofs.Common.{ap, sym, ◌∙◌}
use Rattle.conf_ast.specs.declared.filters.Item.{Item}
use Rattle.filt_types.proofs.Firsts.{first_two}
use Rattle.filt_types.specs.Items as of
use Rattle.filt_types.specs.Refusals.{first_in}
use Rattle.filt_types.specs.Seen.{scene_in}
use Rattle.filt_types.proofs.items.limits_of_item.Goals as goal

pub returns-in-Pair : goal.returns-in-Pair
returns-in-Pair c =
    first_two (of.limits_of_part (scene_in c.args.seen) c.in-Pair.at c.in-Pair.left) (of.limits_of_part (scene_in c.args.seen) c.in-Pair.at c.in-Pair.right) c.args.first.now c.limits_of_part.new.first c.limits_of_part-in-Pair.new.first c.limits_of_part.ensures c.limits_of_part-in-Pair.ensures
    ∙ ap (λ (i : Item). first_in c.args.first.now (of.limits_of_item (scene_in c.args.seen) i)) (sym c.in-Pair.is)
