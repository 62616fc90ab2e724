use Rattle.filt_types.proofs.Firsts.{first_two}
use Rattle.filt_types.specs.Items as of
use Rattle.filt_types.specs.Seen.{scene_in}
use Rattle.filt_types.proofs.items.item.Goals as goal

pub returns-clause-first : goal.returns-clause-first
returns-clause-first c =
    first_two (of.names_in_item (scene_in c.args.seen) c.args.item.now) (of.limits_of_item (scene_in c.args.seen) c.args.item.now) c.args.first.now c.names_in_item-is_known.new.first c.limits_of_item.new.first c.names_in_item-is_known.ensures.first c.limits_of_item.ensures
