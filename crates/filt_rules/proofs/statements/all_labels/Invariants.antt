use Rattle.std.proofs.Common.{◌≡◌, drop}
use Rattle.filt_types.specs.Items.{all_items, common, sorts_of_items}
use Rattle.filt_types.specs.Refusals.{first_in}
use Rattle.filt_types.specs.Seen.{scene_in}
use Rattle.filt_types.specs.Statements.{labels}
use Rattle.filt_types.specs.Walk.{arms_of, common_seen}
use Rattle.filt_rules.proofs.statements.all_labels.Given as goal

abbrev pub invariant-loop-arm : goal.invariant-loop-arm
invariant-loop-arm l = record {
  sorts : common (common_seen l.initial.common) (sorts_of_items (scene_in l.seen) (labels (arms_of l.arms))) ≡ common (common_seen l.common) (sorts_of_items (scene_in l.seen) (labels (arms_of (drop l.arm-index l.arms))));
  refusals : first_in l.initial.first (all_items (scene_in l.seen) (labels (arms_of l.arms))) ≡ first_in l.first (all_items (scene_in l.seen) (labels (arms_of (drop l.arm-index l.arms))));
}
