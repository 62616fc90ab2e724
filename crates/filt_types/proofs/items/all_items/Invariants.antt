use Rattle.std.proofs.Common.{◌≡◌, ◌&&◌, drop}
use Rattle.filt_types.specs.Items as of
use Rattle.filt_types.specs.Items.{sorts_of_items}
use Rattle.filt_types.specs.Refusals.{first_in}
use Rattle.filt_types.specs.Seen.{scene_in}
use Rattle.filt_types.specs.Walk.{common_seen}
use Rattle.filt_types.proofs.items.all_items.Given as goal

abbrev pub invariant-loop-x : goal.invariant-loop-x
invariant-loop-x l = record {
  common : of.common (common_seen l.initial.common) (sorts_of_items (scene_in l.seen) l.items) ≡ of.common (common_seen l.common) (sorts_of_items (scene_in l.seen) (drop l.x-index l.items));
  known : of.all_known (sorts_of_items (scene_in l.seen) l.items) ≡ (l.all_known && of.all_known (sorts_of_items (scene_in l.seen) (drop l.x-index l.items)));
  first : first_in l.initial.first (of.all_items (scene_in l.seen) l.items) ≡ first_in l.first (of.all_items (scene_in l.seen) (drop l.x-index l.items));
}
