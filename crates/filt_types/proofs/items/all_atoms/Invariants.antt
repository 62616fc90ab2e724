use Rattle.std.proofs.Common.{◌≡◌, ◌&&◌, drop}
use Rattle.filt_types.specs.Items as of
use Rattle.filt_types.specs.Items.{is_known}
use Rattle.filt_types.specs.Refusals.{first_in}
use Rattle.filt_types.specs.Seen.{scene_in}
use Rattle.filt_types.proofs.items.all_atoms.Given as goal

abbrev pub invariant-loop-x : goal.invariant-loop-x
invariant-loop-x l = record {
  known : is_known (of.names_in_mask (scene_in l.seen) l.elements) ≡ (l.all_known && is_known (of.names_in_mask (scene_in l.seen) (drop l.x-index l.elements)));
  first : first_in l.initial.first (of.all_atoms (scene_in l.seen) l.elements) ≡ first_in l.first (of.all_atoms (scene_in l.seen) (drop l.x-index l.elements));
}
