use Rattle.std.proofs.Common.{◌≡◌, ◌++◌, List, length}
use Rattle.conf_names.specs.declared.joints.Joint.{Joint}
use Rattle.conf_names.specs.Regions.{AreRegions}
use Rattle.conf_names.proofs.joints.regions.Given as goal

-- the pipes behind those that are left are joined
abbrev pub invariant-loop-left : goal.invariant-loop-left
invariant-loop-left l = (gone : List Joint) × (l.pipes ≡ l.left ++ gone) × AreRegions gone l.tables l.regions.items

abbrev pub decreases-loop-left : goal.decreases-loop-left
decreases-loop-left l = length l.left
