use Rattle.std.proofs.Common.{[]}
use Rattle.conf_names.specs.Regions.{AreRegions}
use Rattle.conf_names.proofs.joints.apart.Given as goal

abbrev pub invariant-loop-table : goal.invariant-loop-table
invariant-loop-table l = AreRegions [] l.table l.regions.items
