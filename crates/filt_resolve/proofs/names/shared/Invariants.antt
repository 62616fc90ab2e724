use Rattle.std.proofs.Common.{◌≡◌, take}
use Rattle.filt_resolve.proofs.names.shared.Given as goal

abbrev pub invariant-loop-level : goal.invariant-loop-level
invariant-loop-level l = l.all.items ≡ take l.level-index l.levels
