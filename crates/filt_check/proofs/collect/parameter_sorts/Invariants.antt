use Rattle.std.proofs.Common.{◌≡◌, ◌++◌, drop}
use Rattle.filt_check.specs.Seen.{parameter_sorts}
use Rattle.filt_check.proofs.collect.parameter_sorts.Given as goal

abbrev pub invariant-loop-parameter : goal.invariant-loop-parameter
invariant-loop-parameter l = l.all.items ++ parameter_sorts (drop l.parameter-index l.parameters) ≡ parameter_sorts l.parameters
