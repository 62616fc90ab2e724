use Rattle.std.proofs.Common.{◌≡◌, ◌++◌, map, drop}
use Rattle.filt_check.specs.Seen.{sort_of}
use Rattle.filt_check.proofs.collect.sorts_of.Given as goal

abbrev pub invariant-loop-variable : goal.invariant-loop-variable
invariant-loop-variable l = l.all.items ++ map sort_of (drop l.variable-index l.declared) ≡ map sort_of l.declared
