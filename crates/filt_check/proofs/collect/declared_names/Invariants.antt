use Rattle.std.proofs.Common.{◌≡◌, ◌++◌, map, drop}
use Rattle.filt_resolve.specs.Seen.{names_of}
use Rattle.filt_check.specs.Seen.{name_of}
use Rattle.filt_check.proofs.collect.declared_names.Given as goal

abbrev pub invariant-loop-variable : goal.invariant-loop-variable
invariant-loop-variable l = names_of l.all.items ++ map name_of (drop l.variable-index l.declared) ≡ map name_of l.declared
