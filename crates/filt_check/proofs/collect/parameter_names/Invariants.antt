use Rattle.std.proofs.Common.{◌≡◌, ◌++◌, drop}
use Rattle.filt_meaning.specs.Configuration.{parameter_names}
use Rattle.filt_resolve.specs.Seen.{names_of}
use Rattle.filt_check.proofs.collect.parameter_names.Given as goal

abbrev pub invariant-loop-parameter : goal.invariant-loop-parameter
invariant-loop-parameter l = names_of l.all.items ++ parameter_names l.text (drop l.parameter-index l.parameters) ≡ parameter_names l.text l.parameters
