use Rattle.std.proofs.Common.{◌≡◌, ◌++◌, drop}
use Rattle.filt_types.specs.Listed.{variables_of}
use Rattle.filt_types.proofs.variable_list.Variables.append.Given as goal

abbrev pub invariant-loop-variable : goal.invariant-loop-variable
invariant-loop-variable l = l.self ++ variables_of (drop l.variable-index l.more) ≡ l.initial.self ++ variables_of l.more
