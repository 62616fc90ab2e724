use Rattle.std.proofs.Common.{◌≡◌, ◌<◌, length}
use Rattle.conf_tree.specs.Readers.{some_parameters_at}
use Rattle.conf_tree.proofs.FunctionSteps.{parameter_row_at, row_of}
use Rattle.conf_tree.proofs.function.some_parameters.Given as goal

abbrev pub invariant-loop-separator : goal.invariant-loop-separator
invariant-loop-separator l = record {
  some : 0 < length l.parameters.items;
  reading : some_parameters_at 0 l.words ≡ parameter_row_at (row_of l.parameters.items) l.rest;
}

abbrev pub decreases-loop-separator : goal.decreases-loop-separator
decreases-loop-separator l = length l.rest
