use Rattle.std.proofs.Common.{◌≡◌, drop}
use Rattle.filt_rules.specs.Passes.{around_in}
use Rattle.filt_types.specs.Refusals.{first_in}
use Rattle.filt_types.specs.Statements.{parameters}
use Rattle.filt_rules.proofs.filters.check_parameters.Given as goal

abbrev pub invariant-loop-parameter : goal.invariant-loop-parameter
invariant-loop-parameter l = record {
  seen : (parameters (around_in l.around).scene l.initial.variables l.given).variables ≡ (parameters (around_in l.around).scene l.variables (drop l.parameter-index l.given)).variables;
  refusals : first_in l.initial.first (parameters (around_in l.around).scene l.initial.variables l.given).refusals ≡ first_in l.first (parameters (around_in l.around).scene l.variables (drop l.parameter-index l.given)).refusals;
}
