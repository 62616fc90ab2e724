use Rattle.std.proofs.Common.{[], arith}
use Rattle.filt_meaning.specs.Scopes.{function_trees}
use Rattle.conf_system.proofs.Coding.{light_over}
use Rattle.conf_system.proofs.filter_laws.compiled_filters_end_within_their_weight.Goals as goal

pub returns-clause-own : goal.returns-clause-own
returns-clause-own c = λ held code f draft has can costs.
    let trees = function_trees held.checked.declared.scope in
    omega (arith, can.light, c.code_costs_no_more_than_its_steps.ensures.filter trees code.functions.items f draft has.functions_cost (light_over [] trees has.ordered.light) costs)

pub returns-clause-named : goal.returns-clause-named
returns-clause-named c = λ held code has. has.filters_cost
