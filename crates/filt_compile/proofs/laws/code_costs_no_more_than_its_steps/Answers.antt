use Rattle.filt_compile.proofs.Compiling as cm
use Rattle.filt_compile.proofs.laws.code_costs_no_more_than_its_steps.Goals as goal

pub returns-clause-functions : goal.returns-clause-functions
returns-clause-functions c = cm.light_costs

pub returns-clause-filter : goal.returns-clause-filter
returns-clause-filter c = cm.filter_costs
