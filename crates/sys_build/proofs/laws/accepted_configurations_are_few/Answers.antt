use Rattle.sys_build.proofs.Few.{are_few}
use Rattle.sys_build.proofs.laws.accepted_configurations_are_few.Goals as goal

pub returns : goal.returns
returns c =
    are_few c.configurations_have_few_protocols.ensures c.configurations_have_few_tables_and_filters.ensures.tables
    c.configurations_have_few_tables_and_filters.ensures.filters
