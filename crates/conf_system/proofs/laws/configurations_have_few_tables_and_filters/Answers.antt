use Rattle.conf_system.proofs.Counted.{said_within}
use Rattle.conf_system.proofs.FewNames.{have_few_filters, have_few_tables}
use Rattle.conf_system.proofs.laws.configurations_have_few_tables_and_filters.Goals as goal

pub returns-clause-tables : goal.returns-clause-tables
returns-clause-tables c = have_few_tables

pub returns-clause-filters : goal.returns-clause-filters
returns-clause-filters c = have_few_filters (said_within c.tokens_are_slices.ensures c.tokens_rise.ensures)
