use Rattle.conf_system.proofs.Named.{named_written}
use Rattle.conf_system.proofs.filter_laws.filters_by_name_are_written.Goals as goal

pub returns : goal.returns
returns c = named_written
