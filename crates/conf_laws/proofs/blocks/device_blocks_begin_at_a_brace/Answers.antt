use Rattle.conf_laws.proofs.SignificantLaws.{device_begins, named_device_begins}
use Rattle.conf_laws.proofs.blocks.device_blocks_begin_at_a_brace.Goals as goal

pub returns-clause-unnamed : goal.returns-clause-unnamed
returns-clause-unnamed c = device_begins

pub returns-clause-named : goal.returns-clause-named
returns-clause-named c = named_device_begins
