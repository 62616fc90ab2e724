use Rattle.conf_laws.proofs.SignificantLaws.{device_taken_out, named_device_taken_out}
use Rattle.conf_laws.proofs.blocks.device_blocks_are_taken_out.Goals as goal

pub returns-clause-unnamed : goal.returns-clause-unnamed
returns-clause-unnamed c = device_taken_out

pub returns-clause-named : goal.returns-clause-named
returns-clause-named c = named_device_taken_out
