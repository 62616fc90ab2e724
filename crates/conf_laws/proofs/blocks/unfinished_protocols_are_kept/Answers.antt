use Rattle.conf_laws.proofs.SignificantLaws.{protocol_alone, device_alone, named_alone}
use Rattle.conf_laws.proofs.blocks.unfinished_protocols_are_kept.Goals as goal

pub returns-clause-alone : goal.returns-clause-alone
returns-clause-alone c = protocol_alone

pub returns-clause-unnamed : goal.returns-clause-unnamed
returns-clause-unnamed c = device_alone

pub returns-clause-named : goal.returns-clause-named
returns-clause-named c = named_alone
