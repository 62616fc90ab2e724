use Rattle.conf_laws.proofs.SignificantLaws.{other_kind, device_without_block, named_without_block}
use Rattle.conf_laws.proofs.blocks.other_protocols_are_kept.Goals as goal

pub returns-clause-kind : goal.returns-clause-kind
returns-clause-kind c = other_kind

pub returns-clause-unnamed : goal.returns-clause-unnamed
returns-clause-unnamed c = device_without_block

pub returns-clause-named : goal.returns-clause-named
returns-clause-named c = named_without_block
