use Rattle.conf_laws.proofs.SignificantLaws.{block_closes}
use Rattle.conf_laws.proofs.blocks.only_closed_blocks_end.Goals as goal

pub returns : goal.returns
returns c = block_closes
