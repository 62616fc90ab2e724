use Rattle.conf_laws.proofs.SignificantLaws.{open_log}
use Rattle.conf_laws.proofs.blocks.open_logs_hold_the_rest.Goals as goal

pub returns : goal.returns
returns c = open_log
