use Rattle.conf_laws.proofs.SignificantLaws.{whole_log_taken_out}
use Rattle.conf_laws.proofs.blocks.logs_are_taken_out.Goals as goal

pub returns : goal.returns
returns c = whole_log_taken_out
