use Rattle.conf_scan.proofs.Places.{between}
use Rattle.conf_scan.proofs.laws.tokens_rise.Goals as goal

pub returns : goal.returns
returns c = between
