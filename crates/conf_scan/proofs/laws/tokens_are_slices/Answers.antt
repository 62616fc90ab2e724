use Rattle.conf_scan.proofs.Places.{span}
use Rattle.conf_scan.proofs.laws.tokens_are_slices.Goals as goal

pub returns : goal.returns
returns c = span
