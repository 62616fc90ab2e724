use Rattle.std.proofs.Common.{arith}
use Rattle.conf_scan.proofs.Places.{stops_within}
use Rattle.conf_scan.proofs.laws.texts_are_refused_within.Goals as goal

pub returns : goal.returns
returns c = λ text ts place stops. omega (arith, stops_within 0 text ts place stops)
