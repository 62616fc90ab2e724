use Rattle.conf_scan.proofs.Readings.{stops_once}
use Rattle.conf_scan.proofs.laws.texts_are_refused_at_one_place.Goals as goal

pub returns : goal.returns
returns c = stops_once 0
