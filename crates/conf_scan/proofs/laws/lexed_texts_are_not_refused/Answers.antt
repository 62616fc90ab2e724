use Rattle.conf_scan.proofs.Readings.{lexes_or_stops}
use Rattle.conf_scan.proofs.laws.lexed_texts_are_not_refused.Goals as goal

pub returns : goal.returns
returns c = λ text ts us place one two. lexes_or_stops 0 text ts us place one two
