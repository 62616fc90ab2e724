use Rattle.conf_scan.proofs.Readings.{lexes_once}
use Rattle.conf_scan.proofs.laws.texts_have_one_list_of_tokens.Goals as goal

pub returns : goal.returns
returns c = lexes_once 0
