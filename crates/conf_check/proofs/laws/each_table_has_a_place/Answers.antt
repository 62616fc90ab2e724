use Rattle.conf_check.proofs.Places.{each_has_one}
use Rattle.conf_check.proofs.laws.each_table_has_a_place.Goals as goal

pub returns : goal.returns
returns c = each_has_one
