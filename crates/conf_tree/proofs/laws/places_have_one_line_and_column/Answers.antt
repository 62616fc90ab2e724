use Rattle.conf_tree.proofs.PlacesOnce.{one_place}
use Rattle.conf_tree.proofs.laws.places_have_one_line_and_column.Goals as goal

pub returns : goal.returns
returns c = one_place
