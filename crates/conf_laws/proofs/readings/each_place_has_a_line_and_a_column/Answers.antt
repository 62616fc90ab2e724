use Rattle.conf_laws.proofs.Each.{some_place}
use Rattle.conf_laws.proofs.readings.each_place_has_a_line_and_a_column.Goals as goal

pub returns : goal.returns
returns c = some_place
