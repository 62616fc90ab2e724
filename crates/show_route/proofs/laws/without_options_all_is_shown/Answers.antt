use Rattle.show_route.proofs.Expected.{plain-shown}
use Rattle.show_route.proofs.laws.without_options_all_is_shown.Goals as goal

pub returns : goal.returns
returns c = plain-shown
