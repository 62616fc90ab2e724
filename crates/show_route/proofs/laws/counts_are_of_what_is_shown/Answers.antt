use Rattle.show_route.proofs.Expected.{counts-shown}
use Rattle.show_route.proofs.laws.counts_are_of_what_is_shown.Goals as goal

pub returns : goal.returns
returns c = counts-shown
