use Rattle.show_route.proofs.Expected.{for-shows}
use Rattle.show_route.proofs.laws.for_shows_one_net.Goals as goal

pub returns : goal.returns
returns c = for-shows
