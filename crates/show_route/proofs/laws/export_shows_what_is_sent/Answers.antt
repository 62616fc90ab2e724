use Rattle.show_route.proofs.Expected.{export-shows}
use Rattle.show_route.proofs.laws.export_shows_what_is_sent.Goals as goal

pub returns : goal.returns
returns c = export-shows
