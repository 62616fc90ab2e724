use Rattle.queries.proofs.Selectors.{place_from}
use Rattle.queries.proofs.selector.parse_place.Goals as goal

pub returns-in-None : goal.returns-in-None
returns-in-None c = place_from c.args.word.now c.parse_full.result c.in-None.ensures c.parse_full.ensures
