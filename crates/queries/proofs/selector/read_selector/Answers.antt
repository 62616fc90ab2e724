use Rattle.queries.proofs.Selectors.{selects_none}
use Rattle.queries.proofs.selector.read_selector.Goals as goal

pub returns-in-None : goal.returns-in-None
returns-in-None c = selects_none c.args.text.now c.in-None.ensures.word
