use Rattle.queries.proofs.Selectors.{selects_for, for_alone}
use Rattle.queries.proofs.selector.behind_for.Goals as goal

pub returns-in-Some : goal.returns-in-Some
returns-in-Some c = λ text word cut behind same. selects_for text word c.args.behind.now c.in-Some.found.1.now c.in-Some.found.0 cut behind same c.in-Some.ensures

pub returns-in-None : goal.returns-in-None
returns-in-None c = λ text word cut behind same. for_alone text word c.args.behind.now cut same c.in-None.ensures
