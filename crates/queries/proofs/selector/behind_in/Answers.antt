use Rattle.queries.proofs.Selectors.{selects_in, in_alone}
use Rattle.queries.proofs.selector.behind_in.Goals as goal

pub returns-in-Some : goal.returns-in-Some
returns-in-Some c = λ text word cut behind same. selects_in text word c.args.behind.now c.in-Some.found.1.now c.in-Some.found.0 cut behind same c.in-Some.ensures

pub returns-in-None : goal.returns-in-None
returns-in-None c = λ text word cut behind same. in_alone text word c.args.behind.now cut same c.in-None.ensures
