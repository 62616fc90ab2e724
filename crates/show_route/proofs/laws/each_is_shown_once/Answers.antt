use Rattle.show_route.proofs.Expected.{best-first, shown-once}
use Rattle.show_route.proofs.laws.each_is_shown_once.Goals as goal

pub returns-clause-once : goal.returns-clause-once
returns-clause-once c = shown-once

pub returns-clause-best : goal.returns-clause-best
returns-clause-best c = best-first
