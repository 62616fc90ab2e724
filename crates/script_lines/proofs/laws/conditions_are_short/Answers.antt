use Rattle.script_lines.proofs.ShortConditions.{accepted_short, refused_short}
use Rattle.script_lines.proofs.laws.conditions_are_short.Goals as goal

pub returns-clause-accepted : goal.returns-clause-accepted
returns-clause-accepted c = accepted_short

pub returns-clause-refused : goal.returns-clause-refused
returns-clause-refused c = refused_short
