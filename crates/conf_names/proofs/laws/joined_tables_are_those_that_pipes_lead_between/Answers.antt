use Rattle.conf_names.proofs.Joins.{each_joined, joined_flip, joined_on, joined_same, no_more_joined}
use Rattle.conf_names.proofs.laws.joined_tables_are_those_that_pipes_lead_between.Goals as goal

pub returns-clause-itself : goal.returns-clause-itself
returns-clause-itself c pipes a = joined_same pipes a

pub returns-clause-back : goal.returns-clause-back
returns-clause-back c pipes a b = joined_flip pipes a b

pub returns-clause-onward : goal.returns-clause-onward
returns-clause-onward c pipes a b d h k = joined_on pipes a b d h k

pub returns-clause-each : goal.returns-clause-each
returns-clause-each c front back p = each_joined front back p

pub returns-clause-no_more : goal.returns-clause-no_more
returns-clause-no_more c pipes colour keeps a b h = no_more_joined pipes colour keeps a b h
