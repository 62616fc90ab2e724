use Rattle.core_setup.proofs.Determined.{reports_determined}
use Rattle.core_setup.proofs.laws.reports_are_determined.Goals as goal

pub returns : goal.returns
returns c = reports_determined c.levels_give_ways.ensures c.phases_come_to_one_state.ensures c.a_query_has_one_reply.ensures
