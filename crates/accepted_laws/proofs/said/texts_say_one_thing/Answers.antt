use Rattle.accepted_laws.proofs.SaidOnce.{accepted_or_refused, refusals_agree, systems_agree}
use Rattle.accepted_laws.proofs.said.texts_say_one_thing.Goals as goal

pub returns-clause-accepted : goal.returns-clause-accepted
returns-clause-accepted c = systems_agree c.a_text_is_one_syntax.ensures

pub returns-clause-accepted_or_refused : goal.returns-clause-accepted_or_refused
returns-clause-accepted_or_refused c = accepted_or_refused c.a_text_is_one_syntax.ensures c.configurations_are_not_refused.ensures

pub returns-clause-refused : goal.returns-clause-refused
returns-clause-refused c =
    refusals_agree c.a_text_is_one_syntax.ensures c.configurations_are_not_refused.ensures c.a_text_has_one_refusal.ensures c.places_have_one_line_and_column.ensures
