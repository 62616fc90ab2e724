use Rattle.accepted_laws.proofs.AskedOnce.{condition_or_refused, conditions_agree}
use Rattle.accepted_laws.proofs.said.conditions_ask_for_one_thing.Goals as goal

pub returns-clause-condition : goal.returns-clause-condition
returns-clause-condition c =
    conditions_agree c.texts_have_one_list_of_tokens.ensures c.lexed_texts_are_not_refused.ensures c.parsed_texts_are_not_refused.ensures.expression
    c.texts_have_one_tree_and_one_end.ensures.expression c.a_tree_is_of_one_expression.ensures

pub returns-clause-condition_or_refused : goal.returns-clause-condition_or_refused
returns-clause-condition_or_refused c =
    condition_or_refused c.texts_have_one_list_of_tokens.ensures c.lexed_texts_are_not_refused.ensures c.parsed_texts_are_not_refused.ensures.expression
    c.texts_have_one_tree_and_one_end.ensures.expression c.a_tree_is_of_one_expression.ensures
