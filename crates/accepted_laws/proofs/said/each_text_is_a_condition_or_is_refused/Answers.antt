use Rattle.accepted_laws.proofs.AskedOnce.{condition_told}
use Rattle.accepted_laws.proofs.said.each_text_is_a_condition_or_is_refused.Goals as goal

pub returns : goal.returns
returns c =
    condition_told c.tokens_are_slices.ensures c.tokens_rise.ensures c.each_tree_is_of_an_expression.ensures c.each_text_is_parsed_or_refused.ensures.expression
    c.each_text_has_tokens_or_a_place.ensures
