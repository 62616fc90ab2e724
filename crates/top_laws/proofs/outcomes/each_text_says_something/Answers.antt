use Rattle.top_laws.proofs.Counted.{said_within}
use Rattle.top_laws.proofs.Says.{says_something}
use Rattle.top_laws.proofs.outcomes.each_text_says_something.Goals as goal

pub returns : goal.returns
returns c =
    says_something c.each_place_has_a_line_and_a_column.ensures (said_within c.tokens_are_slices.ensures c.tokens_rise.ensures) c.each_tree_is_of_a_configuration.ensures
    c.each_text_is_a_configuration_or_is_refused.ensures
