use Rattle.conf_laws.proofs.Tokens.{before_token, before_end}
use Rattle.conf_laws.proofs.laws.refused_tokens_stand_behind_a_beginning.Goals as goal

pub returns-clause-token : goal.returns-clause-token
returns-clause-token c = before_token c.texts_have_one_list_of_tokens.ensures c.tokens_are_slices.ensures c.tokens_rise.ensures

pub returns-clause-end : goal.returns-clause-end
returns-clause-end c = before_end c.texts_have_one_list_of_tokens.ensures c.tokens_are_slices.ensures c.tokens_rise.ensures
