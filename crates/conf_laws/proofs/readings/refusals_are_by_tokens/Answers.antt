use Rattle.conf_laws.proofs.TokenPlaces.{text_by_tokens, text_by_end}
use Rattle.conf_laws.proofs.readings.refusals_are_by_tokens.Goals as goal

pub returns-clause-token : goal.returns-clause-token
returns-clause-token c = text_by_tokens c.texts_have_one_list_of_tokens.ensures c.tokens_are_slices.ensures c.tokens_rise.ensures

pub returns-clause-end : goal.returns-clause-end
returns-clause-end c = text_by_end c.texts_have_one_list_of_tokens.ensures c.tokens_are_slices.ensures c.tokens_rise.ensures
