use Rattle.conf_laws.proofs.Each.{one_or_other}
use Rattle.conf_laws.proofs.readings.each_text_is_a_configuration_or_is_refused.Goals as goal

pub returns : goal.returns
returns c = one_or_other c.each_text_has_tokens_or_a_place.ensures
