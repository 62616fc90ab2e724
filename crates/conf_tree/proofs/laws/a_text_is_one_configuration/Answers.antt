use Rattle.conf_tree.proofs.TextsOnce.{text_once}
use Rattle.conf_tree.proofs.laws.a_text_is_one_configuration.Goals as goal

pub returns : goal.returns
returns c = text_once c.texts_have_one_list_of_tokens.ensures
