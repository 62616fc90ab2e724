use Rattle.conf_tree.proofs.TextsOnce.{never_both}
use Rattle.conf_tree.proofs.laws.configurations_are_not_refused.Goals as goal

pub returns : goal.returns
returns c = never_both c.texts_have_one_list_of_tokens.ensures c.lexed_texts_are_not_refused.ensures
