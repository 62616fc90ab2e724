use Rattle.conf_tree.proofs.RefusalsOnce.{refusal_once}
use Rattle.conf_tree.proofs.laws.a_text_has_one_refusal.Goals as goal

pub returns : goal.returns
returns c = refusal_once c.texts_have_one_list_of_tokens.ensures c.lexed_texts_are_not_refused.ensures c.texts_are_refused_at_one_place.ensures
