use Rattle.syntax_laws.proofs.Each.{tokens_or_stop}
use Rattle.syntax_laws.proofs.words.each_text_has_tokens_or_a_place.Goals as goal

pub returns : goal.returns
returns c = tokens_or_stop
