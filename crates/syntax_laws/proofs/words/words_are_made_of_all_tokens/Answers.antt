use Rattle.syntax_laws.proofs.Made.{tokens_make_up}
use Rattle.syntax_laws.proofs.words.words_are_made_of_all_tokens.Goals as goal

pub returns : goal.returns
returns c = tokens_make_up
