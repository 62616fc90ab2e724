use Rattle.syntax_laws.proofs.Made.{slashed_word, else_colon_word}
use Rattle.syntax_laws.proofs.words.tokens_in_a_row_are_one_word.Goals as goal

pub returns-clause-prefix : goal.returns-clause-prefix
returns-clause-prefix c = slashed_word

pub returns-clause-else_colon : goal.returns-clause-else_colon
returns-clause-else_colon c = else_colon_word
