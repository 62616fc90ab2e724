use Rattle.conf_lex.proofs.Walks.{word_else, word_else_colon}
use Rattle.conf_lex.proofs.ahead.else_word.Goals as goal

pub returns-in-Some : goal.returns-in-Some
returns-in-Some c = λ from t step is. word_else_colon c.args.text.now from c.args.behind c.in-Some.end t step is c.in-Some.ensures

pub returns-in-None : goal.returns-in-None
returns-in-None c = λ from t step is. word_else c.args.text.now from c.args.behind t step is c.in-None.ensures
