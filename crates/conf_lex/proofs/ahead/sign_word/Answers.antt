use Rattle.std.proofs.Common.{ap, ◌∙◌}
use Rattle.conf_lex.specs.declared.symbol.Symbol.{Symbol}
use Rattle.conf_lex.specs.declared.word.Word.TheVariants as words
use Rattle.conf_lex.proofs.Walks.{word_sign}
use Rattle.conf_lex.proofs.ahead.sign_word.Goals as goal

pub returns-in-Else : goal.returns-in-Else
returns-in-Else c = λ from t step is. c.else_word.ensures from t step (is ∙ ap (λ (s : Symbol). words.Symbol s) c.in-Else.is)

pub returns-in_default : goal.returns-in_default
returns-in_default c = λ from t step is. word_sign c.args.text.now from c.args.behind t c.args.symbol step is c.in_default.not-Else
