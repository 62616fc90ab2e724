use Rattle.std.proofs.Common.{sym, ◌∙◌}
use Rattle.conf_lex.specs.declared.symbol.Symbol.TheVariants as symbols
use Rattle.conf_lex.proofs.Walks.{word_plain}
use Rattle.conf_lex.proofs.ahead.word_behind.Goals as goal

pub returns-in-Ip : goal.returns-in-Ip
returns-in-Ip c = λ from step. c.address_word.ensures from c.args.token step (sym c.word_of-alone.ensures ∙ c.in-Ip.is)

pub returns-in-Symbol : goal.returns-in-Symbol
returns-in-Symbol c = λ from step. c.sign_word.ensures from c.args.token step (sym c.word_of-alone.ensures ∙ c.in-Symbol.is)

pub returns-in_default : goal.returns-in_default
returns-in_default c = λ from step. word_plain c.args.text.now from c.args.behind c.args.token c.word_of-alone.result step c.word_of-alone.ensures c.in_default.not-Ip (c.in_default.not-Symbol symbols.Else)
