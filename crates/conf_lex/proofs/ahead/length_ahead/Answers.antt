use Rattle.std.proofs.Common.{sym, ◌∙◌, ap}
use Rattle.conf_lex.specs.Symbols.{is_slash}
use Rattle.conf_lex.proofs.Walks.{if_slash, no_slash}
use Rattle.conf_lex.proofs.ahead.length_ahead.Goals as goal

pub returns-then-is_slash : goal.returns-then-is_slash
returns-then-is_slash c = if_slash c.args.text.now c.args.spot c.in-Some.middle c.in-Some.token c.number_ahead.result c.in-Some.ensures (sym (c.is_slash.ensures ∙ ap is_slash c.token_symbol.ensures) ∙ c.if-is_slash.true) c.number_ahead.ensures

pub returns-else-is_slash : goal.returns-else-is_slash
returns-else-is_slash c = no_slash c.args.text.now c.args.spot c.in-Some.middle c.in-Some.token c.in-Some.ensures (sym (c.is_slash.ensures ∙ ap is_slash c.token_symbol.ensures) ∙ c.if-is_slash.false)
