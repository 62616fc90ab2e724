use Rattle.std.proofs.Common.{sym, ◌∙◌, ap}
use Rattle.conf_lex.specs.Symbols.{is_colon}
use Rattle.conf_lex.proofs.Walks.{if_colon}
use Rattle.conf_lex.proofs.ahead.colon_ahead.Goals as goal

pub returns-in-Some : goal.returns-in-Some
returns-in-Some c = rw c.then_some.ensures (if_colon c.args.text.now c.args.spot c.in-Some.end c.in-Some.token c.is_colon.result c.in-Some.ensures (sym (c.is_colon.ensures ∙ ap is_colon c.token_symbol.ensures)))
