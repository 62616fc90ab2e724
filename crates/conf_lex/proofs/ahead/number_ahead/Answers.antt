use Rattle.std.proofs.Common.{sym, ◌∙◌}
use Rattle.conf_lex.proofs.Walks.{no_number}
use Rattle.conf_lex.proofs.ahead.number_ahead.Goals as goal

pub returns-in-None-number_of : goal.returns-in-None-number_of
returns-in-None-number_of c = no_number c.args.text.now c.args.spot c.in-Some.end c.in-Some.token c.in-Some.ensures (sym c.number_of.ensures ∙ c.in-None-number_of.is)
