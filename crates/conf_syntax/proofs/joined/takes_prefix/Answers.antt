use Rattle.std.proofs.Common.{sym, ◌∙◌}
use Rattle.conf_syntax.proofs.BehindRoutes.{prefix_behind_route}
use Rattle.conf_syntax.proofs.WithinSets.{prefix_behind_bracket, prefix_behind_comma}
use Rattle.conf_syntax.proofs.joined.takes_prefix.Goals as goal

pub returns-then-is_route : goal.returns-then-is_route
returns-then-is_route c = λ yes begun w net.
    prefix_behind_route c.args.before.now c.args.last.now (sym c.is_route.ensures ∙ c.if-is_route.true) begun w net

pub returns-then-opens_set : goal.returns-then-opens_set
returns-then-opens_set c = λ yes begun w net.
    prefix_behind_bracket c.args.before.now c.args.last.now (sym c.opens_set.ensures ∙ c.if-opens_set.true) begun w net

pub returns-then-is_comma : goal.returns-then-is_comma
returns-then-is_comma c = λ yes begun w net.
    let both = c.is_next_in_set.ensures yes in
    prefix_behind_comma c.args.before.now c.args.last.now both.0 both.1 (sym c.is_comma.ensures ∙ c.if-is_comma.true) begun w net
