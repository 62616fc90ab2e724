use Rattle.std.proofs.Common.{sym, ◌∙◌}
use Rattle.conf_syntax.proofs.joined.ends_item.Goals as goal

pub returns-in-Some : goal.returns-in-Some
returns-in-Some c = λ yes. record {
  front = c.in-Some._front.now;
  last = c.in-Some.last.now;
  cut = c.in-Some.ensures.cases.0;
  is = sym c.is_item_end.ensures ∙ yes;
}
