use Rattle.conf_syntax.proofs.joined.is_next_in_set.Goals as goal

pub returns-then-ends_item : goal.returns-then-ends_item
returns-then-ends_item c = λ yes. (c.is_in_set.ensures yes, c.ends_item.ensures c.if-ends_item.true)
