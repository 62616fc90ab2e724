use Rattle.expr_syntax.proofs.ItemSteps.{lengths_longer, lengths_shorter, lengths_none}
use Rattle.expr_syntax.proofs.items.lengths.Goals as goal

pub returns-in-Some : goal.returns-in-Some
returns-in-Some c =
    lengths_longer c.args.depth_left c.args.words.now c.in-Some.rest.now c.in-Some.ensures

pub returns-in-Some-after : goal.returns-in-Some-after
returns-in-Some-after c =
    lengths_shorter c.args.depth_left c.args.words.now c.in-Some-after.rest.now c.in-Some-after.ensures

pub returns-in-None : goal.returns-in-None
returns-in-None c =
    lengths_none c.args.depth_left c.args.words.now c.in_default.ensures c.in_default-after.ensures c.in-None.ensures
