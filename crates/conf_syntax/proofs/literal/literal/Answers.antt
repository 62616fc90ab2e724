use Rattle.conf_lex.proofs.PartShapes.{gives_along}
use Rattle.conf_syntax.specs.View.{literal_tree}
use Rattle.conf_syntax.proofs.LiteralSteps.{more_levels, pair_is, mask_is, literal_bad}
use Rattle.conf_syntax.proofs.literal.literal.Goals as goal

pub returns-in-Some : goal.returns-in-Some
returns-in-Some c =
    more_levels c.args.depth_left c.args.words.now _ c.in-Some.rest.now c.in-Some.ensures

pub returns-in-Some-after_placed : goal.returns-in-Some-after_placed
returns-in-Some-after_placed c =
    gives_along literal_tree _ _ _ (pair_is c.args.depth_left c.in-Some-after_placed.at c.args.words.now c.in-Some-after_placed.behind.now c.in-Some-after_placed.ensures) c.pair.ensures

pub returns-in-Some-after_placed-3 : goal.returns-in-Some-after_placed-3
returns-in-Some-after_placed-3 c =
    gives_along literal_tree _ _ _ (mask_is c.args.depth_left c.in-Some-after_placed-3.at c.args.words.now c.in-Some-after_placed-3.behind.now c.in-Some-after_placed-3.ensures) c.mask.ensures

pub returns-in-None : goal.returns-in-None
returns-in-None c =
    literal_bad c.args.depth_left c.args.words.now c.in_default.ensures c.in_default-after_placed.ensures c.in_default-after_placed-2.ensures c.in-None.ensures
