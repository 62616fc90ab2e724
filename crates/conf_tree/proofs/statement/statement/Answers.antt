use Rattle.conf_lex.proofs.PartShapes.{gives_along}
use Rattle.conf_tree.specs.View.{statement_tree}
use Rattle.conf_tree.proofs.ConfigSteps.{router_is, log_is, define_is, function_is, filter_is}
use Rattle.conf_tree.proofs.statement.statement.Goals as goal

pub returns-in-Some : goal.returns-in-Some
returns-in-Some c =
    gives_along statement_tree _ _ _ (router_is c.args.depth_left c.args.words.now c.in-Some.behind.now c.in-Some.ensures) c.router_id.ensures

pub returns-in-Some-after : goal.returns-in-Some-after
returns-in-Some-after c =
    gives_along statement_tree _ _ _ (log_is c.args.depth_left c.args.words.now c.in-Some-after.behind.now c.in-Some-after.ensures) c.log.ensures

pub returns-in-Some-after-2 : goal.returns-in-Some-after-2
returns-in-Some-after-2 c =
    gives_along statement_tree _ _ _ (define_is c.args.depth_left c.args.words.now c.in-Some-after-2.behind.now c.in-Some-after-2.ensures) c.define.ensures

pub returns-in-Some-after-3 : goal.returns-in-Some-after-3
returns-in-Some-after-3 c =
    gives_along statement_tree _ _ _ (function_is c.args.depth_left c.args.words.now c.in-Some-after-3.behind.now c.in-Some-after-3.ensures) c.function.ensures

pub returns-in-Some-after_placed : goal.returns-in-Some-after_placed
returns-in-Some-after_placed c =
    gives_along statement_tree _ _ _ (filter_is c.args.depth_left c.in-Some-after_placed.at c.args.words.now c.in-Some-after_placed.behind.now c.in-Some-after_placed.ensures) c.filter.ensures
