use Rattle.conf_lex.proofs.PartShapes.{gives_along}
use Rattle.conf_tree.specs.View.{statement_tree}
use Rattle.conf_tree.proofs.ConfigSteps.{table_is, statement_bad}
use Rattle.conf_tree.proofs.statement.table.Goals as goal

pub returns-in-Some : goal.returns-in-Some
returns-in-Some c =
    gives_along statement_tree _ _ _ (table_is c.args.depth_left c.in-Some.at c.in-Some.family c.args.words.now c.in-Some.rest.now c.in-Some.ensures) c.table_of.ensures

pub returns-in-None : goal.returns-in-None
returns-in-None c =
    statement_bad c.args.depth_left c.args.words.now c.requires.router c.requires.log c.requires.define c.in-None.ensures c.requires.function c.requires.filter c.requires.protocol
