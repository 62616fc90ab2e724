use Rattle.conf_lex.proofs.PartShapes.{gives_along}
use Rattle.conf_tree.specs.View.{pipe_option_tree}
use Rattle.conf_tree.specs.Readers.{pipe_option_at}
use Rattle.conf_tree.proofs.BgpSteps.{pipe_table, peer_is, import_is, export_is}
use Rattle.conf_tree.proofs.pipe.PipeOptionProtocolOption.read.Goals as goal

pub returns-in-Some : goal.returns-in-Some
unfolding pipe_option_at
returns-in-Some c =
    gives_along pipe_option_tree _ _ _ (pipe_table c.args.depth_left c.args.words.now c.in-Some.rest.now c.in-Some.ensures) c.table.ensures

pub returns-in-Some-after : goal.returns-in-Some-after
unfolding pipe_option_at
returns-in-Some-after c =
    gives_along pipe_option_tree _ _ _ (peer_is c.args.depth_left c.args.words.now c.in-Some-after.rest.now c.in-Some-after.ensures) c.peer_table.ensures

pub returns-in-Some-after-2 : goal.returns-in-Some-after-2
unfolding pipe_option_at
returns-in-Some-after-2 c =
    gives_along pipe_option_tree _ _ _ (import_is c.args.depth_left c.args.words.now c.in-Some-after-2.rest.now c.in-Some-after-2.ensures) c.import.ensures

pub returns-in-None : goal.returns-in-None
unfolding pipe_option_at
returns-in-None c =
    gives_along pipe_option_tree _ _ _ (export_is c.args.depth_left c.args.words.now c.in_default.ensures c.in_default-after.ensures c.in-None.ensures) c.export.ensures
