use Rattle.conf_lex.proofs.PartShapes.{gives_along}
use Rattle.conf_tree.specs.View.{statement_tree}
use Rattle.conf_tree.proofs.ProtocolSteps.{device_is, statement_static, statement_bgp, statement_pipe, protocol_bad}
use Rattle.conf_tree.proofs.protocol.protocol.Goals as goal

pub returns-in-Some : goal.returns-in-Some
returns-in-Some c =
    gives_along statement_tree _ _ _ (device_is c.args.depth_left c.args.words.now c.args.kind.now c.in-Some.behind.now c.requires c.in-Some.ensures) c.device.ensures

pub returns-in-Some-after_placed : goal.returns-in-Some-after_placed
returns-in-Some-after_placed c =
    gives_along statement_tree _ _ _ (statement_static c.args.depth_left c.in-Some-after_placed.at c.args.words.now c.args.kind.now c.in-Some-after_placed.behind.now c.requires c.in-Some-after_placed.ensures) c.static_protocol.ensures

pub returns-in-Some-after_placed-2 : goal.returns-in-Some-after_placed-2
returns-in-Some-after_placed-2 c =
    gives_along statement_tree _ _ _ (statement_bgp c.args.depth_left c.in-Some-after_placed-2.at c.args.words.now c.args.kind.now c.in-Some-after_placed-2.behind.now c.requires c.in-Some-after_placed-2.ensures) c.bgp_protocol.ensures

pub returns-in-Some-after_placed-3 : goal.returns-in-Some-after_placed-3
returns-in-Some-after_placed-3 c =
    gives_along statement_tree _ _ _ (statement_pipe c.args.depth_left c.in-Some-after_placed-3.at c.args.words.now c.args.kind.now c.in-Some-after_placed-3.behind.now c.requires c.in-Some-after_placed-3.ensures) c.pipe_protocol.ensures

pub returns-in-None : goal.returns-in-None
returns-in-None c =
    protocol_bad c.args.depth_left c.args.words.now c.args.kind.now c.requires c.in_default.ensures c.in_default-after_placed.ensures c.in_default-after_placed-2.ensures c.in-None.ensures
