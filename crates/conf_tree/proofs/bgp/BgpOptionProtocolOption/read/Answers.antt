use Rattle.conf_lex.proofs.PartShapes.{gives_along}
use Rattle.conf_tree.specs.View.{bgp_option_tree}
use Rattle.conf_tree.specs.Readers.{bgp_option_at}
use Rattle.conf_tree.proofs.BgpSteps.{bgp_channel, local_is, neighbor_is}
use Rattle.conf_tree.proofs.bgp.BgpOptionProtocolOption.read.Goals as goal

pub returns-in-Some : goal.returns-in-Some
unfolding bgp_option_at
returns-in-Some c =
    gives_along bgp_option_tree _ _ _ (bgp_channel c.args.depth_left c.in-Some.at c.in-Some.family c.args.words.now c.in-Some.behind.now c.in-Some.ensures) c.channel_option.ensures

pub returns-in-Some-after : goal.returns-in-Some-after
unfolding bgp_option_at
returns-in-Some-after c =
    gives_along bgp_option_tree _ _ _ (local_is c.args.depth_left c.args.words.now c.in-Some-after.behind.now c.in-Some-after.ensures) c.local.ensures

pub returns-in-Some-after-2 : goal.returns-in-Some-after-2
unfolding bgp_option_at
returns-in-Some-after-2 c =
    gives_along bgp_option_tree _ _ _ (neighbor_is c.args.depth_left c.args.words.now c.in-Some-after-2.behind.now c.in-Some-after-2.ensures) c.neighbor.ensures

pub returns-in-Some-after-3 : goal.returns-in-Some-after-3
unfolding bgp_option_at
returns-in-Some-after-3 c =
    c.default_value.ensures

pub returns-in-None : goal.returns-in-None
unfolding bgp_option_at
returns-in-None c =
    c.switch_option.ensures
