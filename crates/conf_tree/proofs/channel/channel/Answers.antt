use Rattle.conf_lex.proofs.PartShapes.{gives_along}
use Rattle.conf_tree.specs.View.{channel_tree}
use Rattle.conf_tree.proofs.ChannelSteps.{channel_braces, channel_alone}
use Rattle.conf_tree.proofs.channel.channel.Goals as goal

pub returns-in-Some : goal.returns-in-Some
returns-in-Some c =
    gives_along channel_tree _ _ _ (channel_braces c.args.depth_left c.args.at c.args.family c.args.words.now c.args.behind.now c.in-Some.inside.now c.requires c.in-Some.ensures) c.braced_channel.ensures

pub returns-in-None : goal.returns-in-None
returns-in-None c =
    channel_alone c.args.depth_left c.args.at c.args.family c.args.words.now c.args.behind.now c.requires c.in-None.ensures
