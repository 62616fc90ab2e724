use Rattle.conf_lex.proofs.PartShapes.{gives_along}
use Rattle.conf_tree.specs.View.{channel_option_tree}
use Rattle.conf_tree.proofs.ChannelSteps.{import_limit, import_policy}
use Rattle.conf_tree.proofs.channel.import_option.Goals as goal

pub returns-in-Some : goal.returns-in-Some
returns-in-Some c =
    gives_along channel_option_tree _ _ _ (import_limit c.args.depth_left c.args.words.now c.args.behind.now c.in-Some.rest.now c.requires c.in-Some.ensures) c.import_limit.ensures

pub returns-in-None : goal.returns-in-None
returns-in-None c =
    gives_along channel_option_tree _ _ _ (import_policy c.args.depth_left c.args.words.now c.args.behind.now c.requires c.in-None.ensures) c.import_policy.ensures
