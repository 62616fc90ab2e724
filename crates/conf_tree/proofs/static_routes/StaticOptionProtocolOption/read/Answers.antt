use Rattle.conf_lex.proofs.PartShapes.{gives_along}
use Rattle.conf_tree.specs.View.{static_option_tree}
use Rattle.conf_tree.specs.Readers.{static_option_at}
use Rattle.conf_tree.proofs.RouteSteps.{static_channel, static_route}
use Rattle.conf_tree.proofs.static_routes.StaticOptionProtocolOption.read.Goals as goal

pub returns-in-Some : goal.returns-in-Some
unfolding static_option_at
returns-in-Some c =
    gives_along static_option_tree _ _ _ (static_channel c.args.depth_left c.in-Some.at c.in-Some.family c.args.words.now c.in-Some.behind.now c.in-Some.ensures) c.channel_option.ensures

pub returns-in-None : goal.returns-in-None
unfolding static_option_at
returns-in-None c =
    gives_along static_option_tree _ _ _ (static_route c.args.depth_left c.args.words.now c.in-None.ensures) c.route.ensures
