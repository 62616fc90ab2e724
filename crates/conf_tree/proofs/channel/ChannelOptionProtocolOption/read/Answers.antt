use Rattle.conf_lex.proofs.PartShapes.{gives_along}
use Rattle.conf_tree.specs.View.{channel_option_tree}
use Rattle.conf_tree.specs.Readers.{channel_option_at}
use Rattle.conf_tree.proofs.ChannelSteps.{option_table, option_export, option_preference, option_hop}
use Rattle.conf_tree.proofs.channel.ChannelOptionProtocolOption.read.Goals as goal

pub returns-in-Some : goal.returns-in-Some
unfolding channel_option_at
returns-in-Some c =
    gives_along channel_option_tree _ _ _ (option_table c.args.depth_left c.args.words.now c.in-Some.rest.now c.in-Some.ensures) c.table_option.ensures

pub returns-in-Some-after : goal.returns-in-Some-after
unfolding channel_option_at
returns-in-Some-after c =
    c.import_option.ensures

pub returns-in-Some-after-2 : goal.returns-in-Some-after-2
unfolding channel_option_at
returns-in-Some-after-2 c =
    gives_along channel_option_tree _ _ _ (option_export c.args.depth_left c.args.words.now c.in-Some-after-2.rest.now c.in-Some-after-2.ensures) c.export_option.ensures

pub returns-in-Some-after_attribute : goal.returns-in-Some-after_attribute
unfolding channel_option_at
returns-in-Some-after_attribute c =
    gives_along channel_option_tree _ _ _ (option_preference c.args.depth_left c.in-Some-after_attribute.at c.args.words.now c.in-Some-after_attribute.rest.now c.in-Some-after_attribute.ensures) c.preference.ensures

pub returns-in-None : goal.returns-in-None
unfolding channel_option_at
returns-in-None c =
    gives_along channel_option_tree _ _ _ (option_hop c.args.depth_left c.args.words.now c.in_default.ensures c.in_default-after.ensures c.in_default-after-2.ensures c.in-None.ensures) c.next_hop.ensures
