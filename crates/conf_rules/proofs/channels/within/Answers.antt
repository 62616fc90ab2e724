use Rattle.std.proofs.Common.{map, ap, ◌∙◌}
use Rattle.conf_ast.specs.Configurations.{channel_setting_of}
use Rattle.conf_options.specs.Options.{ChannelOptions, channel_options}
use Rattle.conf_rules.specs.Channels.{family_of_table, settings}
use Rattle.conf_names.specs.Refusals.{first_in}
use Rattle.conf_names.specs.Seen.{known_of}
use Rattle.conf_names.proofs.Firsts.{first_two}
use Rattle.conf_rules.proofs.channels.within.Goals as goal

pub returns : goal.returns
returns c =
    first_two (settings (known_of c.args.text.now c.args.declared.now) (map channel_setting_of c.args.options.now)) (family_of_table (known_of c.args.text.now c.args.declared.now) c.args.family (channel_options (map channel_setting_of c.args.options.now)).table) c.args.first.now c.settings.new.first c.family_of_table.new.first
    c.in_ok-settings.ensures
    (c.family_of_table.ensures ∙ ap (λ (o : ChannelOptions). first_in c.settings.new.first (family_of_table (known_of c.args.text.now c.args.declared.now) c.args.family o.table)) c.of-found.ensures)
