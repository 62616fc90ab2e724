use Rattle.std.proofs.Common.{map, refl, ap, ◌∙◌}
use Rattle.conf_ast.specs.declared.configurations.Limit.{Limit}
use Rattle.conf_ast.specs.Configurations.{channel_of, channel_setting_of}
use Rattle.conf_options.specs.Options.{channel_options_of}
use Rattle.conf_names.specs.Seen.{known_of}
use Rattle.conf_check.specs.declared.checked.ChannelDef.{ChannelDef}
use Rattle.conf_check.specs.Checked.{limit_of}
use Rattle.conf_check.specs.Seen.{Means}
use Rattle.conf_check.proofs.Options.{channel_is}
use Rattle.conf_check.proofs.channel.channel.Goals as goal

pub returns : goal.returns
returns c =
    let known = known_of c.args.text.now c.args.declared.now in
    let def : ChannelDef = record { family = c.args.channel.now.family; table = c.table_of.result; import = c.in_ok-import.import; export = c.in_ok-export.export; preference = c.number_or.result; limit = c.limit_of.result } in
    channel_is known (Means c.args.text.now c.args.declared.now.scope) c.args.preference (channel_of c.args.channel.now) (map channel_setting_of c.options_of.result.now) (channel_options_of c.of-found.result) def
    c.options_of.ensures c.of-found.ensures refl c.table_of.ensures c.in_ok-import.ensures c.in_ok-export.ensures c.number_or.ensures
    (c.limit_of.ensures ∙ ap (λ (l : Limit). limit_of known l) c.limit_or.ensures)
