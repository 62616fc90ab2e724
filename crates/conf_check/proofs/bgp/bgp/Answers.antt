use Rattle.std.proofs.Common.{List, Option, map, sym, ap, subst, ◌∙◌}
use Rattle.conf_ast.specs.declared.configurations.BgpOption.{BgpOption}
use Rattle.conf_ast.specs.declared.filters.Num.{Num}
use Rattle.conf_ast.specs.Configurations.{FamilyChannel, bgp_setting_of, instance_of}
use Rattle.conf_options.specs.Defaults.{bgp_preference}
use Rattle.conf_names.specs.Seen.{known_of}
use Rattle.conf_rules.specs.Protocols.{as_number}
use Rattle.conf_check.specs.declared.checked.BgpDef.{BgpDef}
use Rattle.conf_check.specs.Checked.{IsChannel, IsOnly, or_zero}
use Rattle.conf_check.specs.Seen.{Means}
use Rattle.conf_check.proofs.Options.{bgp_is}
use Rattle.conf_check.proofs.bgp.bgp.Goals as goal

pub returns : goal.returns
returns c =
    let known = known_of c.args.text.now c.args.declared.now in
    let does = Means c.args.text.now c.args.declared.now.scope in
    let def : BgpDef = record { local = c.known_as-local.result; neighbor = c.address_or.result; remote = c.known_as-remote.result; interpret_communities = c.interprets.result; default_med = c.number_or-default_med.result; default_local_pref = c.number_or-default_local_pref.result; channel = c.in_ok-channel.channel } in
    bgp_is known does (instance_of bgp_setting_of c.args.protocol.now) (map bgp_setting_of c.as_slice-options.result.now) c.of-found.result def
    (ap (λ (xs : List BgpOption). map bgp_setting_of xs) c.as_slice-options.ensures.value) c.of-found.ensures c.known_as-local.ensures
    (c.known_as-remote.ensures ∙ ap (λ (n : Option Num). or_zero (as_number known n)) c.remote.ensures)
    c.address_or.ensures c.interprets.ensures c.number_or-default_med.ensures c.number_or-default_local_pref.ensures
    (subst (λ (cs : List FamilyChannel). IsOnly (λ x. IsChannel known does bgp_preference x def.channel) cs) (sym c.only_channel.ensures) c.in_ok-channel.ensures)
