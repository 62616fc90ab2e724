-- What is made of the options that count.
use Rattle.std.proofs.Common.{◌≡◌, ℕ, List, ap, subst, ◌∙◌}
use Rattle.conf_ast.specs.Configurations.{BgpSetting, ChannelSetting, FamilyChannel, Instance, PipeSetting}
use Rattle.conf_ast.specs.Filters.{Statements}
use Rattle.conf_options.specs.declared.bgp.BgpOptions.{BgpOptions}
use Rattle.conf_options.specs.Defaults as defaults
use Rattle.conf_options.specs.Defaults.{address_or, bgp_preference, export_or, import_or, interprets, limit_or}
use Rattle.conf_options.specs.Options.{ChannelOptions, PipeOptions, bgp_options, channel_options, pipe_options}
use Rattle.filt_meaning.specs.declared.tree.TFilter.{TFilter}
use Rattle.conf_names.specs.Known.{Known, table_number}
use Rattle.conf_rules.specs.Channels.{settings_of}
use Rattle.conf_rules.specs.Protocols.{as_number, bgp_channels, primary_name}
use Rattle.conf_check.specs.declared.checked.BgpDef.{BgpDef}
use Rattle.conf_check.specs.declared.checked.ChannelDef.{ChannelDef}
use Rattle.conf_check.specs.declared.checked.PipeDef.{PipeDef}
use Rattle.conf_check.specs.Checked.{IsBgp, IsChannel, IsOnly, IsPeer, IsPipe, IsPolicy, limit_of, number_or, or_zero, table_name}

module _ (known : Known) (does : Statements → TFilter → Type 0) where
  pub channel_is : (n : ℕ) (c : FamilyChannel) (ss : List ChannelSetting) (o : ChannelOptions) (def : ChannelDef) → ss ≡ settings_of c → o ≡ channel_options ss → def.family ≡ c.family → def.table ≡ table_number known (table_name known.scene.text c.family o.table) → IsPolicy known does (import_or o.import) def.import → IsPolicy known does (export_or o.export) def.export → def.preference ≡ number_or known n o.preference → def.limit ≡ limit_of known (limit_or o.limit) → IsChannel known does n c def
  channel_is n c ss o def are comes family table imports exports preferred limited =
      let found : o ≡ channel_options (settings_of c) = comes ∙ ap channel_options are in
      record {
        family = family;
        table = table ∙ ap (λ (x : ChannelOptions). table_number known (table_name known.scene.text c.family x.table)) found;
        imports = subst (λ (x : ChannelOptions). IsPolicy known does (import_or x.import) def.import) found imports;
        exports = subst (λ (x : ChannelOptions). IsPolicy known does (export_or x.export) def.export) found exports;
        preferred = preferred ∙ ap (λ (x : ChannelOptions). number_or known n x.preference) found;
        limited = limited ∙ ap (λ (x : ChannelOptions). limit_of known (limit_or x.limit)) found;
      }

  pub bgp_is : (p : Instance BgpSetting) (ss : List BgpSetting) (o : BgpOptions) (def : BgpDef) → ss ≡ p.settings → o ≡ bgp_options ss → def.local ≡ or_zero (as_number known o.local) → def.remote ≡ or_zero (as_number known (defaults.remote o)) → def.neighbor ≡ address_or o.neighbor → def.interpret_communities ≡ interprets o.interpret_communities → def.default_med ≡ number_or known defaults.default_med o.default_med → def.default_local_pref ≡ number_or known defaults.default_local_pref o.default_local_pref → IsOnly (λ c. IsChannel known does bgp_preference c def.channel) (bgp_channels ss) → IsBgp known does p def
  bgp_is p ss o def are comes local remote neighbor interpret med local_pref channel =
      let found : o ≡ bgp_options p.settings = comes ∙ ap bgp_options are in
      record {
        local = local ∙ ap (λ (x : BgpOptions). or_zero (as_number known x.local)) found;
        remote = remote ∙ ap (λ (x : BgpOptions). or_zero (as_number known (defaults.remote x))) found;
        neighbor = neighbor ∙ ap (λ (x : BgpOptions). address_or x.neighbor) found;
        interpret = interpret ∙ ap (λ (x : BgpOptions). interprets x.interpret_communities) found;
        med = med ∙ ap (λ (x : BgpOptions). number_or known defaults.default_med x.default_med) found;
        local_pref = local_pref ∙ ap (λ (x : BgpOptions). number_or known defaults.default_local_pref x.default_local_pref) found;
        channel = subst (λ (xs : List BgpSetting). IsOnly (λ c. IsChannel known does bgp_preference c def.channel) (bgp_channels xs)) are channel;
      }

  pub pipe_is : (p : Instance PipeSetting) (ss : List PipeSetting) (o : PipeOptions) (def : PipeDef) → ss ≡ p.settings → o ≡ pipe_options ss → def.table ≡ table_number known (primary_name known.scene.text o.table) → IsPeer known o.peer def → IsPolicy known does (import_or o.import) def.import → IsPolicy known does (export_or o.export) def.export → IsPipe known does p def
  pipe_is p ss o def are comes table peer imports exports =
      let found : o ≡ pipe_options p.settings = comes ∙ ap pipe_options are in
      record {
        table = table ∙ ap (λ (x : PipeOptions). table_number known (primary_name known.scene.text x.table)) found;
        peer = subst (λ (x : PipeOptions). IsPeer known x.peer def) found peer;
        imports = subst (λ (x : PipeOptions). IsPolicy known does (import_or x.import) def.import) found imports;
        exports = subst (λ (x : PipeOptions). IsPolicy known does (export_or x.export) def.export) found exports;
      }
