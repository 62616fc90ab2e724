-- The policies that count are among those that are written.
use Rattle.std.proofs.Common.{List, [], ◌∷◌, Option, Some, None, flat_map, fold}
use Rattle.conf_ast.specs.Configurations.{Passing, ChannelSetting, ChannelTable, ChannelImport, ChannelExport, ChannelPreference, ChannelLimit, ChannelNextHop, FamilyChannel, StaticSetting, StaticChannel, StaticRoute, BgpSetting, BgpChannel, BgpLocal, BgpNeighbor, BgpMedMetric, BgpInterpretCommunities, BgpDefaultMed, BgpDefaultLocalPref, BgpTransport, PipeSetting, PipeTable, PipePeerTable, PipeImport, PipeExport}
use Rattle.conf_ast.specs.Filters.{Statements}
use Rattle.conf_rules.specs.Protocols.{bgp_channels, static_channels}
use Rattle.conf_options.specs.Defaults.{export_or, import_or}
use Rattle.conf_options.specs.Options.{ChannelOptions, PipeOptions, with_channel_option, with_pipe_option}
use Rattle.conf_system.specs.Written.{in_bgp_setting, in_channel, in_channel_setting, in_pipe_setting, in_policy, in_static_setting}
use Rattle.conf_system.proofs.Every.{Every, left, right}

-- What is known of all filters that are written is known of those of the last policy.
module _ (W : Statements → Type 0) where
  abbrev OfPolicy : Passing → Type 0
  OfPolicy p = Every W (in_policy p)

  abbrev pub OfChannel : FamilyChannel → Type 0
  OfChannel c = Every W (in_channel c)

  -- ---- channels

  -- the same where one is written
  abbrev OfMaybe : Option Passing → Type 0
  OfMaybe None = Every W []
  OfMaybe (Some p) = OfPolicy p

  abbrev OfBoth : (import export : Option Passing) → Type 0
  OfBoth import export = OfMaybe import × OfMaybe export

  pub of_import : (written : Option Passing) → OfMaybe written → OfPolicy (import_or written)
  of_import None p = tt
  of_import (Some r) p = p

  pub of_export : (written : Option Passing) → OfMaybe written → OfPolicy (export_or written)
  of_export None p = tt
  of_export (Some r) p = p

  pub of_channel_options : (o : ChannelOptions) (all : List ChannelSetting) → OfBoth o.import o.export
      → Every W (flat_map in_channel_setting all)
      → OfBoth (fold with_channel_option o all).import (fold with_channel_option o all).export
  of_channel_options o [] p w = p
  of_channel_options o (ChannelImport r ∷ more) p w =
      of_channel_options (with_channel_option o (ChannelImport r)) more (left W (in_policy r) (flat_map in_channel_setting more) w, p.1)
      (right W (in_policy r) (flat_map in_channel_setting more) w)
  of_channel_options o (ChannelExport r ∷ more) p w =
      of_channel_options (with_channel_option o (ChannelExport r)) more (p.0, left W (in_policy r) (flat_map in_channel_setting more) w)
      (right W (in_policy r) (flat_map in_channel_setting more) w)
  of_channel_options o (ChannelTable name ∷ more) p w = of_channel_options (with_channel_option o (ChannelTable name)) more p w
  of_channel_options o (ChannelPreference at n ∷ more) p w = of_channel_options (with_channel_option o (ChannelPreference at n)) more p w
  of_channel_options o (ChannelLimit l ∷ more) p w = of_channel_options (with_channel_option o (ChannelLimit l)) more p w
  of_channel_options o (ChannelNextHop hop ∷ more) p w = of_channel_options (with_channel_option o (ChannelNextHop hop)) more p w

  -- ---- protocols

  pub of_static : (all : List StaticSetting) → Every W (flat_map in_static_setting all)
      → Every OfChannel (static_channels all)
  of_static [] w = tt
  of_static (StaticChannel c ∷ more) w = (
    left W (in_channel c) (flat_map in_static_setting more) w,
    of_static more (right W (in_channel c) (flat_map in_static_setting more) w),
  )
  of_static (StaticRoute r ∷ more) w = of_static more w

  pub of_bgp : (all : List BgpSetting) → Every W (flat_map in_bgp_setting all)
      → Every OfChannel (bgp_channels all)
  of_bgp [] w = tt
  of_bgp (BgpChannel c ∷ more) w = (
    left W (in_channel c) (flat_map in_bgp_setting more) w,
    of_bgp more (right W (in_channel c) (flat_map in_bgp_setting more) w),
  )
  of_bgp (BgpLocal a n ∷ more) w = of_bgp more w
  of_bgp (BgpNeighbor a n ∷ more) w = of_bgp more w
  of_bgp (BgpMedMetric s ∷ more) w = of_bgp more w
  of_bgp (BgpInterpretCommunities s ∷ more) w = of_bgp more w
  of_bgp (BgpDefaultMed at n ∷ more) w = of_bgp more w
  of_bgp (BgpDefaultLocalPref at n ∷ more) w = of_bgp more w
  of_bgp (BgpTransport t ∷ more) w = of_bgp more w

  -- ---- pipes

  pub of_pipe_options : (o : PipeOptions) (all : List PipeSetting) → OfBoth o.import o.export
      → Every W (flat_map in_pipe_setting all)
      → OfBoth (fold with_pipe_option o all).import (fold with_pipe_option o all).export
  of_pipe_options o [] p w = p
  of_pipe_options o (PipeImport r ∷ more) p w =
      of_pipe_options (with_pipe_option o (PipeImport r)) more (left W (in_policy r) (flat_map in_pipe_setting more) w, p.1)
      (right W (in_policy r) (flat_map in_pipe_setting more) w)
  of_pipe_options o (PipeExport r ∷ more) p w =
      of_pipe_options (with_pipe_option o (PipeExport r)) more (p.0, left W (in_policy r) (flat_map in_pipe_setting more) w)
      (right W (in_policy r) (flat_map in_pipe_setting more) w)
  of_pipe_options o (PipeTable name ∷ more) p w = of_pipe_options (with_pipe_option o (PipeTable name)) more p w
  of_pipe_options o (PipePeerTable name ∷ more) p w = of_pipe_options (with_pipe_option o (PipePeerTable name)) more p w
