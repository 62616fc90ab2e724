-- What the options between a pair of braces come to (`channel_options`, `bgp_options`,
-- `pipe_options`): of each kind the one that is written last, and none where there is none. What an
-- option sets is said once, by `with_channel_option` and its like.
-- Not here: what counts where nothing is written (`Defaults`), what is refused (conf_rules).
-- From: BIRD User's Guide, "Channel options", "BGP", "Pipe"; that of options written twice the last
-- counts is own.
-- Example: `table t; import all; table u;` comes to the table u and to `import all`, and to no
-- exports, preference or limit.
use Rattle.std.specs.Prelude.{List, Option, Some, None, fold, option_copied, option_map}
use Rattle.conf_ast.specs.declared.named.Name.{Name}
use Rattle.conf_ast.specs.declared.filters.Num.{Num}
use Rattle.conf_ast.specs.declared.configurations.Limit.{Limit}
use Rattle.conf_ast.specs.Configurations.{Passing, passing_of, ChannelSetting, ChannelTable, ChannelImport, ChannelExport, ChannelPreference, ChannelLimit, ChannelNextHop, BgpSetting, BgpChannel, BgpLocal, BgpNeighbor, BgpMedMetric, BgpInterpretCommunities, BgpDefaultMed, BgpDefaultLocalPref, BgpTransport, PipeSetting, PipeTable, PipePeerTable, PipeImport, PipeExport}
use Rattle.conf_options.specs.declared.bgp.BgpOptions.{BgpOptions}
use Rattle.conf_options.specs.declared.channel.ChannelOptions as code_channel
use Rattle.conf_options.specs.declared.pipe.PipeOptions as code_pipe

-- ---- channels

pub record ChannelOptions : Type 0 where
  pub table : Option Name
  pub import : Option Passing
  pub export : Option Passing
  pub preference : Option Num
  pub limit : Option Limit

abbrev pub no_channel_options : ChannelOptions
no_channel_options =
    record { table = None; import = None; export = None; preference = None; limit = None }

-- An option takes the place of the one of its kind. The next hop has no effect.
abbrev pub with_channel_option : ChannelOptions → ChannelSetting → ChannelOptions
with_channel_option o (ChannelTable name) = record o { table = Some name }
with_channel_option o (ChannelImport p) = record o { import = Some p }
with_channel_option o (ChannelExport p) = record o { export = Some p }
with_channel_option o (ChannelPreference at n) = record o { preference = Some n }
with_channel_option o (ChannelLimit l) = record o { limit = Some l }
with_channel_option o (ChannelNextHop hop) = o

abbrev pub channel_options : List ChannelSetting → ChannelOptions
channel_options ss = fold with_channel_option no_channel_options ss

-- ---- BGP

abbrev pub no_bgp_options : BgpOptions
no_bgp_options = record {
  local = None;
  neighbor = None;
  med_metric = None;
  interpret_communities = None;
  default_med = None;
  default_local_pref = None;
}

-- Channels are told elsewhere, and the transport has no effect.
abbrev pub with_bgp_option : BgpOptions → BgpSetting → BgpOptions
with_bgp_option o (BgpChannel c) = o
with_bgp_option o (BgpLocal a n) = record o { local = Some n }
with_bgp_option o (BgpNeighbor a n) =
    record o { neighbor = Some (record { address = a.addr; number = n }) }
with_bgp_option o (BgpMedMetric s) = record o { med_metric = Some s }
with_bgp_option o (BgpInterpretCommunities s) = record o { interpret_communities = Some s }
with_bgp_option o (BgpDefaultMed at n) = record o { default_med = Some n }
with_bgp_option o (BgpDefaultLocalPref at n) = record o { default_local_pref = Some n }
with_bgp_option o (BgpTransport t) = o

abbrev pub bgp_options : List BgpSetting → BgpOptions
bgp_options ss = fold with_bgp_option no_bgp_options ss

-- ---- pipes

pub record PipeOptions : Type 0 where
  pub table : Option Name
  pub peer : Option Name
  pub import : Option Passing
  pub export : Option Passing

abbrev pub no_pipe_options : PipeOptions
no_pipe_options = record { table = None; peer = None; import = None; export = None }

abbrev pub with_pipe_option : PipeOptions → PipeSetting → PipeOptions
with_pipe_option o (PipeTable name) = record o { table = Some name }
with_pipe_option o (PipePeerTable name) = record o { peer = Some name }
with_pipe_option o (PipeImport p) = record o { import = Some p }
with_pipe_option o (PipeExport p) = record o { export = Some p }

abbrev pub pipe_options : List PipeSetting → PipeOptions
pipe_options ss = fold with_pipe_option no_pipe_options ss

-- ---- the same in memory

abbrev pub channel_options_of : code_channel.ChannelOptions → ChannelOptions
channel_options_of o = record {
  table = o.table;
  import = option_map passing_of (option_copied o.import);
  export = option_map passing_of (option_copied o.export);
  preference = o.preference;
  limit = o.limit;
}

abbrev pub pipe_options_of : code_pipe.PipeOptions → PipeOptions
pipe_options_of o = record {
  table = o.table;
  peer = o.peer;
  import = option_map passing_of (option_copied o.import);
  export = option_map passing_of (option_copied o.export);
}
