-- Options of different kinds are set in either order, and each leaves the fields of other kinds.
use Rattle.std.proofs.Common.{refl}
use Rattle.conf_ast.specs.Configurations.{ChannelTable, ChannelImport, ChannelExport, ChannelPreference, ChannelLimit, BgpLocal, BgpNeighbor, BgpMedMetric, BgpInterpretCommunities, BgpDefaultMed, BgpDefaultLocalPref, PipeTable, PipePeerTable, PipeImport, PipeExport}
use Rattle.conf_options.specs.Kinds as kinds
use Rattle.conf_options.specs.Kinds.{bgp_kind, channel_kind, pipe_kind}
use Rattle.conf_options.specs.Options.{with_bgp_option, with_channel_option, with_pipe_option}
use Rattle.conf_options.proofs.Folds.{AreApart, IsKept}

-- ---- channels

pub channel_apart : AreApart with_channel_option channel_kind
channel_apart o (ChannelTable name) (ChannelTable other) differ = absurd (differ refl)
channel_apart o (ChannelImport p) (ChannelImport q) differ = absurd (differ refl)
channel_apart o (ChannelExport p) (ChannelExport q) differ = absurd (differ refl)
channel_apart o (ChannelPreference at n) (ChannelPreference place m) differ = absurd (differ refl)
channel_apart o (ChannelLimit l) (ChannelLimit m) differ = absurd (differ refl)
channel_apart o _ _ differ = refl

pub channel_table : IsKept with_channel_option channel_kind kinds.TableOfChannel (λ o. o.table)
channel_table o (ChannelTable name) differ = absurd (differ refl)
channel_table o _ differ = refl

pub channel_import : IsKept with_channel_option channel_kind kinds.ImportOfChannel (λ o. o.import)
channel_import o (ChannelImport p) differ = absurd (differ refl)
channel_import o _ differ = refl

pub channel_export : IsKept with_channel_option channel_kind kinds.ExportOfChannel (λ o. o.export)
channel_export o (ChannelExport p) differ = absurd (differ refl)
channel_export o _ differ = refl

pub channel_preference : IsKept with_channel_option channel_kind kinds.PreferenceOfChannel (λ o. o.preference)
channel_preference o (ChannelPreference at n) differ = absurd (differ refl)
channel_preference o _ differ = refl

pub channel_limit : IsKept with_channel_option channel_kind kinds.LimitOfChannel (λ o. o.limit)
channel_limit o (ChannelLimit l) differ = absurd (differ refl)
channel_limit o _ differ = refl

-- ---- BGP

pub bgp_apart : AreApart with_bgp_option bgp_kind
bgp_apart o (BgpLocal a n) (BgpLocal b m) differ = absurd (differ refl)
bgp_apart o (BgpNeighbor a n) (BgpNeighbor b m) differ = absurd (differ refl)
bgp_apart o (BgpMedMetric s) (BgpMedMetric t) differ = absurd (differ refl)
bgp_apart o (BgpInterpretCommunities s) (BgpInterpretCommunities t) differ = absurd (differ refl)
bgp_apart o (BgpDefaultMed at n) (BgpDefaultMed place m) differ = absurd (differ refl)
bgp_apart o (BgpDefaultLocalPref at n) (BgpDefaultLocalPref place m) differ = absurd (differ refl)
bgp_apart o _ _ differ = refl

pub bgp_local : IsKept with_bgp_option bgp_kind kinds.LocalOfBgp (λ o. o.local)
bgp_local o (BgpLocal a n) differ = absurd (differ refl)
bgp_local o _ differ = refl

pub bgp_neighbor : IsKept with_bgp_option bgp_kind kinds.NeighborOfBgp (λ o. o.neighbor)
bgp_neighbor o (BgpNeighbor a n) differ = absurd (differ refl)
bgp_neighbor o _ differ = refl

pub bgp_med_metric : IsKept with_bgp_option bgp_kind kinds.MedMetricOfBgp (λ o. o.med_metric)
bgp_med_metric o (BgpMedMetric s) differ = absurd (differ refl)
bgp_med_metric o _ differ = refl

pub bgp_interpret_communities : IsKept with_bgp_option bgp_kind kinds.InterpretCommunitiesOfBgp (λ o. o.interpret_communities)
bgp_interpret_communities o (BgpInterpretCommunities s) differ = absurd (differ refl)
bgp_interpret_communities o _ differ = refl

pub bgp_default_med : IsKept with_bgp_option bgp_kind kinds.DefaultMedOfBgp (λ o. o.default_med)
bgp_default_med o (BgpDefaultMed at n) differ = absurd (differ refl)
bgp_default_med o _ differ = refl

pub bgp_default_local_pref : IsKept with_bgp_option bgp_kind kinds.DefaultLocalPrefOfBgp (λ o. o.default_local_pref)
bgp_default_local_pref o (BgpDefaultLocalPref at n) differ = absurd (differ refl)
bgp_default_local_pref o _ differ = refl

-- ---- pipes

pub pipe_apart : AreApart with_pipe_option pipe_kind
pipe_apart o (PipeTable name) (PipeTable other) differ = absurd (differ refl)
pipe_apart o (PipePeerTable name) (PipePeerTable other) differ = absurd (differ refl)
pipe_apart o (PipeImport p) (PipeImport q) differ = absurd (differ refl)
pipe_apart o (PipeExport p) (PipeExport q) differ = absurd (differ refl)
pipe_apart o _ _ differ = refl

pub pipe_table : IsKept with_pipe_option pipe_kind kinds.TableOfPipe (λ o. o.table)
pipe_table o (PipeTable name) differ = absurd (differ refl)
pipe_table o _ differ = refl

pub pipe_peer : IsKept with_pipe_option pipe_kind kinds.PeerOfPipe (λ o. o.peer)
pipe_peer o (PipePeerTable name) differ = absurd (differ refl)
pipe_peer o _ differ = refl

pub pipe_import : IsKept with_pipe_option pipe_kind kinds.ImportOfPipe (λ o. o.import)
pipe_import o (PipeImport p) differ = absurd (differ refl)
pipe_import o _ differ = refl

pub pipe_export : IsKept with_pipe_option pipe_kind kinds.ExportOfPipe (λ o. o.export)
pipe_export o (PipeExport p) differ = absurd (differ refl)
pipe_export o _ differ = refl
