-- Which options are of one kind, for laws alone.
use Rattle.conf_ast.specs.Configurations.{ChannelSetting, ChannelTable, ChannelImport, ChannelExport, ChannelPreference, ChannelLimit, ChannelNextHop, BgpSetting, BgpChannel, BgpLocal, BgpNeighbor, BgpMedMetric, BgpInterpretCommunities, BgpDefaultMed, BgpDefaultLocalPref, BgpTransport, PipeSetting, PipeTable, PipePeerTable, PipeImport, PipeExport}

pub data ChannelKind : Type 0 where
  TableOfChannel : ChannelKind
  ImportOfChannel : ChannelKind
  ExportOfChannel : ChannelKind
  PreferenceOfChannel : ChannelKind
  LimitOfChannel : ChannelKind
  NextHopOfChannel : ChannelKind

abbrev pub channel_kind : ChannelSetting → ChannelKind
channel_kind (ChannelTable name) = TableOfChannel
channel_kind (ChannelImport p) = ImportOfChannel
channel_kind (ChannelExport p) = ExportOfChannel
channel_kind (ChannelPreference at n) = PreferenceOfChannel
channel_kind (ChannelLimit l) = LimitOfChannel
channel_kind (ChannelNextHop hop) = NextHopOfChannel

pub data BgpKind : Type 0 where
  ChannelOfBgp : BgpKind
  LocalOfBgp : BgpKind
  NeighborOfBgp : BgpKind
  MedMetricOfBgp : BgpKind
  InterpretCommunitiesOfBgp : BgpKind
  DefaultMedOfBgp : BgpKind
  DefaultLocalPrefOfBgp : BgpKind
  TransportOfBgp : BgpKind

abbrev pub bgp_kind : BgpSetting → BgpKind
bgp_kind (BgpChannel c) = ChannelOfBgp
bgp_kind (BgpLocal a n) = LocalOfBgp
bgp_kind (BgpNeighbor a n) = NeighborOfBgp
bgp_kind (BgpMedMetric s) = MedMetricOfBgp
bgp_kind (BgpInterpretCommunities s) = InterpretCommunitiesOfBgp
bgp_kind (BgpDefaultMed at n) = DefaultMedOfBgp
bgp_kind (BgpDefaultLocalPref at n) = DefaultLocalPrefOfBgp
bgp_kind (BgpTransport t) = TransportOfBgp

pub data PipeKind : Type 0 where
  TableOfPipe : PipeKind
  PeerOfPipe : PipeKind
  ImportOfPipe : PipeKind
  ExportOfPipe : PipeKind

abbrev pub pipe_kind : PipeSetting → PipeKind
pipe_kind (PipeTable name) = TableOfPipe
pipe_kind (PipePeerTable name) = PeerOfPipe
pipe_kind (PipeImport p) = ImportOfPipe
pipe_kind (PipeExport p) = ExportOfPipe
