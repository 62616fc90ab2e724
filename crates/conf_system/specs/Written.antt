-- For the laws: the filters that are written in a configuration, each with the statements before it
-- (`IsWritten`): the blocks of filters by name, and the blocks and conditions of protocols'
-- policies, also of policies that don't count because a later one does.
-- Not modelled: functions, which are statements of their own.
-- From: own.
-- Example: `protocol static { ipv4 { import where net = 10.0.0.0/8; import all; }; }` has one.
use Rattle.std.specs.Prelude.{◌≡◌, Contains, List, [], ◌∷◌, ◌++◌, flat_map}
use Rattle.conf_ast.specs.Configurations as conf
use Rattle.conf_ast.specs.Configurations.{Passing, PassAll, PassNone, PassByFilter, PassByBlock}
use Rattle.conf_ast.specs.Configurations.{PassWhere, ChannelSetting, ChannelImport, ChannelExport}
use Rattle.conf_ast.specs.Configurations.{FamilyChannel, StaticSetting, StaticChannel, StaticRoute}
use Rattle.conf_ast.specs.Configurations.{BgpSetting, BgpChannel, PipeSetting, PipeImport}
use Rattle.conf_ast.specs.Configurations.{PipeExport}
use Rattle.conf_ast.specs.Filters.{Statements}
use Rattle.filt_meaning.specs.Configuration.{filter_where}
use Rattle.conf_rules.specs.Channels.{settings_of}

-- ---- policies

-- a filter by name is written elsewhere
abbrev pub in_policy : Passing → List Statements
in_policy PassAll = []
in_policy PassNone = []
in_policy (PassByFilter at name) = []
in_policy (PassByBlock at ss) = ss ∷ []
in_policy (PassWhere at e) = filter_where e ∷ []

-- ---- what stands between braces

abbrev pub in_channel_setting : ChannelSetting → List Statements
in_channel_setting (ChannelImport p) = in_policy p
in_channel_setting (ChannelExport p) = in_policy p
in_channel_setting _ = []

abbrev pub in_channel : FamilyChannel → List Statements
in_channel c = flat_map in_channel_setting (settings_of c)

abbrev pub in_static_setting : StaticSetting → List Statements
in_static_setting (StaticChannel c) = in_channel c
in_static_setting (StaticRoute r) = []

abbrev pub in_bgp_setting : BgpSetting → List Statements
in_bgp_setting (BgpChannel c) = in_channel c
in_bgp_setting _ = []

abbrev pub in_pipe_setting : PipeSetting → List Statements
in_pipe_setting (PipeImport p) = in_policy p
in_pipe_setting (PipeExport p) = in_policy p
in_pipe_setting _ = []

-- ---- statements

abbrev pub filters_in : conf.Declaration → List Statements
filters_in (conf.DefineFilter at name ss) = ss ∷ []
filters_in (conf.Static p) = flat_map in_static_setting p.settings
filters_in (conf.Bgp p) = flat_map in_bgp_setting p.settings
filters_in (conf.Pipe p) = flat_map in_pipe_setting p.settings
filters_in _ = []

-- The filter is written in the configuration, in a statement behind these.
abbrev pub IsWritten : List conf.Declaration → (before : List conf.Declaration) → Statements
    → Type 0
IsWritten ds before ss = (d : conf.Declaration) × (more : List conf.Declaration)
    × (ds ≡ before ++ d ∷ more) × Contains (filters_in d) ss
