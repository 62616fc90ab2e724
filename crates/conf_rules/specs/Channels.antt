-- What is refused in channels and their policies (`passing`, `channel`), of how many channels there
-- are (`one_channel`) and of policies that are missing (`lacks_policy`).
-- From: BIRD User's Guide, "Configuration", "Channel options".
-- Example: `table t6; table master4;` in an IPv4 channel is accepted, the other way round it is C9
-- at `t6`.
use Rattle.std.specs.Prelude.{ℕ, Bool, true, false, not, ◌||◌, List, [], ◌∷◌, ◌++◌, Option, Some, None, is_none}
use Rattle.bits_ip.specs.declared.address.Family.{Family}
use Rattle.bits_ip.specs.declared.address.Family.TheVariants as families
use Rattle.conf_ast.specs.declared.named.Name.{Name}
use Rattle.conf_ast.specs.declared.kind.ConfKind.TheVariants as kinds
use Rattle.conf_ast.specs.declared.configurations.Limit.{Limit}
use Rattle.conf_ast.specs.declared.configurations.Limit.TheVariants as limits
use Rattle.conf_ast.specs.Configurations.{Passing, PassAll, PassNone, PassByFilter, PassByBlock, PassWhere, ChannelSetting, ChannelTable, ChannelImport, ChannelExport, ChannelPreference, ChannelLimit, ChannelNextHop, FamilyChannel}
use Rattle.filt_meaning.specs.Configuration.{filter_where}
use Rattle.filt_types.specs.Refused as filters
use Rattle.conf_options.specs.Options.{ChannelOptions, channel_options}
use Rattle.conf_names.specs.declared.refusal.Refusal.{Refusal}
use Rattle.conf_names.specs.Known.{Known, filter, number, table, table_of}
use Rattle.conf_names.specs.Refusals.{of_filters, refused_if}

-- ---- policies

-- A policy that is a filter of its own is refused at its first word where it is too heavy.
abbrev pub passing : Known → Passing → List Refusal
passing known PassAll = []
passing known PassNone = []
passing known (PassByFilter at name) = filter known name
passing known (PassByBlock at ss) = of_filters (filters.of_filter known.scene at ss)
passing known (PassWhere at e) = of_filters (filters.of_filter known.scene at (filter_where e))

-- ---- channels

-- the number of a limit
abbrev pub limit : Known → Limit → List Refusal
limit known limits.Off = []
limit known (limits.Count n action) = number known n

-- Names, types, weights and numbers are checked in all that is written.
abbrev pub setting : Known → ChannelSetting → List Refusal
setting known (ChannelTable name) = table known name
setting known (ChannelImport p) = passing known p
setting known (ChannelExport p) = passing known p
setting known (ChannelPreference at n) = number known n
setting known (ChannelLimit l) = limit known l
setting known (ChannelNextHop hop) = []

abbrev pub settings : Known → List ChannelSetting → List Refusal
settings known [] = []
settings known (s ∷ more) = setting known s ++ settings known more

-- what stands in the braces, where there are some
abbrev pub settings_of : FamilyChannel → List ChannelSetting
settings_of c = listed c.settings
  where
    listed : Option (List ChannelSetting) → List ChannelSetting
    listed None = []
    listed (Some ss) = ss

-- the options that count
abbrev pub options_of : FamilyChannel → ChannelOptions
options_of c = channel_options (settings_of c)

abbrev pub same_family : Family → Family → Bool
same_family families.V4 families.V4 = true
same_family families.V6 families.V6 = true
same_family _ _ = false

abbrev pub is_other_family : Family → Option Family → Bool
is_other_family family None = false
is_other_family family (Some other) = not (same_family family other)

-- the table that counts is of the channel's family
abbrev pub family_of_table : Known → Family → Option Name → List Refusal
family_of_table known family None = []
family_of_table known family (Some name) =
    refused_if (is_other_family family (table_of known name)) name.at kinds.Nettype

abbrev pub channel : Known → FamilyChannel → List Refusal
channel known c =
    settings known (settings_of c)
    ++ family_of_table known c.family (options_of c).table

-- ---- how many channels

-- Each channel behind the first is refused at its family's word.
abbrev pub second_channels : List FamilyChannel → List Refusal
second_channels [] = []
second_channels (first ∷ more) = each more
  where
    each : List FamilyChannel → List Refusal
    each [] = []
    each (c ∷ others) = record { at = c.at; kind = kinds.Unsupported } ∷ each others

abbrev pub is_empty : {A : Type 0} → List A → Bool
is_empty [] = true
is_empty (a ∷ more) = false

-- A protocol has one channel. One that has none is refused at its own place.
abbrev pub one_channel : (at : ℕ) → List FamilyChannel → List Refusal
one_channel at cs = refused_if (is_empty cs) at kinds.Unsupported ++ second_channels cs

-- ---- policies that are missing

-- a channel that says nothing of its imports or of its exports
abbrev pub lacks_policy : FamilyChannel → Bool
lacks_policy c = lacks_either (options_of c)
  where
    lacks_either : ChannelOptions → Bool
    lacks_either o = is_none o.import || is_none o.export
