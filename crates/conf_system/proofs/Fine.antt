-- Where nothing is refused of a statement nothing is refused of the filters that are written in it,
-- and none of them is too heavy.
use Rattle.std.proofs.Common.{◌≡◌, ℕ, ◌≤◌, Bool, true, false, nat_lt, List, [], ◌∷◌, flat_map, map, refl}
use Rattle.std.proofs.lemmas.Bool.{ltb-false}
use Rattle.conf_ast.specs.Configurations as conf
use Rattle.conf_ast.specs.Configurations.{Routine, Passing, PassAll, PassNone, PassByFilter, PassByBlock, PassWhere, ChannelSetting, ChannelTable, ChannelImport, ChannelExport, ChannelPreference, ChannelLimit, ChannelNextHop, FamilyChannel, StaticSetting, StaticChannel, StaticRoute, BgpSetting, BgpChannel, BgpLocal, BgpNeighbor, BgpMedMetric, BgpInterpretCommunities, BgpDefaultMed, BgpDefaultLocalPref, BgpTransport, PipeSetting, PipeTable, PipePeerTable, PipeImport, PipeExport}
use Rattle.conf_ast.specs.Filters.{Statements}
use Rattle.filt_meaning.specs.Configuration.{filter_where}
use Rattle.filt_types.specs.declared.refusal.Cause.TheVariants as causes
use Rattle.filt_types.specs.Refusals as of_types
use Rattle.filt_types.specs.Scenes.{Scene}
use Rattle.filt_types.specs.Statements.{in_filter, in_function}
use Rattle.filt_types.specs.Weight.{block_weight, too_heavy}
use Rattle.filt_types.specs.Refused as filters
use Rattle.conf_rules.specs.Channels.{channel, passing, setting, settings, settings_of}
use Rattle.conf_names.specs.Known.{Known, declaring}
use Rattle.conf_rules.specs.Protocols.{bgp_setting, bgp_settings, pipe_setting, pipe_settings, static_setting, static_settings}
use Rattle.conf_names.specs.Refusals.{of_filter, of_filters}
use Rattle.conf_rules.specs.Statements.{refusals}
use Rattle.conf_check.proofs.Allowed.{nil_left, nil_right}
use Rattle.conf_system.specs.Written.{filters_in, in_bgp_setting, in_channel, in_channel_setting, in_pipe_setting, in_policy, in_static_setting}
use Rattle.conf_system.proofs.Every.{Every, join}

-- nothing is refused of a filter, and it isn't too heavy
abbrev pub IsFine : Scene → Statements → Type 0
IsFine scene ss = (in_filter scene ss ≡ []) × (block_weight scene ss ≤ 10000000)

map_nil : {A B : Type 0} (f : A → B) (xs : List A) → map f xs ≡ [] → xs ≡ []
map_nil f [] e = refl
map_nil f (x ∷ xs) e = absurd (cc)

light_where : (b : Bool) (at n : ℕ) → nat_lt 10000000 n ≡ b
    → of_types.refused_if b at causes.TooHeavy ≡ [] → n ≤ 10000000
light_where true at n t e = absurd (cc)
light_where false at n t e = ltb-false 10000000 n t

light : (at n : ℕ) → too_heavy at n ≡ [] → n ≤ 10000000
light at n e = light_where (nat_lt 10000000 n) at n refl e

-- ---- filters and functions

pub condition_fine : (scene : Scene) (at : ℕ) (ss : Statements)
    → filters.of_filter scene at ss ≡ [] → IsFine scene ss
condition_fine scene at ss none =
    let heavy = too_heavy at (block_weight scene ss) in (
      nil_right heavy (in_filter scene ss) none,
      light at (block_weight scene ss) (nil_left heavy (in_filter scene ss) none),
    )

filter_fine : (scene : Scene) (at : ℕ) (ss : Statements)
    → of_filters (filters.of_filter scene at ss) ≡ [] → IsFine scene ss
filter_fine scene at ss e =
    condition_fine scene at ss (map_nil of_filter (filters.of_filter scene at ss) e)

pub function_fine : (known : Known) (f : Routine) → refusals known (conf.DefineFunction f) ≡ []
    → (in_function known.scene f ≡ []) × (block_weight known.scene f.body ≤ 10000000)
function_fine known f e =
    let none : filters.of_function known.scene f ≡ [] =
    map_nil of_filter (filters.of_function known.scene f)
    (nil_right (declaring known f.name) (of_filters (filters.of_function known.scene f)) e) in
    let heavy = too_heavy f.name.at (block_weight known.scene f.body) in (
      nil_right heavy (in_function known.scene f) none,
      light f.name.at (block_weight known.scene f.body)
          (nil_left heavy (in_function known.scene f) none),
    )

-- ---- what stands between braces

module _ (known : Known) where
  abbrev Fine : List Statements → Type 0
  Fine all = Every (IsFine known.scene) all

  policy_fine : (p : Passing) → passing known p ≡ [] → Fine (in_policy p)
  policy_fine PassAll e = tt
  policy_fine PassNone e = tt
  policy_fine (PassByFilter at name) e = tt
  policy_fine (PassByBlock at ss) e = (filter_fine known.scene at ss e, tt)
  policy_fine (PassWhere at c) e = (filter_fine known.scene at (filter_where c) e, tt)

  setting_fine : (s : ChannelSetting) → setting known s ≡ [] → Fine (in_channel_setting s)
  setting_fine (ChannelTable name) e = tt
  setting_fine (ChannelImport p) e = policy_fine p e
  setting_fine (ChannelExport p) e = policy_fine p e
  setting_fine (ChannelPreference at n) e = tt
  setting_fine (ChannelLimit l) e = tt
  setting_fine (ChannelNextHop hop) e = tt

  settings_fine : (all : List ChannelSetting) → settings known all ≡ []
      → Fine (flat_map in_channel_setting all)
  settings_fine [] e = tt
  settings_fine (s ∷ more) e =
      join (IsFine known.scene) (in_channel_setting s) (flat_map in_channel_setting more)
      (setting_fine s (nil_left (setting known s) (settings known more) e))
      (settings_fine more (nil_right (setting known s) (settings known more) e))

  channel_fine : (c : FamilyChannel) → channel known c ≡ [] → Fine (in_channel c)
  channel_fine c e = settings_fine (settings_of c) (nil_left (settings known (settings_of c)) _ e)

  static_fine : (s : StaticSetting) → static_setting known s ≡ [] → Fine (in_static_setting s)
  static_fine (StaticChannel c) e = channel_fine c e
  static_fine (StaticRoute r) e = tt

  statics_fine : (all : List StaticSetting) → static_settings known all ≡ []
      → Fine (flat_map in_static_setting all)
  statics_fine [] e = tt
  statics_fine (s ∷ more) e =
      join (IsFine known.scene) (in_static_setting s) (flat_map in_static_setting more)
      (static_fine s (nil_left (static_setting known s) (static_settings known more) e))
      (statics_fine more (nil_right (static_setting known s) (static_settings known more) e))

  bgp_fine : (s : BgpSetting) → bgp_setting known s ≡ [] → Fine (in_bgp_setting s)
  bgp_fine (BgpChannel c) e = channel_fine c e
  bgp_fine (BgpLocal a n) e = tt
  bgp_fine (BgpNeighbor a n) e = tt
  bgp_fine (BgpMedMetric s) e = tt
  bgp_fine (BgpInterpretCommunities s) e = tt
  bgp_fine (BgpDefaultMed at n) e = tt
  bgp_fine (BgpDefaultLocalPref at n) e = tt
  bgp_fine (BgpTransport t) e = tt

  bgps_fine : (all : List BgpSetting) → bgp_settings known all ≡ []
      → Fine (flat_map in_bgp_setting all)
  bgps_fine [] e = tt
  bgps_fine (s ∷ more) e =
      join (IsFine known.scene) (in_bgp_setting s) (flat_map in_bgp_setting more)
      (bgp_fine s (nil_left (bgp_setting known s) (bgp_settings known more) e))
      (bgps_fine more (nil_right (bgp_setting known s) (bgp_settings known more) e))

  pipe_fine : (s : PipeSetting) → pipe_setting known s ≡ [] → Fine (in_pipe_setting s)
  pipe_fine (PipeTable name) e = tt
  pipe_fine (PipePeerTable name) e = tt
  pipe_fine (PipeImport p) e = policy_fine p e
  pipe_fine (PipeExport p) e = policy_fine p e

  pipes_fine : (all : List PipeSetting) → pipe_settings known all ≡ []
      → Fine (flat_map in_pipe_setting all)
  pipes_fine [] e = tt
  pipes_fine (s ∷ more) e =
      join (IsFine known.scene) (in_pipe_setting s) (flat_map in_pipe_setting more)
      (pipe_fine s (nil_left (pipe_setting known s) (pipe_settings known more) e))
      (pipes_fine more (nil_right (pipe_setting known s) (pipe_settings known more) e))

  -- ---- statements

  pub written_fine : (d : conf.Declaration) → refusals known d ≡ [] → Fine (filters_in d)
  written_fine (conf.RouterId a) e = tt
  written_fine conf.Log e = tt
  written_fine (conf.Define name v) e = tt
  written_fine (conf.Table at family name) e = tt
  written_fine (conf.DefineFunction f) e = tt
  written_fine (conf.DefineFilter at name ss) e =
      (filter_fine known.scene name.at ss (nil_right (declaring known name) _ e), tt)
  written_fine (conf.Device name semicolon) e = tt
  written_fine (conf.Static p) e =
      statics_fine p.settings (nil_right _ _ (nil_left _ _ (nil_left _ _ (nil_left _ _ e))))
  written_fine (conf.Bgp p) e = bgps_fine p.settings (nil_right _ _ (nil_left _ _ (nil_left _ _ e)))
  written_fine (conf.Pipe p) e =
      pipes_fine p.settings (nil_right _ _ (nil_left _ _ (nil_left _ _ (nil_left _ _ e))))
