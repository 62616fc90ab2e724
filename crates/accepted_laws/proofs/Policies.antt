-- The policies of a configuration in which nothing is refused are safe, if its filters are.
use Rattle.std.proofs.Common.{◌≡◌, ℕ, ◌<◌, inl, inr, List, [], ◌∷◌, ◌++◌, flat_map, fold, map, Option, Some, None, IfSome, slice_get, Contains, length, refl, ap, sym, ◌∙◌, subst, append_assoc}
use Rattle.conf_ast.specs.declared.named.Name.{Name}
use Rattle.conf_ast.specs.Configurations as conf
use Rattle.conf_ast.specs.Configurations.{Passing, PassAll, PassNone, PassByFilter, PassByBlock, PassWhere, ChannelSetting, ChannelTable, ChannelImport, ChannelExport, ChannelPreference, ChannelLimit, ChannelNextHop, FamilyChannel, StaticSetting, StaticChannel, StaticRoute, BgpSetting, BgpChannel, BgpLocal, BgpNeighbor, BgpMedMetric, BgpInterpretCommunities, BgpDefaultMed, BgpDefaultLocalPref, BgpTransport, PipeSetting, PipeTable, PipePeerTable, PipeImport, PipeExport}
use Rattle.conf_ast.specs.Filters.{Statements}
use Rattle.filt_meaning.specs.Configuration.{filter_where}
use Rattle.conf_options.specs.Defaults.{export_or, import_or}
use Rattle.conf_options.specs.Options.{ChannelOptions, PipeOptions, no_channel_options, no_pipe_options, pipe_options, with_channel_option, with_pipe_option}
use Rattle.conf_rules.specs.Channels.{channel, options_of, passing, setting, settings, settings_of}
use Rattle.conf_names.specs.Known.{Known}
use Rattle.conf_rules.specs.Protocols.{bgp_channels, bgp_setting, bgp_settings, pipe_setting, pipe_settings, static_channels, static_routes, static_settings}
use Rattle.conf_rules.specs.Statements.{refusals}
use Rattle.conf_check.specs.Behind.{at_start, behind}
use Rattle.conf_check.specs.Checked.{Source, filter_number, filter_sources, protocol_name, route_of}
use Rattle.conf_check.specs.declared.checked.StaticRoute.{StaticRoute as Made}
use Rattle.conf_check.proofs.Allowed.{nil_left, nil_right}
use Rattle.conf_system.specs.Policies.{Filter, by_source, says}
use Rattle.conf_system.specs.System.{Body, Protocol, bgp_with, body_of, names_in, pipe_with, protocols_behind, static_with, with_body}
use Rattle.accepted_laws.specs.Texts.{BothPolicies, IsSafe, IsSafePolicy}
use Rattle.conf_system.specs.Written.{IsWritten, filters_in, in_bgp_setting, in_channel, in_channel_setting, in_pipe_setting, in_policy, in_static_setting}
use Rattle.conf_system.proofs.Every.{Every, left, members, right, weaker}
use Rattle.conf_system.proofs.Named.{named_written}
use Rattle.accepted_laws.proofs.Numbers.{at_number, number_less}

-- ---- the policies that count are written, or are those that stand where none is

-- Of filters there is known W, of each policy Is, as it is said.
module _ (known : Known) (W : Statements → Type 0) (said : Passing → Filter)
    (Is : Filter → Type 0)
    (each : (p : Passing) → passing known p ≡ [] → Every W (in_policy p) → Is (said p)) where
  -- what is said of imports and of exports, or what counts where nothing is
  abbrev AreSaidBoth : (import export : Option Passing) → Type 0
  AreSaidBoth import export = Is (said (import_or import)) × Is (said (export_or export))

  channel_next : (s : ChannelSetting) (more : List ChannelSetting) → setting known s ≡ []
      → Every W (in_channel_setting s)
      → ((o : ChannelOptions) → AreSaidBoth o.import o.export
      → AreSaidBoth (fold with_channel_option o more).import (fold with_channel_option o more).export)
      → (o : ChannelOptions) → AreSaidBoth o.import o.export
      → AreSaidBoth (fold with_channel_option o (s ∷ more)).import
      (fold with_channel_option o (s ∷ more)).export
  channel_next (ChannelTable name) more e w next o p = next (with_channel_option o (ChannelTable name)) p
  channel_next (ChannelImport r) more e w next o p = next (with_channel_option o (ChannelImport r)) (each r e w, p.1)
  channel_next (ChannelExport r) more e w next o p = next (with_channel_option o (ChannelExport r)) (p.0, each r e w)
  channel_next (ChannelPreference at n) more e w next o p = next (with_channel_option o (ChannelPreference at n)) p
  channel_next (ChannelLimit l) more e w next o p = next (with_channel_option o (ChannelLimit l)) p
  channel_next (ChannelNextHop hop) more e w next o p = next (with_channel_option o (ChannelNextHop hop)) p

  channel_all : (all : List ChannelSetting) → settings known all ≡ []
      → Every W (flat_map in_channel_setting all) → (o : ChannelOptions) → AreSaidBoth o.import o.export
      → AreSaidBoth (fold with_channel_option o all).import (fold with_channel_option o all).export
  channel_all [] e w o p = p
  channel_all (s ∷ more) e w o p =
      channel_next s more (nil_left (setting known s) (settings known more) e)
      (left W (in_channel_setting s) (flat_map in_channel_setting more) w)
      (channel_all more (nil_right (setting known s) (settings known more) e)
      (right W (in_channel_setting s) (flat_map in_channel_setting more) w)) o p

  pipe_next : (s : PipeSetting) (more : List PipeSetting) → pipe_setting known s ≡ []
      → Every W (in_pipe_setting s)
      → ((o : PipeOptions) → AreSaidBoth o.import o.export
      → AreSaidBoth (fold with_pipe_option o more).import (fold with_pipe_option o more).export)
      → (o : PipeOptions) → AreSaidBoth o.import o.export
      → AreSaidBoth (fold with_pipe_option o (s ∷ more)).import
      (fold with_pipe_option o (s ∷ more)).export
  pipe_next (PipeTable name) more e w next o p = next (with_pipe_option o (PipeTable name)) p
  pipe_next (PipePeerTable name) more e w next o p = next (with_pipe_option o (PipePeerTable name)) p
  pipe_next (PipeImport r) more e w next o p = next (with_pipe_option o (PipeImport r)) (each r e w, p.1)
  pipe_next (PipeExport r) more e w next o p = next (with_pipe_option o (PipeExport r)) (p.0, each r e w)

  pipe_all : (all : List PipeSetting) → pipe_settings known all ≡ []
      → Every W (flat_map in_pipe_setting all) → (o : PipeOptions) → AreSaidBoth o.import o.export
      → AreSaidBoth (fold with_pipe_option o all).import (fold with_pipe_option o all).export
  pipe_all [] e w o p = p
  pipe_all (s ∷ more) e w o p =
      pipe_next s more (nil_left (pipe_setting known s) (pipe_settings known more) e)
      (left W (in_pipe_setting s) (flat_map in_pipe_setting more) w)
      (pipe_all more (nil_right (pipe_setting known s) (pipe_settings known more) e)
      (right W (in_pipe_setting s) (flat_map in_pipe_setting more) w)) o p

  -- ---- channels

  abbrev AreSaid : FamilyChannel → Type 0
  AreSaid c = AreSaidBoth (options_of c).import (options_of c).export

  channel_said : (c : FamilyChannel) → channel known c ≡ [] → Every W (in_channel c) → AreSaid c
  channel_said c e w =
      channel_all (settings_of c) (nil_left (settings known (settings_of c)) _ e) w no_channel_options
      (each PassAll refl tt, each PassNone refl tt)

  static_said : (all : List StaticSetting) → static_settings known all ≡ []
      → Every W (flat_map in_static_setting all) → Every AreSaid (static_channels all)
  static_said [] e w = tt
  static_said (StaticChannel c ∷ more) e w = (
    channel_said c (nil_left (channel known c) (static_settings known more) e)
        (left W (in_channel c) (flat_map in_static_setting more) w),
    static_said more (nil_right (channel known c) (static_settings known more) e)
        (right W (in_channel c) (flat_map in_static_setting more) w),
  )
  static_said (StaticRoute r ∷ more) e w = static_said more e w

  bgp_rest : (s : BgpSetting) (more : List BgpSetting) → bgp_settings known (s ∷ more) ≡ []
      → bgp_settings known more ≡ []
  bgp_rest s more e = nil_right (bgp_setting known s) (bgp_settings known more) e

  bgp_said : (all : List BgpSetting) → bgp_settings known all ≡ []
      → Every W (flat_map in_bgp_setting all) → Every AreSaid (bgp_channels all)
  bgp_said [] e w = tt
  bgp_said (BgpChannel c ∷ more) e w = (
    channel_said c (nil_left (channel known c) (bgp_settings known more) e)
        (left W (in_channel c) (flat_map in_bgp_setting more) w),
    bgp_said more (bgp_rest (BgpChannel c) more e)
        (right W (in_channel c) (flat_map in_bgp_setting more) w),
  )
  bgp_said (BgpLocal a n ∷ more) e w = bgp_said more (bgp_rest (BgpLocal a n) more e) w
  bgp_said (BgpNeighbor a n ∷ more) e w = bgp_said more (bgp_rest (BgpNeighbor a n) more e) w
  bgp_said (BgpMedMetric s ∷ more) e w = bgp_said more (bgp_rest (BgpMedMetric s) more e) w
  bgp_said (BgpInterpretCommunities s ∷ more) e w =
      bgp_said more (bgp_rest (BgpInterpretCommunities s) more e) w
  bgp_said (BgpDefaultMed at n ∷ more) e w = bgp_said more (bgp_rest (BgpDefaultMed at n) more e) w
  bgp_said (BgpDefaultLocalPref at n ∷ more) e w =
      bgp_said more (bgp_rest (BgpDefaultLocalPref at n) more e) w
  bgp_said (BgpTransport t ∷ more) e w = bgp_said more (bgp_rest (BgpTransport t) more e) w

  -- ---- protocols

  abbrev IsSaidBody : Option Body → Type 0
  IsSaidBody body = IfSome body (λ b. BothPolicies Is b)

  static_body : (cs : List FamilyChannel) (routes : List Made) → Every AreSaid cs
      → IsSaidBody (static_with said known cs routes)
  static_body [] routes h = tt
  static_body (c ∷ []) routes h = h.0
  static_body (c ∷ d ∷ cs) routes h = tt

  bgp_body : (cs : List FamilyChannel) (all : List BgpSetting) → Every AreSaid cs
      → IsSaidBody (bgp_with said known cs all)
  bgp_body [] all h = tt
  bgp_body (c ∷ []) all h = h.0
  bgp_body (c ∷ d ∷ cs) all h = tt

  pipe_body : (peer : Option Name) (all : List PipeSetting)
      → AreSaidBoth (pipe_options all).import (pipe_options all).export
      → IsSaidBody (pipe_with said known peer all)
  pipe_body None all h = tt
  pipe_body (Some peer) all h = h

  body_said : (d : conf.Declaration) → refusals known d ≡ [] → Every W (filters_in d)
      → IsSaidBody (body_of said known d)
  body_said (conf.Static p) e w =
      static_body (static_channels p.settings) (map route_of (static_routes p.settings))
      (static_said p.settings (nil_right _ _ (nil_left _ _ (nil_left _ _ (nil_left _ _ e)))) w)
  body_said (conf.Bgp p) e w =
      bgp_body (bgp_channels p.settings) p.settings
      (bgp_said p.settings (nil_right _ _ (nil_left _ _ (nil_left _ _ e))) w)
  body_said (conf.Pipe p) e w =
      pipe_body (pipe_options p.settings).peer p.settings
      (pipe_all p.settings (nil_right _ _ (nil_left _ _ (nil_left _ _ (nil_left _ _ e)))) w no_pipe_options
      (each PassAll refl tt, each PassNone refl tt))
  body_said (conf.RouterId a) e w = tt
  body_said conf.Log e w = tt
  body_said (conf.Define name v) e w = tt
  body_said (conf.Table at family name) e w = tt
  body_said (conf.DefineFunction f) e w = tt
  body_said (conf.DefineFilter at name ss) e w = tt
  body_said (conf.Device name semicolon) e w = tt

-- ---- what policies say

module _ (text : List ℕ) (ds : List conf.Declaration)
    (safe : (before : List conf.Declaration) (ss : Statements) → IsWritten ds before ss
    → IsSafe text before ss)
    (refused : (before more : List conf.Declaration) (d : conf.Declaration)
    → ds ≡ before ++ d ∷ more → refusals (behind (at_start text) before) d ≡ []) where
  abbrev said_behind : List conf.Declaration → Passing → Filter
  said_behind before p = says text (names_in text ds) (filter_sources [] ds) before p

  named_safe : (before : List conf.Declaration) (n : ℕ) → n < length (filter_sources [] ds)
      → IsSafePolicy text ds
      (by_source text (names_in text ds) (slice_get (filter_sources [] ds) n))
  named_safe before n less =
      let h = at_number (filter_sources [] ds) n less in
      let w = named_written ds h.0 h.2 in
      inr (inr (record {
        before = h.0.0;
        filter = h.0.1;
        written = w;
        safe = safe h.0.0 h.0.1 w;
        says = λ net route.
            ap (λ (o : Option Source). by_source text (names_in text ds) o net route) h.1;
      }))

  policy_safe : (before more : List conf.Declaration) → ds ≡ before ++ more → (p : Passing)
      → passing (behind (at_start text) before) p ≡ []
      → Every (λ ss. IsWritten ds before ss) (in_policy p)
      → IsSafePolicy text ds (said_behind before p)
  unfolding says
  policy_safe before more is PassAll e w = inl (λ net route. refl)
  policy_safe before more is PassNone e w = inr (inl (λ net route. refl))
  policy_safe before more is (PassByFilter at name) e w =
      named_safe before (filter_number (behind (at_start text) before) name)
      (subst (λ (all : List conf.Declaration).
      filter_number (behind (at_start text) before) name < length (filter_sources [] all))
      (sym is) (number_less text before more name e))
  policy_safe before more is (PassByBlock at ss) e w =
      inr (inr (record {
        before = before;
        filter = ss;
        written = w.0;
        safe = safe before ss w.0;
        says = λ net route. refl;
      }))
  policy_safe before more is (PassWhere at c) e w =
      inr (inr (record {
        before = before;
        filter = filter_where c;
        written = w.0;
        safe = safe before (filter_where c) w.0;
        says = λ net route. refl;
      }))

  with_safe : (name : List ℕ) (body : Option Body) (rest : List Protocol)
      → IfSome body (λ b. BothPolicies (IsSafePolicy text ds) b)
      → Every (λ (p : Protocol). BothPolicies (IsSafePolicy text ds) p.body) rest
      → Every (λ (p : Protocol). BothPolicies (IsSafePolicy text ds) p.body)
      (with_body name body rest)
  with_safe name None rest h more = more
  with_safe name (Some body) rest h more = (h, more)

  one_safe : (before more : List conf.Declaration) (d : conf.Declaration)
      → ds ≡ before ++ d ∷ more
      → IfSome (body_of (said_behind before) (behind (at_start text) before) d)
      (λ b. BothPolicies (IsSafePolicy text ds) b)
  one_safe before more d is =
      body_said (behind (at_start text) before) (λ ss. IsWritten ds before ss) (said_behind before)
      (IsSafePolicy text ds) (policy_safe before (d ∷ more) is) d (refused before more d is)
      (weaker (λ ss. Contains (filters_in d) ss) (λ ss. IsWritten ds before ss)
      (λ ss c. (d, more, is, c)) (filters_in d) (members (filters_in d)))

  pub all_safe : (more before : List conf.Declaration) → ds ≡ before ++ more
      → Every (λ (p : Protocol). BothPolicies (IsSafePolicy text ds) p.body)
      (protocols_behind text (names_in text ds) (filter_sources [] ds) before more)
  all_safe [] before is = tt
  all_safe (d ∷ more) before is =
      with_safe (protocol_name (behind (at_start text) before) d)
      (body_of (said_behind before) (behind (at_start text) before) d)
      (protocols_behind text (names_in text ds) (filter_sources [] ds) (before ++ d ∷ []) more)
      (one_safe before more d is)
      (all_safe more (before ++ d ∷ []) (is ∙ sym (append_assoc before (d ∷ []) more)))
