-- What is refused in a statement of a configuration stands where it is written: what holds of each
-- of its places holds of the places of its refusals.
use Rattle.std.proofs.Common.{ℕ, Bool, true, false, not, ◌&&◌, nat_lt, if◌then◌else◌, List, [], ◌∷◌, ◌++◌, length, All, Contains, Option, Some, None, fold}
use Rattle.std.specs.List.{list_any}
use Rattle.bits_ip.specs.Address.{family_of}
use Rattle.bits_ip.specs.Prefix.{Net, same_net}
use Rattle.bits_ip.specs.declared.address.Family.{Family}
use Rattle.conf_ast.specs.declared.named.Name.{Name}
use Rattle.conf_ast.specs.Names.{name_bytes}
use Rattle.conf_ast.specs.declared.filters.Num.{Num}
use Rattle.conf_ast.specs.declared.kind.ConfKind.{ConfKind}
use Rattle.conf_ast.specs.declared.kind.ConfKind.TheVariants as kinds
use Rattle.conf_ast.specs.declared.configurations.Limit.{Limit}
use Rattle.conf_ast.specs.declared.configurations.Limit.TheVariants as limits
use Rattle.conf_ast.specs.declared.configurations.Route.{Route}
use Rattle.conf_ast.specs.declared.configurations.RouteTarget.{RouteTarget}
use Rattle.conf_ast.specs.declared.configurations.RouteTarget.TheVariants as targets
use Rattle.conf_ast.specs.declared.configurations.Switch.{Switch}
use Rattle.conf_ast.specs.declared.configurations.Transport.{Transport}
use Rattle.conf_ast.specs.declared.configurations.Transport.TheVariants as transports
use Rattle.conf_ast.specs.Configurations as conf
use Rattle.conf_ast.specs.Configurations.{Value, NumberValue, TextValue, AddressValue, PrefixValue, TrueValue, FalseValue, ValueOf, PairValue, SetValue, MaskValue, Passing, PassAll, PassNone, PassByFilter, PassByBlock, PassWhere, ChannelSetting, ChannelTable, ChannelImport, ChannelExport, ChannelPreference, ChannelLimit, ChannelNextHop, FamilyChannel, StaticSetting, StaticChannel, StaticRoute, BgpSetting, BgpChannel, BgpLocal, BgpNeighbor, BgpMedMetric, BgpInterpretCommunities, BgpDefaultMed, BgpDefaultLocalPref, BgpTransport, PipeSetting, PipeTable, PipePeerTable, PipeImport, PipeExport, Instance}
use Rattle.conf_ast.specs.Filters.{SetOf, MaskOf, Expression}
use Rattle.filt_meaning.specs.Configuration.{filter_where}
use Rattle.filt_types.specs.declared.refusal.Refusal.{Refusal as FilterRefusal}
use Rattle.filt_types.specs.Expressions.{judge}
use Rattle.filt_types.specs.Items as items
use Rattle.filt_types.specs.Items.{is_none}
use Rattle.filt_types.specs.Scenes.{constant_of}
use Rattle.filt_types.specs.Refused as filters
use Rattle.conf_names.specs.declared.refusal.Refusal.{Refusal}
use Rattle.conf_options.specs.Defaults.{is_on, remote}
use Rattle.conf_options.specs.Options.{ChannelOptions, PipeOptions, bgp_options, no_channel_options, no_pipe_options, pipe_options, with_channel_option, with_pipe_option}
use Rattle.conf_rules.specs.Channels as channels
use Rattle.conf_rules.specs.Channels.{passing, limit, options_of, settings_of, is_other_family, family_of_table, channel, second_channels, one_channel, lacks_policy, same_family}
use Rattle.conf_names.specs.Constants.{value}
use Rattle.conf_names.specs.Known.{Known, is_declared, longest_name, too_long, table_of, is_filter, number}
use Rattle.conf_names.specs.Known as known_names
use Rattle.conf_names.specs.declared.joints.Joint.{Joint}
use Rattle.conf_names.specs.Joints.{joined}
use Rattle.conf_rules.specs.Protocols.{cycle, joint_of, static_setting, static_settings, static_channels, static_routes, family_of_target, family_of_route, families_of_routes, nettypes, repeated, static, optional_number, transport, bgp_setting, bgp_settings, bgp_channels, lacks, as_number, is_external, policies, med_metric, session, bgp, pipe_setting, pipe_settings, primary_family, differ, peer_family, pipe}
use Rattle.conf_names.specs.Names.{own_name, static_stem, bgp_stem, pipe_stem, pipe_names, place_of, name_too_long, most_protocols, declaring}
use Rattle.conf_names.specs.Refusals.{of_filters, refused_if}
use Rattle.conf_rules.specs.Statements.{most_tables, is_master, one_more_table, refusals}
use Rattle.conf_places.specs.Configurations.{of_value, of_passing, of_limit, of_channel_setting, of_each, of_maybe, of_channel, of_name, of_address, of_target, of_route, of_static_setting, of_transport, of_bgp_setting, of_pipe_setting, of_instance, places}
use Rattle.conf_places.specs.Filters.{of_num, of_optional_num, of_expression, of_statements, of_parameters}
use Rattle.conf_places.proofs.Every.{Every, join, left, right, all_of, members}
use Rattle.conf_places.proofs.Filters as in_filters
use Rattle.conf_places.proofs.Filters.{expression_good, filter_stands, function_stands, number_stands, over_stands}

module _ (P : ℕ → Type 0) where
  -- it holds of the place of each refusal
  abbrev Stand : List Refusal → Type 0
  Stand rs = Every (λ (r : Refusal). P r.at) rs

  both : (xs ys : List Refusal) → Stand xs → Stand ys → Stand (xs ++ ys)
  both xs ys p q = join (λ (r : Refusal). P r.at) xs ys p q

  front : (xs ys : List ℕ) → Every P (xs ++ ys) → Every P xs
  front xs ys p = left P xs ys p

  back : (xs ys : List ℕ) → Every P (xs ++ ys) → Every P ys
  back xs ys p = right P xs ys p

  if_refused : (b : Bool) (at : ℕ) (kind : ConfKind) → P at → Stand (refused_if b at kind)
  if_refused true at kind p = (p, tt)
  if_refused false at kind p = tt

  of_filters_stand : (rs : List FilterRefusal) → in_filters.Stand P rs → Stand (of_filters rs)
  of_filters_stand [] h = tt
  of_filters_stand (r ∷ rs) h = (h.0, of_filters_stand rs h.1)

  -- ---- names and numbers

  too_long_stands : (known : Known) (n : Name) → P n.at → Stand (too_long known n)
  too_long_stands known n p = if_refused (nat_lt longest_name (length (name_bytes known.scene.text n))) n.at kinds.Limit p

  declared_stands : (known : Known) (n : Name) → P n.at → Stand (known_names.declaring known n)
  declared_stands known n p =
      let seen : Bool = is_declared known (name_bytes known.scene.text n) in
      both (refused_if seen n.at kinds.DuplicateName) (too_long known n) (if_refused seen n.at kinds.DuplicateName p) (too_long_stands known n p)

  table_stands : (known : Known) (n : Name) → P n.at → Stand (known_names.table known n)
  table_stands known n p = if_refused (is_none (table_of known n)) n.at kinds.UnknownName p

  num_stands : (known : Known) (n : Num) → P (of_num n) → Stand (number known n)
  num_stands known n p = of_filters_stand (items.number known.scene n) (number_stands P known.scene n p)

  optional_stands : (known : Known) (n : Option Num) → Every P (of_optional_num n) → Stand (optional_number known n)
  optional_stands known None h = tt
  optional_stands known (Some n) h = num_stands known n h.0

  -- ---- constants

  half_stands : (known : Known) (n : Num) → P (of_num n) → Stand (number known n ++ of_filters (items.over_16_bits known.scene n))
  half_stands known n p =
      both (number known n) (of_filters (items.over_16_bits known.scene n)) (num_stands known n p)
      (of_filters_stand (items.over_16_bits known.scene n) (over_stands P known.scene n p))

  value_stands : (known : Known) (v : Value) → Every P (of_value v) → Stand (value known v)
  value_stands known (NumberValue at n) h = tt
  value_stands known (TextValue q) h = tt
  value_stands known (AddressValue a) h = tt
  value_stands known (PrefixValue at net) h = tt
  value_stands known (TrueValue at) h = tt
  value_stands known (FalseValue at) h = tt
  value_stands known (ValueOf name) h = if_refused (is_none (constant_of known.scene name)) name.at kinds.UnknownName h.0
  value_stands known (PairValue at a b) h =
      both (number known a ++ of_filters (items.over_16_bits known.scene a)) (number known b ++ of_filters (items.over_16_bits known.scene b))
      (half_stands known a h.1.0) (half_stands known b h.1.1.0)
  value_stands known (SetValue at elements) h = of_filters_stand (judge known.scene [] (SetOf at elements)).refusals (expression_good P known.scene [] (SetOf at elements) h).1
  value_stands known (MaskValue at elements) h = of_filters_stand (judge known.scene [] (MaskOf at elements)).refusals (expression_good P known.scene [] (MaskOf at elements) h).1

  -- ---- policies and channels

  where_placed : (e : Expression) → Every P (of_expression e) → Every P (of_statements (filter_where e))
  where_placed e h = join P (of_expression e ++ []) [] (join P (of_expression e) [] h tt) tt

  passing_stands : (known : Known) (p : Passing) → Every P (of_passing p) → Stand (passing known p)
  passing_stands known PassAll h = tt
  passing_stands known PassNone h = tt
  passing_stands known (PassByFilter at name) h = if_refused (not (is_filter known name)) name.at kinds.UnknownName h.1.0
  passing_stands known (PassByBlock at ss) h = of_filters_stand (filters.of_filter known.scene at ss) (filter_stands P known.scene at ss h.0 h.1)
  passing_stands known (PassWhere at e) h = of_filters_stand (filters.of_filter known.scene at (filter_where e)) (filter_stands P known.scene at (filter_where e) h.0 (where_placed e h.1))

  limit_stands : (known : Known) (l : Limit) → Every P (of_limit l) → Stand (limit known l)
  limit_stands known limits.Off h = tt
  limit_stands known (limits.Count n action) h = num_stands known n h.0

  setting_stands : (known : Known) (s : ChannelSetting) → Every P (of_channel_setting s) → Stand (channels.setting known s)
  setting_stands known (ChannelTable name) h = table_stands known name h.0
  setting_stands known (ChannelImport p) h = passing_stands known p h
  setting_stands known (ChannelExport p) h = passing_stands known p h
  setting_stands known (ChannelPreference at n) h = num_stands known n h.1.0
  setting_stands known (ChannelLimit l) h = limit_stands known l h
  setting_stands known (ChannelNextHop hop) h = tt

  settings_stand : (known : Known) (ss : List ChannelSetting) → Every P (of_each of_channel_setting ss) → Stand (channels.settings known ss)
  settings_stand known [] h = tt
  settings_stand known (s ∷ more) h =
      both (channels.setting known s) (channels.settings known more)
      (setting_stands known s (front (of_channel_setting s) (of_each of_channel_setting more) h)) (settings_stand known more (back (of_channel_setting s) (of_each of_channel_setting more) h))

  settings_placed : (c : FamilyChannel) → Every P (of_channel c) → Every P (of_each of_channel_setting (settings_of c))
  settings_placed c h = listed c.settings h.1
    where
      listed : (o : Option (List ChannelSetting)) → Every P (of_maybe (of_each of_channel_setting) o) → Every P (of_each of_channel_setting (settings_of (record { at = c.at; family = c.family; settings = o })))
      listed None k = tt
      listed (Some ss) k = k

  -- it holds of the place of a name, where there is one
  abbrev Named : Option Name → Type 0
  Named None = Every P []
  Named (Some n) = P n.at

  table_named : (o : ChannelOptions) (ss : List ChannelSetting) → Named o.table → Every P (of_each of_channel_setting ss) → Named (fold with_channel_option o ss).table
  table_named o [] p h = p
  table_named o (ChannelTable name ∷ more) p h = table_named (with_channel_option o (ChannelTable name)) more h.0 h.1
  table_named o (ChannelImport q ∷ more) p h = table_named (with_channel_option o (ChannelImport q)) more p (back (of_passing q) (of_each of_channel_setting more) h)
  table_named o (ChannelExport q ∷ more) p h = table_named (with_channel_option o (ChannelExport q)) more p (back (of_passing q) (of_each of_channel_setting more) h)
  table_named o (ChannelPreference at n ∷ more) p h = table_named (with_channel_option o (ChannelPreference at n)) more p h.1.1
  table_named o (ChannelLimit l ∷ more) p h = table_named (with_channel_option o (ChannelLimit l)) more p (back (of_limit l) (of_each of_channel_setting more) h)
  table_named o (ChannelNextHop hop ∷ more) p h = table_named (with_channel_option o (ChannelNextHop hop)) more p h

  family_stands : (known : Known) (family : Family) (n : Option Name) → Named n → Stand (family_of_table known family n)
  family_stands known family None p = tt
  family_stands known family (Some n) p = if_refused (is_other_family family (table_of known n)) n.at kinds.Nettype p

  channel_stands : (known : Known) (c : FamilyChannel) → Every P (of_channel c) → Stand (channel known c)
  channel_stands known c h =
      let placed = settings_placed c h in
      let named : Option Name = (options_of c).table in
      both (channels.settings known (settings_of c)) (family_of_table known c.family named)
      (settings_stand known (settings_of c) placed) (family_stands known c.family named (table_named no_channel_options (settings_of c) tt placed))

  -- ---- how many channels

  -- it holds of the place of each channel
  abbrev Channels : List FamilyChannel → Type 0
  Channels cs = Every (λ (c : FamilyChannel). P c.at) cs

  second_stand : (cs : List FamilyChannel) → Channels cs → Stand (second_channels cs)
  second_stand [] h = tt
  second_stand (first ∷ more) h = each first more h.1
    where
      each : (first : FamilyChannel) (cs : List FamilyChannel) → Channels cs → Stand (second_channels (first ∷ cs))
      each first [] k = tt
      each first (c ∷ others) k = (k.0, each first others k.1)

  one_stands : (at : ℕ) (cs : List FamilyChannel) → P at → Channels cs → Stand (one_channel at cs)
  one_stands at cs p h =
      both (refused_if (channels.is_empty cs) at kinds.Unsupported) (second_channels cs) (if_refused (channels.is_empty cs) at kinds.Unsupported p) (second_stand cs h)

  -- ---- protocols

  at_name : (at : ℕ) (name : Option Name) → P at → Every P (of_maybe of_name name) → P (place_of at name)
  at_name at None p h = p
  at_name at (Some n) p h = h.0

  name_stands : (known : Known) (name : Option Name) → Every P (of_maybe of_name name) → Stand (name_too_long known name)
  name_stands known None h = tt
  name_stands known (Some n) h = too_long_stands known n h.0

  protocol_stands : (known : Known) (at : ℕ) (name : Option Name) (declared : List (List ℕ)) → P at → Every P (of_maybe of_name name) → Stand (declaring known at name declared)
  protocol_stands known at name declared p h =
      let here : P (place_of at name) = at_name at name p h in
      let seen : Bool = list_any (is_declared known) declared in
      let full : Bool = not (nat_lt known.protocols most_protocols) in
      both (refused_if seen (place_of at name) kinds.DuplicateName ++ name_too_long known name) (refused_if full (place_of at name) kinds.Limit)
      (both (refused_if seen (place_of at name) kinds.DuplicateName) (name_too_long known name) (if_refused seen (place_of at name) kinds.DuplicateName here) (name_stands known name h))
      (if_refused full (place_of at name) kinds.Limit here)

  -- ---- static protocols

  static_setting_stands : (known : Known) (s : StaticSetting) → Every P (of_static_setting s) → Stand (static_setting known s)
  static_setting_stands known (StaticChannel c) h = channel_stands known c h
  static_setting_stands known (StaticRoute r) h = tt

  static_settings_stand : (known : Known) (ss : List StaticSetting) → Every P (of_each of_static_setting ss) → Stand (static_settings known ss)
  static_settings_stand known [] h = tt
  static_settings_stand known (s ∷ more) h =
      both (static_setting known s) (static_settings known more)
      (static_setting_stands known s (front (of_static_setting s) (of_each of_static_setting more) h)) (static_settings_stand known more (back (of_static_setting s) (of_each of_static_setting more) h))

  static_channels_placed : (ss : List StaticSetting) → Every P (of_each of_static_setting ss) → Channels (static_channels ss)
  static_channels_placed [] h = tt
  static_channels_placed (StaticChannel c ∷ more) h = (h.0, static_channels_placed more (back (of_channel c) (of_each of_static_setting more) h))
  static_channels_placed (StaticRoute r ∷ more) h = static_channels_placed more (back (of_route r) (of_each of_static_setting more) h)

  -- it holds of each place of each route
  abbrev Routes : List Route → Type 0
  Routes rs = Every (λ (r : Route). Every P (of_route r)) rs

  static_routes_placed : (ss : List StaticSetting) → Every P (of_each of_static_setting ss) → Routes (static_routes ss)
  static_routes_placed [] h = tt
  static_routes_placed (StaticChannel c ∷ more) h = static_routes_placed more (back (of_channel c) (of_each of_static_setting more) h)
  static_routes_placed (StaticRoute r ∷ more) h = (front (of_route r) (of_each of_static_setting more) h, static_routes_placed more (back (of_route r) (of_each of_static_setting more) h))

  target_stands : (family : Family) (t : RouteTarget) → Every P (of_target t) → Stand (family_of_target family t)
  target_stands family (targets.Via a) h = if_refused (not (same_family family (family_of a.addr))) a.at kinds.Nettype h.0
  target_stands family targets.Blackhole h = tt
  target_stands family targets.Unreachable h = tt
  target_stands family targets.Prohibit h = tt

  route_stands : (family : Family) (r : Route) → Every P (of_route r) → Stand (family_of_route family r)
  route_stands family r h =
      let other : Bool = not (same_family family (family_of r.net.addr)) in
      both (refused_if other r.at kinds.Nettype) (family_of_target family r.target) (if_refused other r.at kinds.Nettype h.0) (target_stands family r.target h.1)

  families_stand : (family : Family) (rs : List Route) → Routes rs → Stand (families_of_routes family rs)
  families_stand family [] h = tt
  families_stand family (r ∷ more) h = both (family_of_route family r) (families_of_routes family more) (route_stands family r h.0) (families_stand family more h.1)

  nettypes_stand : (cs : List FamilyChannel) (rs : List Route) → Routes rs → Stand (nettypes cs rs)
  nettypes_stand [] rs h = tt
  nettypes_stand (c ∷ more) rs h = families_stand c.family rs h

  repeated_stand : (seen : List Net) (rs : List Route) → Routes rs → Stand (repeated seen rs)
  repeated_stand seen [] h = tt
  repeated_stand seen (r ∷ more) h =
      let again : Bool = list_any (same_net r.net) seen in
      both (refused_if again r.at kinds.DuplicateStatic) (repeated (r.net ∷ seen) more) (if_refused again r.at kinds.DuplicateStatic h.0.0) (repeated_stand (r.net ∷ seen) more h.1)

  static_stands : (known : Known) (p : Instance StaticSetting) → Every P (of_instance of_static_setting p) → Stand (static known p)
  static_stands known p h =
      let name = front (of_maybe of_name p.name) (of_each of_static_setting p.settings) h.1 in
      let settings = back (of_maybe of_name p.name) (of_each of_static_setting p.settings) h.1 in
      let named : List Refusal = declaring known p.at p.name (own_name known static_stem p.name ∷ []) in
      let written : List Refusal = static_settings known p.settings in
      let one : List Refusal = one_channel (place_of p.at p.name) (static_channels p.settings) in
      let types : List Refusal = nettypes (static_channels p.settings) (static_routes p.settings) in
      let routes = static_routes_placed p.settings settings in
      both (named ++ written ++ one ++ types) (repeated [] (static_routes p.settings))
      (both (named ++ written ++ one) types
      (both (named ++ written) one
      (both named written (protocol_stands known p.at p.name (own_name known static_stem p.name ∷ []) h.0 name) (static_settings_stand known p.settings settings))
      (one_stands (place_of p.at p.name) (static_channels p.settings) (at_name p.at p.name h.0 name) (static_channels_placed p.settings settings)))
      (nettypes_stand (static_channels p.settings) (static_routes p.settings) routes))
      (repeated_stand [] (static_routes p.settings) routes)

  -- ---- BGP

  transport_stands : (known : Known) (t : Transport) → Every P (of_transport t) → Stand (transport known t)
  transport_stands known (transports.Description q) h = tt
  transport_stands known (transports.Password q) h = tt
  transport_stands known (transports.SourceAddress at a) h = tt
  transport_stands known (transports.HoldTime n) h = num_stands known n h.0
  transport_stands known (transports.KeepaliveTime n) h = num_stands known n h.0
  transport_stands known (transports.ConnectRetryTime n) h = num_stands known n h.0
  transport_stands known (transports.Multihop n) h = optional_stands known n h
  transport_stands known transports.Direct h = tt
  transport_stands known (transports.Passive s) h = tt

  bgp_setting_stands : (known : Known) (s : BgpSetting) → Every P (of_bgp_setting s) → Stand (bgp_setting known s)
  bgp_setting_stands known (BgpChannel c) h = channel_stands known c h
  bgp_setting_stands known (BgpLocal a n) h = num_stands known n (back (of_maybe of_address a) (of_num n ∷ []) h).0
  bgp_setting_stands known (BgpNeighbor a n) h = num_stands known n h.1.0
  bgp_setting_stands known (BgpMedMetric s) h = tt
  bgp_setting_stands known (BgpInterpretCommunities s) h = tt
  bgp_setting_stands known (BgpDefaultMed at n) h = num_stands known n h.1.0
  bgp_setting_stands known (BgpDefaultLocalPref at n) h = num_stands known n h.1.0
  bgp_setting_stands known (BgpTransport t) h = transport_stands known t h

  bgp_settings_stand : (known : Known) (ss : List BgpSetting) → Every P (of_each of_bgp_setting ss) → Stand (bgp_settings known ss)
  bgp_settings_stand known [] h = tt
  bgp_settings_stand known (s ∷ more) h =
      both (bgp_setting known s) (bgp_settings known more)
      (bgp_setting_stands known s (front (of_bgp_setting s) (of_each of_bgp_setting more) h)) (bgp_settings_stand known more (back (of_bgp_setting s) (of_each of_bgp_setting more) h))

  bgp_channels_placed : (ss : List BgpSetting) → Every P (of_each of_bgp_setting ss) → Channels (bgp_channels ss)
  bgp_channels_placed [] h = tt
  bgp_channels_placed (BgpChannel c ∷ more) h = (h.0, bgp_channels_placed more (back (of_channel c) (of_each of_bgp_setting more) h))
  bgp_channels_placed (BgpLocal a n ∷ more) h = bgp_channels_placed more (back (of_bgp_setting (BgpLocal a n)) (of_each of_bgp_setting more) h)
  bgp_channels_placed (BgpNeighbor a n ∷ more) h = bgp_channels_placed more h.1.1
  bgp_channels_placed (BgpMedMetric s ∷ more) h = bgp_channels_placed more h
  bgp_channels_placed (BgpInterpretCommunities s ∷ more) h = bgp_channels_placed more h
  bgp_channels_placed (BgpDefaultMed at n ∷ more) h = bgp_channels_placed more h.1.1
  bgp_channels_placed (BgpDefaultLocalPref at n ∷ more) h = bgp_channels_placed more h.1.1
  bgp_channels_placed (BgpTransport t ∷ more) h = bgp_channels_placed more (back (of_transport t) (of_each of_bgp_setting more) h)

  lacks_stands : {A : Type 0} (at : ℕ) (o : Option A) → P at → Stand (lacks at o)
  lacks_stands at None p = (p, tt)
  lacks_stands at (Some a) p = tt

  med_stands : (at : ℕ) (s : Option Switch) → P at → Stand (med_metric at s)
  med_stands at None p = (p, tt)
  med_stands at (Some s) p = if_refused (not (is_on s)) at kinds.Unsupported p

  session_stands : (known : Known) (at : ℕ) (ss : List BgpSetting) → P at → Stand (session known at ss)
  session_stands known at ss p =
      let local : Option Num = (bgp_options ss).local in
      let neighbor : Option Num = remote (bgp_options ss) in
      let external : Bool = is_external (as_number known local) (as_number known neighbor) in
      let silent : Bool = external && list_any lacks_policy (bgp_channels ss) in
      both (lacks at local ++ lacks at neighbor ++ policies at external (bgp_channels ss)) (med_metric at (bgp_options ss).med_metric)
      (both (lacks at local ++ lacks at neighbor) (policies at external (bgp_channels ss))
      (both (lacks at local) (lacks at neighbor) (lacks_stands at local p) (lacks_stands at neighbor p))
      (if_refused silent at kinds.PolicyMissing p))
      (med_stands at (bgp_options ss).med_metric p)

  bgp_stands : (known : Known) (p : Instance BgpSetting) → Every P (of_instance of_bgp_setting p) → Stand (bgp known p)
  bgp_stands known p h =
      let name = front (of_maybe of_name p.name) (of_each of_bgp_setting p.settings) h.1 in
      let settings = back (of_maybe of_name p.name) (of_each of_bgp_setting p.settings) h.1 in
      let here : P (place_of p.at p.name) = at_name p.at p.name h.0 name in
      let named : List Refusal = declaring known p.at p.name (own_name known bgp_stem p.name ∷ []) in
      let written : List Refusal = bgp_settings known p.settings in
      let one : List Refusal = one_channel (place_of p.at p.name) (bgp_channels p.settings) in
      both (named ++ written ++ one) (session known (place_of p.at p.name) p.settings)
      (both (named ++ written) one
      (both named written (protocol_stands known p.at p.name (own_name known bgp_stem p.name ∷ []) h.0 name) (bgp_settings_stand known p.settings settings))
      (one_stands (place_of p.at p.name) (bgp_channels p.settings) here (bgp_channels_placed p.settings settings)))
      (session_stands known (place_of p.at p.name) p.settings here)

  -- ---- pipes

  pipe_setting_stands : (known : Known) (s : PipeSetting) → Every P (of_pipe_setting s) → Stand (pipe_setting known s)
  pipe_setting_stands known (PipeTable name) h = table_stands known name h.0
  pipe_setting_stands known (PipePeerTable name) h = table_stands known name h.0
  pipe_setting_stands known (PipeImport p) h = passing_stands known p h
  pipe_setting_stands known (PipeExport p) h = passing_stands known p h

  pipe_settings_stand : (known : Known) (ss : List PipeSetting) → Every P (of_each of_pipe_setting ss) → Stand (pipe_settings known ss)
  pipe_settings_stand known [] h = tt
  pipe_settings_stand known (s ∷ more) h =
      both (pipe_setting known s) (pipe_settings known more)
      (pipe_setting_stands known s (front (of_pipe_setting s) (of_each of_pipe_setting more) h)) (pipe_settings_stand known more (back (of_pipe_setting s) (of_each of_pipe_setting more) h))

  peer_named : (o : PipeOptions) (ss : List PipeSetting) → Named o.peer → Every P (of_each of_pipe_setting ss) → Named (fold with_pipe_option o ss).peer
  peer_named o [] p h = p
  peer_named o (PipeTable name ∷ more) p h = peer_named (with_pipe_option o (PipeTable name)) more p h.1
  peer_named o (PipePeerTable name ∷ more) p h = peer_named (with_pipe_option o (PipePeerTable name)) more h.0 h.1
  peer_named o (PipeImport q ∷ more) p h = peer_named (with_pipe_option o (PipeImport q)) more p (back (of_passing q) (of_each of_pipe_setting more) h)
  peer_named o (PipeExport q ∷ more) p h = peer_named (with_pipe_option o (PipeExport q)) more p (back (of_passing q) (of_each of_pipe_setting more) h)

  peer_stands : (known : Known) (primary peer : Option Name) → Named peer → Stand (peer_family known primary peer)
  peer_stands known primary None p = tt
  peer_stands known primary (Some n) p = if_refused (differ (primary_family known primary) (table_of known n)) n.at kinds.Nettype p

  cycle_stands : (known : Known) (at : ℕ) (o : Option Joint) → P at → Stand (cycle known at o)
  cycle_stands known at None p = tt
  cycle_stands known at (Some j) p = if_refused (joined known.pipes j.table j.peer) at kinds.PipeCycle p

  pipe_stands : (known : Known) (p : Instance PipeSetting) → Every P (of_instance of_pipe_setting p) → Stand (pipe known p)
  pipe_stands known p h =
      let name = front (of_maybe of_name p.name) (of_each of_pipe_setting p.settings) h.1 in
      let settings = back (of_maybe of_name p.name) (of_each of_pipe_setting p.settings) h.1 in
      let peer : Option Name = (pipe_options p.settings).peer in
      let named : List Refusal = declaring known p.at p.name (pipe_names (own_name known pipe_stem p.name)) in
      let written : List Refusal = pipe_settings known p.settings in
      let no_peer : List Refusal = lacks (place_of p.at p.name) peer in
      let family : List Refusal = peer_family known (pipe_options p.settings).table peer in
      let here : P (place_of p.at p.name) = at_name p.at p.name h.0 name in
      both (named ++ written ++ no_peer ++ family) (cycle known (place_of p.at p.name) (joint_of known p.settings))
      (both (named ++ written ++ no_peer) family
      (both (named ++ written) no_peer
      (both named written (protocol_stands known p.at p.name (pipe_names (own_name known pipe_stem p.name)) h.0 name) (pipe_settings_stand known p.settings settings))
      (lacks_stands (place_of p.at p.name) peer here))
      (peer_stands known (pipe_options p.settings).table peer (peer_named no_pipe_options p.settings tt settings)))
      (cycle_stands known (place_of p.at p.name) (joint_of known p.settings) here)

  -- ---- statements

  one_more_stands : (known : Known) (n : Name) → P n.at → Stand (one_more_table known n)
  one_more_stands known n p =
      let full : Bool = not (nat_lt (length known.tables) most_tables) in
      both (known_names.declaring known n) (refused_if full n.at kinds.Limit) (declared_stands known n p) (if_refused full n.at kinds.Limit p)

  unless_master : (b : Bool) (rs : List Refusal) → Stand rs → Stand (if b then [] else rs)
  unless_master true rs s = tt
  unless_master false rs s = s

  pub declaration_stands : (known : Known) (d : conf.Declaration) → Every P (places d) → Stand (refusals known d)
  declaration_stands known (conf.RouterId a) h = tt
  declaration_stands known conf.Log h = tt
  declaration_stands known (conf.Define name v) h = both (known_names.declaring known name) (value known v) (declared_stands known name h.0) (value_stands known v h.1)
  declaration_stands known (conf.Table at family name) h = unless_master (is_master known family name) (one_more_table known name) (one_more_stands known name h.1.0)
  declaration_stands known (conf.DefineFunction f) h =
      both (known_names.declaring known f.name) (of_filters (filters.of_function known.scene f)) (declared_stands known f.name h.0)
      (of_filters_stand (filters.of_function known.scene f)
      (function_stands P known.scene f h.0 (front (of_parameters f.parameters) (of_statements f.body) h.1.1) (back (of_parameters f.parameters) (of_statements f.body) h.1.1)))
  declaration_stands known (conf.DefineFilter at name ss) h =
      both (known_names.declaring known name) (of_filters (filters.of_filter known.scene name.at ss)) (declared_stands known name h.1.0)
      (of_filters_stand (filters.of_filter known.scene name.at ss) (filter_stands P known.scene name.at ss h.1.0 h.1.1))
  declaration_stands known (conf.Device name semicolon) h = name_stands known name h
  declaration_stands known (conf.Static p) h = static_stands known p h
  declaration_stands known (conf.Bgp p) h = bgp_stands known p h
  declaration_stands known (conf.Pipe p) h = pipe_stands known p h

-- each refusal of a statement is at a place of it
pub in_its_statement : (known : Known) (d : conf.Declaration) → All (λ (r : Refusal). Contains (places d) r.at) (refusals known d)
in_its_statement known d = all_of (λ (r : Refusal). Contains (places d) r.at) (refusals known d) (declaration_stands (λ n. Contains (places d) n) known d (members (places d)))
