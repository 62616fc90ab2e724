-- What a checked configuration holds in memory is what its statements come to.
use Rattle.std.proofs.Common.{◌≡◌, ◌∙◌, sym, ap, refl, ℕ, zero, suc, Bool, List, [], ◌∷◌, ◌++◌, map, Option, Some, None, append-nil, append_assoc}
use Rattle.std.proofs.Math.Path.{fun_ext}
use Rattle.std.specs.Prelude.{if◌then◌else◌, slice_get}
use Rattle.bits_ip.specs.declared.address.Addr.{Addr}
use Rattle.bits_ip.specs.declared.address.Family.{Family}
use Rattle.conf_ast.specs.Names.{name_bytes}
use Rattle.conf_ast.specs.declared.named.Name.{Name}
use Rattle.conf_ast.specs.Configurations as conf
use Rattle.conf_ast.specs.Configurations.{BgpSetting, FamilyChannel, Instance, Passing, PassAll, PassNone, PassByFilter, PassByBlock, PassWhere, PipeSetting, StaticSetting}
use Rattle.conf_ast.specs.Filters.{Expression, Statements}
use Rattle.filt_meaning.specs.Configuration as meaning
use Rattle.filt_meaning.specs.Configuration.{around_route, filter_where, of_text, verdict, verdict_of}
use Rattle.filt_meaning.specs.Names.{Context}
use Rattle.filt_types.specs.Refused.{of_filter}
use Rattle.filt_meaning.specs.Scopes.{context_of, named}
use Rattle.filt_meaning.specs.declared.scope.Scope.{Scope}
use Rattle.filt_meaning.specs.declared.tree.TFilter.{TFilter}
use Rattle.conf_names.specs.Known.{Known}
use Rattle.conf_options.specs.Defaults.{bgp_preference, static_preference}
use Rattle.conf_options.specs.Options.{pipe_options}
use Rattle.conf_rules.specs.Protocols.{bgp_channels, static_channels, static_routes}
use Rattle.conf_rules.specs.Statements.{is_master}
use Rattle.conf_check.specs.Behind.{at_start, behind, behind_one, with_table}
use Rattle.conf_check.specs.Checked.{Source, AreProtocols, Does, DoEach, IsBgp, IsBody, IsChannel, IsChecked, IsOnly, IsPeer, IsPipe, IsPolicy, IsProtocol, IsStatic, filter_sources, protocol_name, route_of}
use Rattle.conf_check.specs.declared.checked.BgpDef.{BgpDef}
use Rattle.conf_check.specs.declared.checked.ChannelDef.{ChannelDef}
use Rattle.conf_check.specs.declared.checked.Checked.{Checked}
use Rattle.conf_check.specs.declared.checked.ImportLimit.{ImportLimit}
use Rattle.conf_check.specs.declared.checked.PipeDef.{PipeDef}
use Rattle.conf_check.specs.declared.checked.PolicyDef.{PolicyDef}
use Rattle.conf_check.specs.declared.checked.PolicyDef.TheVariants as policies
use Rattle.conf_check.specs.declared.checked.ProtocolBody.{ProtocolBody}
use Rattle.conf_check.specs.declared.checked.ProtocolBody.TheVariants as bodies
use Rattle.conf_check.specs.declared.checked.ProtocolDef.{ProtocolDef}
use Rattle.conf_check.specs.declared.checked.StaticDef.{StaticDef}
use Rattle.conf_check.specs.declared.checked.StaticRoute.{StaticRoute}
use Rattle.conf_check.proofs.Places.{text_stays}
use Rattle.conf_system.specs.Asked.{Asked, asked_behind, scene_over, unless_refused}
use Rattle.conf_system.specs.Policies.{Filter, by_source, says}
use Rattle.conf_system.specs.Seen as seen
use Rattle.conf_system.specs.System as of
use Rattle.conf_system.specs.System.{Body, Protocol, System, body_of, channel_of, filters_behind, names_in, names_of, protocols_behind, system_in, with_body}
use Rattle.conf_system.specs.declared.system.System.{System as Held}

-- ---- policies

module _ (text : List ℕ) (scope : Scope) (filters : List TFilter) (names : List (List ℕ)) where
  abbrev Says : PolicyDef → Filter
  Says = seen.policy_says scope filters names

  tree_does : (before : List conf.Declaration) (ss : Statements) (f : TFilter) → Does text scope before ss f → seen.tree_says scope names f ≡ by_source text names (Some (before, ss))
  tree_does before ss f does = fun_ext (λ net. fun_ext (λ route. ap verdict_of (does.comes_to (around_route names net route) route.attrs)))

  -- the filter of a number
  numbered_says : (sources : List Source) (fs : List TFilter) → DoEach (Does text scope) sources fs → (n : ℕ)
      → seen.numbered scope filters names (slice_get fs n) ≡ by_source text names (slice_get sources n)
  numbered_says [] [] each n = fun_ext (λ net. fun_ext (λ route. refl))
  numbered_says [] (f ∷ fs) each n = absurd each
  numbered_says (s ∷ sources) [] each n = absurd each
  numbered_says (s ∷ sources) (f ∷ fs) each zero = tree_does s.0 s.1 f each.0
  numbered_says (s ∷ sources) (f ∷ fs) each (suc n) = numbered_says sources fs each.1 n

  pub policy_agrees : (sources : List Source) → DoEach (Does text scope) sources filters → (before : List conf.Declaration) (passing : Passing) (policy : PolicyDef)
      → IsPolicy (behind (at_start text) before) (Does text scope before) passing policy → Says policy ≡ says text names sources before passing
  unfolding says
  policy_agrees sources each before PassAll policies.All is = fun_ext (λ net. fun_ext (λ route. refl))
  policy_agrees sources each before PassNone policies.None is = fun_ext (λ net. fun_ext (λ route. refl))
  policy_agrees sources each before (PassByFilter at name) (policies.Filter n) is =
      fun_ext (λ net. fun_ext (λ route.
      ap (λ (f : Filter). f net route) (numbered_says sources filters each n)
      ∙ ap (λ (k : ℕ). by_source text names (slice_get sources k) net route) is))
  policy_agrees sources each before (PassByBlock at ss) (policies.Own f) is =
      fun_ext (λ net. fun_ext (λ route. ap (λ (f : Filter). f net route) (tree_does before ss f is)))
  policy_agrees sources each before (PassWhere at e) (policies.Own f) is =
      fun_ext (λ net. fun_ext (λ route. ap (λ (f : Filter). f net route) (tree_does before (filter_where e) f is)))
  policy_agrees sources each before PassAll policies.None is = absurd is
  policy_agrees sources each before PassAll (policies.Filter n) is = absurd is
  policy_agrees sources each before PassAll (policies.Own f) is = absurd is
  policy_agrees sources each before PassNone policies.All is = absurd is
  policy_agrees sources each before PassNone (policies.Filter n) is = absurd is
  policy_agrees sources each before PassNone (policies.Own f) is = absurd is
  policy_agrees sources each before (PassByFilter at name) policies.All is = absurd is
  policy_agrees sources each before (PassByFilter at name) policies.None is = absurd is
  policy_agrees sources each before (PassByFilter at name) (policies.Own f) is = absurd is
  policy_agrees sources each before (PassByBlock at ss) policies.All is = absurd is
  policy_agrees sources each before (PassByBlock at ss) policies.None is = absurd is
  policy_agrees sources each before (PassByBlock at ss) (policies.Filter n) is = absurd is
  policy_agrees sources each before (PassWhere at e) policies.All is = absurd is
  policy_agrees sources each before (PassWhere at e) policies.None is = absurd is
  policy_agrees sources each before (PassWhere at e) (policies.Filter n) is = absurd is

-- ---- one protocol

-- the same fields make the same values
channel_same : (a b : of.Channel) → a.family ≡ b.family → a.table ≡ b.table → a.import ≡ b.import → a.export ≡ b.export → a.preference ≡ b.preference → a.limit ≡ b.limit → a ≡ b
channel_same a b family table import export preference limit =
    ap (λ (x : Family). record { family = x; table = a.table; import = a.import; export = a.export; preference = a.preference; limit = a.limit }) family
    ∙ ap (λ (x : ℕ). record { family = b.family; table = x; import = a.import; export = a.export; preference = a.preference; limit = a.limit }) table
    ∙ ap (λ (x : Filter). record { family = b.family; table = b.table; import = x; export = a.export; preference = a.preference; limit = a.limit }) import
    ∙ ap (λ (x : Filter). record { family = b.family; table = b.table; import = b.import; export = x; preference = a.preference; limit = a.limit }) export
    ∙ ap (λ (x : ℕ). record { family = b.family; table = b.table; import = b.import; export = b.export; preference = x; limit = a.limit }) preference
    ∙ ap (λ (x : Option ImportLimit). record { family = b.family; table = b.table; import = b.import; export = b.export; preference = b.preference; limit = x }) limit

bgp_same : (a b : of.Bgp) → a.local ≡ b.local → a.neighbor ≡ b.neighbor → a.remote ≡ b.remote → a.interpret_communities ≡ b.interpret_communities → a.default_med ≡ b.default_med
    → a.default_local_pref ≡ b.default_local_pref → a.channel ≡ b.channel → a ≡ b
bgp_same a b local neighbor remote interpret med pref channel =
    ap (λ (x : ℕ). made x a.neighbor a.remote a.interpret_communities a.default_med a.default_local_pref a.channel) local
    ∙ ap (λ (x : Addr). made b.local x a.remote a.interpret_communities a.default_med a.default_local_pref a.channel) neighbor
    ∙ ap (λ (x : ℕ). made b.local b.neighbor x a.interpret_communities a.default_med a.default_local_pref a.channel) remote
    ∙ ap (λ (x : Bool). made b.local b.neighbor b.remote x a.default_med a.default_local_pref a.channel) interpret
    ∙ ap (λ (x : ℕ). made b.local b.neighbor b.remote b.interpret_communities x a.default_local_pref a.channel) med
    ∙ ap (λ (x : ℕ). made b.local b.neighbor b.remote b.interpret_communities b.default_med x a.channel) pref
    ∙ ap (λ (x : of.Channel). made b.local b.neighbor b.remote b.interpret_communities b.default_med b.default_local_pref x) channel
  where
    made : ℕ → Addr → ℕ → Bool → ℕ → ℕ → of.Channel → of.Bgp
    made local neighbor remote interpret med pref channel = record {
      local = local;
      neighbor = neighbor;
      remote = remote;
      interpret_communities = interpret;
      default_med = med;
      default_local_pref = pref;
      channel = channel;
    }

pipe_same : (a b : of.Pipe) → a.family ≡ b.family → a.table ≡ b.table → a.peer ≡ b.peer → a.import ≡ b.import → a.export ≡ b.export → a ≡ b
pipe_same a b family table peer import export =
    ap (λ (x : Family). record { family = x; table = a.table; peer = a.peer; import = a.import; export = a.export }) family
    ∙ ap (λ (x : ℕ). record { family = b.family; table = x; peer = a.peer; import = a.import; export = a.export }) table
    ∙ ap (λ (x : ℕ). record { family = b.family; table = b.table; peer = x; import = a.import; export = a.export }) peer
    ∙ ap (λ (x : Filter). record { family = b.family; table = b.table; peer = b.peer; import = x; export = a.export }) import
    ∙ ap (λ (x : Filter). record { family = b.family; table = b.table; peer = b.peer; import = b.import; export = x }) export

protocol_same : (a b : Protocol) → a.name ≡ b.name → a.body ≡ b.body → a ≡ b
protocol_same a b name body =
    ap (λ (x : List ℕ). record { name = x; body = a.body }) name
    ∙ ap (λ (x : Body). record { name = b.name; body = x }) body

module _ (text : List ℕ) (scope : Scope) (filters : List TFilter) (names : List (List ℕ)) (sources : List Source) (each : DoEach (Does text scope) sources filters) (before : List conf.Declaration) where
  abbrev Here : Known
  Here = behind (at_start text) before

  abbrev Said : Passing → Filter
  Said = says text names sources before

  abbrev Doing : Statements → TFilter → Type 0
  Doing = Does text scope before

  channel_agrees : (preference : ℕ) (c : FamilyChannel) (def : ChannelDef) → IsChannel Here Doing preference c def → seen.channel_seen scope filters names def ≡ channel_of Said Here preference c
  channel_agrees preference c def is =
      channel_same (seen.channel_seen scope filters names def) (channel_of Said Here preference c) is.family is.table
      (policy_agrees text scope filters names sources each before _ def.import is.imports)
      (policy_agrees text scope filters names sources each before _ def.export is.exports)
      is.preferred is.limited

  static_agrees : (cs : List FamilyChannel) (p : Instance StaticSetting) (def : StaticDef) → IsOnly (λ c. IsChannel Here Doing static_preference c def.channel) cs
      → def.routes ≡ map route_of (static_routes p.settings)
      → Some (of.IsStatic (seen.static_seen scope filters names def)) ≡ of.static_with Said Here cs (map route_of (static_routes p.settings))
  static_agrees [] p def only routes = absurd only
  static_agrees (c ∷ d ∷ more) p def only routes = absurd only
  static_agrees (c ∷ []) p def only routes =
      ap (λ (x : of.Channel). Some (of.IsStatic (record { channel = x; routes = def.routes }))) (channel_agrees static_preference c def.channel only)
      ∙ ap (λ (x : List StaticRoute). Some (of.IsStatic (record { channel = channel_of Said Here static_preference c; routes = x }))) routes

  bgp_agrees : (cs : List FamilyChannel) (p : Instance BgpSetting) (def : BgpDef) → IsOnly (λ c. IsChannel Here Doing bgp_preference c def.channel) cs → IsBgp Here Doing p def
      → Some (of.IsBgp (seen.bgp_seen scope filters names def)) ≡ of.bgp_with Said Here cs p.settings
  bgp_agrees [] p def only is = absurd only
  bgp_agrees (c ∷ d ∷ more) p def only is = absurd only
  bgp_agrees (c ∷ []) p def only is =
      ap (λ (x : of.Bgp). Some (of.IsBgp x)) (bgp_same (seen.bgp_seen scope filters names def) _ is.local is.neighbor is.remote is.interpret is.med is.local_pref (channel_agrees bgp_preference c def.channel only))

  pipe_agrees : (peer : Option Name) (p : Instance PipeSetting) (def : PipeDef) → IsPeer Here peer def → IsPipe Here Doing p def
      → Some (of.IsPipe (seen.pipe_seen scope filters names def)) ≡ of.pipe_with Said Here peer p.settings
  pipe_agrees None p def peer is = absurd peer
  pipe_agrees (Some name) p def peer is =
      ap (λ (x : of.Pipe). Some (of.IsPipe x)) (pipe_same (seen.pipe_seen scope filters names def) _ peer.1 is.table peer.0
      (policy_agrees text scope filters names sources each before _ def.import is.imports)
      (policy_agrees text scope filters names sources each before _ def.export is.exports))

  body_agrees : (d : conf.Declaration) (body : ProtocolBody) → IsBody Here Doing d body → Some (seen.body_seen scope filters names body) ≡ body_of Said Here d
  body_agrees (conf.Static p) (bodies.Static def) is = static_agrees (static_channels p.settings) p def is.channel is.routes
  body_agrees (conf.Bgp p) (bodies.Bgp def) is = bgp_agrees (bgp_channels p.settings) p def is.channel is
  body_agrees (conf.Pipe p) (bodies.Pipe def) is = pipe_agrees (pipe_options p.settings).peer p def is.peer is
  body_agrees (conf.Static p) (bodies.Bgp def) is = absurd is
  body_agrees (conf.Static p) (bodies.Pipe def) is = absurd is
  body_agrees (conf.Bgp p) (bodies.Static def) is = absurd is
  body_agrees (conf.Bgp p) (bodies.Pipe def) is = absurd is
  body_agrees (conf.Pipe p) (bodies.Static def) is = absurd is
  body_agrees (conf.Pipe p) (bodies.Bgp def) is = absurd is
  body_agrees (conf.RouterId a) body is = absurd is
  body_agrees conf.Log body is = absurd is
  body_agrees (conf.Define name v) body is = absurd is
  body_agrees (conf.Table at family name) body is = absurd is
  body_agrees (conf.DefineFunction f) body is = absurd is
  body_agrees (conf.DefineFilter at name ss) body is = absurd is
  body_agrees (conf.Device name semicolon) body is = absurd is

  -- the next protocol, and those behind it
  next_agrees : (d : conf.Declaration) (def : ProtocolDef) (rest : List Protocol) → IsProtocol Here Doing d def
      → seen.protocol_seen scope filters names def ∷ rest ≡ with_body (protocol_name Here d) (body_of Said Here d) rest
  next_agrees d def rest is =
      ap (λ (n : List ℕ). record { name = n; body = seen.body_seen scope filters names def.body } ∷ rest) is.name
      ∙ ap (λ (b : Option Body). with_body (protocol_name Here d) b rest) (body_agrees d def.body is.body)

-- ---- all protocols

module _ (text : List ℕ) (scope : Scope) (filters : List TFilter) (names : List (List ℕ)) (sources : List Source) (each : DoEach (Does text scope) sources filters) where
  abbrev See : ProtocolDef → Protocol
  See = seen.protocol_seen scope filters names

  pub protocols_agree : (before ds : List conf.Declaration) (defs : List ProtocolDef) → AreProtocols text (Does text scope) before ds defs → map See defs ≡ protocols_behind text names sources before ds
  protocols_agree before [] [] are = refl
  protocols_agree before [] (def ∷ defs) are = absurd are
  protocols_agree before (conf.RouterId a ∷ ds) defs are = protocols_agree (before ++ conf.RouterId a ∷ []) ds defs are
  protocols_agree before (conf.Log ∷ ds) defs are = protocols_agree (before ++ conf.Log ∷ []) ds defs are
  protocols_agree before (conf.Define name v ∷ ds) defs are = protocols_agree (before ++ conf.Define name v ∷ []) ds defs are
  protocols_agree before (conf.Table at family name ∷ ds) defs are = protocols_agree (before ++ conf.Table at family name ∷ []) ds defs are
  protocols_agree before (conf.DefineFunction f ∷ ds) defs are = protocols_agree (before ++ conf.DefineFunction f ∷ []) ds defs are
  protocols_agree before (conf.DefineFilter at name ss ∷ ds) defs are = protocols_agree (before ++ conf.DefineFilter at name ss ∷ []) ds defs are
  protocols_agree before (conf.Device name semicolon ∷ ds) defs are = protocols_agree (before ++ conf.Device name semicolon ∷ []) ds defs are
  protocols_agree before (conf.Static p ∷ ds) [] are = absurd are
  protocols_agree before (conf.Bgp p ∷ ds) [] are = absurd are
  protocols_agree before (conf.Pipe p ∷ ds) [] are = absurd are
  protocols_agree before (conf.Static p ∷ ds) (def ∷ defs) are =
      next_agrees text scope filters names sources each before (conf.Static p) def (map See defs) are.0
      ∙ ap (with_body (protocol_name (behind (at_start text) before) (conf.Static p)) (body_of (says text names sources before) (behind (at_start text) before) (conf.Static p))) (protocols_agree (before ++ conf.Static p ∷ []) ds defs are.1)
  protocols_agree before (conf.Bgp p ∷ ds) (def ∷ defs) are =
      next_agrees text scope filters names sources each before (conf.Bgp p) def (map See defs) are.0
      ∙ ap (with_body (protocol_name (behind (at_start text) before) (conf.Bgp p)) (body_of (says text names sources before) (behind (at_start text) before) (conf.Bgp p))) (protocols_agree (before ++ conf.Bgp p ∷ []) ds defs are.1)
  protocols_agree before (conf.Pipe p ∷ ds) (def ∷ defs) are =
      next_agrees text scope filters names sources each before (conf.Pipe p) def (map See defs) are.0
      ∙ ap (with_body (protocol_name (behind (at_start text) before) (conf.Pipe p)) (body_of (says text names sources before) (behind (at_start text) before) (conf.Pipe p))) (protocols_agree (before ++ conf.Pipe p ∷ []) ds defs are.1)

-- the names of what is seen are those that are held
names_seen : (scope : Scope) (filters : List TFilter) (names : List (List ℕ)) (defs : List ProtocolDef) → names_of (map (seen.protocol_seen scope filters names) defs) ≡ map (λ def. def.name) defs
names_seen scope filters names [] = refl
names_seen scope filters names (def ∷ defs) = ap (λ (l : List (List ℕ)). def.name ∷ l) (names_seen scope filters names defs)

-- The names are those of the protocols, whatever names the filters see.
names_agree : (text : List ℕ) (ds : List conf.Declaration) (checked : Checked) → IsChecked text ds checked → map (λ def. def.name) checked.protocols.items ≡ names_in text ds
names_agree text ds checked is =
    sym (names_seen checked.declared.scope checked.filters.items [] checked.protocols.items)
    ∙ ap names_of (protocols_agree text checked.declared.scope checked.filters.items [] (filter_sources [] ds) is.filters [] ds checked.protocols.items is.protocols)

-- ---- filters and conditions

-- the names of the filters
abbrev filter_name : (text : List ℕ) → conf.Declaration → List (List ℕ)
filter_name text (conf.DefineFilter at name ss) = name_bytes text name ∷ []
filter_name text _ = []

abbrev filter_names : (text : List ℕ) → List conf.Declaration → List (List ℕ)
filter_names text [] = []
filter_names text (d ∷ ds) = filter_name text d ++ filter_names text ds

-- what a statement leaves of the text and adds to the names of filters
abbrev Names : (text : List ℕ) → Known → Known → conf.Declaration → Type 0
Names text old new d = (new.scene.text ≡ old.scene.text) × (new.filters ≡ old.filters ++ filter_name old.scene.text d)

no_name : (text : List ℕ) (known : Known) → known.filters ≡ known.filters ++ []
no_name text known = sym (append-nil known.filters)

table_names : (text : List ℕ) (known : Known) (b : Bool) (name : List ℕ) (f : Family) → ((if b then known else with_table known name f).scene.text ≡ known.scene.text) × ((if b then known else with_table known name f).filters ≡ known.filters ++ [])
table_names text known Bool.true name f = (refl, no_name text known)
table_names text known Bool.false name f = (refl, no_name text known)

one_name : (text : List ℕ) (known : Known) (d : conf.Declaration) → Names text known (behind_one known d) d
one_name text known (conf.RouterId a) = (refl, no_name text known)
one_name text known conf.Log = (refl, no_name text known)
one_name text known (conf.Define name v) = (text_stays known (conf.Define name v), no_name text known)
one_name text known (conf.Table at family name) = table_names text known (is_master known family name) (name_bytes known.scene.text name) family
one_name text known (conf.DefineFunction f) = (refl, no_name text known)
one_name text known (conf.DefineFilter at name ss) = (refl, refl)
one_name text known (conf.Device name semicolon) = (refl, no_name text known)
one_name text known (conf.Static p) = (refl, no_name text known)
one_name text known (conf.Bgp p) = (refl, no_name text known)
one_name text known (conf.Pipe p) = (refl, no_name text known)

all_names : (known : Known) (ds : List conf.Declaration) → (behind known ds).filters ≡ known.filters ++ filter_names known.scene.text ds
all_names known [] = sym (append-nil known.filters)
all_names known (d ∷ ds) =
    let one = one_name known.scene.text known d in
    all_names (behind_one known d) ds
    ∙ ap (λ (t : List ℕ). (behind_one known d).filters ++ filter_names t ds) one.0
    ∙ ap (λ (l : List (List ℕ)). l ++ filter_names known.scene.text ds) one.1
    ∙ append_assoc known.filters (filter_name known.scene.text d) (filter_names known.scene.text ds)

module _ (text : List ℕ) (scope : Scope) (filters : List TFilter) (names : List (List ℕ)) where
  abbrev Tree : TFilter → Filter
  Tree = seen.tree_says scope names

  filters_agree : (before ds : List conf.Declaration) (fs : List TFilter) → DoEach (Does text scope) (filter_sources before ds) fs → named (filter_names text ds) (map Tree fs) ≡ filters_behind text names before ds
  filters_agree before [] fs each = refl
  filters_agree before (conf.DefineFilter at name ss ∷ ds) [] each = absurd each
  filters_agree before (conf.DefineFilter at name ss ∷ ds) (f ∷ fs) each =
      ap (λ (x : Filter). (name_bytes text name, x) ∷ named (filter_names text ds) (map Tree fs)) (tree_does text scope filters names before ss f each.0)
      ∙ ap (λ (l : List (List ℕ × Filter)). (name_bytes text name, verdict text before names ss) ∷ l) (filters_agree (before ++ conf.DefineFilter at name ss ∷ []) ds fs each.1)
  filters_agree before (conf.RouterId a ∷ ds) fs each = filters_agree (before ++ conf.RouterId a ∷ []) ds fs each
  filters_agree before (conf.Log ∷ ds) fs each = filters_agree (before ++ conf.Log ∷ []) ds fs each
  filters_agree before (conf.Define name v ∷ ds) fs each = filters_agree (before ++ conf.Define name v ∷ []) ds fs each
  filters_agree before (conf.Table at family name ∷ ds) fs each = filters_agree (before ++ conf.Table at family name ∷ []) ds fs each
  filters_agree before (conf.DefineFunction f ∷ ds) fs each = filters_agree (before ++ conf.DefineFunction f ∷ []) ds fs each
  filters_agree before (conf.Device name semicolon ∷ ds) fs each = filters_agree (before ++ conf.Device name semicolon ∷ []) ds fs each
  filters_agree before (conf.Static p ∷ ds) fs each = filters_agree (before ++ conf.Static p ∷ []) ds fs each
  filters_agree before (conf.Bgp p ∷ ds) fs each = filters_agree (before ++ conf.Bgp p ∷ []) ds fs each
  filters_agree before (conf.Pipe p ∷ ds) fs each = filters_agree (before ++ conf.Pipe p ∷ []) ds fs each

-- a condition sees over the scope what it sees behind the statements
asked_agrees : (text : List ℕ) (ds : List conf.Declaration) (checked : Checked) (names : List (List ℕ)) → IsChecked text ds checked → seen.asked_over checked.declared.scope names ≡ asked_behind text names ds
unfolding asked_behind
asked_agrees text ds checked names is = fun_ext (λ condition. fun_ext (λ e.
    ap (λ (k : Known). unless_refused (of_filter (scene_over k.scene condition) 0 (filter_where e)) (over condition e)) is.declared
    ∙ ap (λ (f : Filter). unless_refused (of_filter (scene_over (behind (at_start text) ds).scene condition) 0 (filter_where e)) f)
    (fun_ext (λ net. fun_ext (λ route. ap (λ (c : Context). meaning.judged (of_text c condition) (filter_where e) route.attrs) (is.scope (around_route names net route)))))))
  where
    over : List ℕ → Expression → Filter
    over condition e net route = meaning.judged (context_of condition (around_route names net route) checked.declared.scope []) (filter_where e) route.attrs

-- ---- the whole

-- the same parts make the same system
system_same : (a b : System) → a.tables ≡ b.tables → a.filters ≡ b.filters → a.asked ≡ b.asked → a.protocols ≡ b.protocols → a ≡ b
system_same a b tables filters asked protocols =
    ap (λ (x : List (List ℕ × Family)). record { tables = x; filters = a.filters; asked = a.asked; protocols = a.protocols }) tables
    ∙ ap (λ (x : List (List ℕ × Filter)). record { tables = b.tables; filters = x; asked = a.asked; protocols = a.protocols }) filters
    ∙ ap (λ (x : List ℕ → Expression → Asked). record { tables = b.tables; filters = b.filters; asked = x; protocols = a.protocols }) asked
    ∙ ap (λ (x : List Protocol). record { tables = b.tables; filters = b.filters; asked = b.asked; protocols = x }) protocols

pub system_agrees : (text : List ℕ) (ds : List conf.Declaration) (held : Held) → IsChecked text ds held.checked → held.names ≡ map (λ def. def.name) held.checked.protocols.items → seen.system_of held ≡ system_in text ds
unfolding system_in
system_agrees text ds held is are =
    let scope = held.checked.declared.scope in
    let filters = held.checked.filters.items in
    let names : held.names ≡ names_in text ds = are ∙ names_agree text ds held.checked is in
    let Trees : List Filter = map (seen.tree_says scope held.names) filters in
    system_same (seen.system_of held) _ (ap (λ (k : Known). k.tables) is.declared)
    (ap (λ (k : Known). named k.filters Trees) is.declared ∙ ap (λ (l : List (List ℕ)). named l Trees) (all_names (at_start text) ds)
    ∙ filters_agree text scope filters held.names [] ds filters is.filters ∙ ap (λ (n : List (List ℕ)). filters_behind text n [] ds) names)
    (asked_agrees text ds held.checked held.names is ∙ ap (λ (n : List (List ℕ)). asked_behind text n ds) names)
    (protocols_agree text scope filters held.names (filter_sources [] ds) is.filters [] ds held.checked.protocols.items is.protocols
    ∙ ap (λ (n : List (List ℕ)). protocols_behind text n (filter_sources [] ds) [] ds) names)
