-- What has been made of statements, and of one more.
use Rattle.std.proofs.Common.{◌≡◌, ℕ, ◌+◌, ◌<◌, ◌≤◌, All, Bool, true, false, List, [], ◌∷◌, ◌++◌, length, map, take, get_or, Option, None, refl, sym, ap, subst, ◌∙◌, arith, append_assoc, append-nil, length-append}
use Rattle.std.proofs.lemmas.List.{map-append, take-append-le, take_more}
use Rattle.std.proofs.lemmas.List.Elements.{All-take}
use Rattle.conf_ast.specs.declared.kind.ConfFault.{ConfFault}
use Rattle.conf_ast.specs.declared.kind.ConfFault.TheVariants as faults
use Rattle.conf_ast.specs.declared.configurations.Statement.{Statement}
use Rattle.conf_ast.specs.Configurations as conf
use Rattle.conf_ast.specs.Configurations.{configuration_of, declaration_of, Passing, PassAll, PassNone, PassByFilter, PassByBlock, PassWhere, FamilyChannel, Instance, StaticSetting, BgpSetting, PipeSetting}
use Rattle.conf_ast.specs.Filters.{Statements}
use Rattle.filt_meaning.specs.Configuration as meaning
use Rattle.filt_meaning.specs.Configuration.{filter_where}
use Rattle.filt_meaning.specs.Names.{Context}
use Rattle.filt_meaning.specs.declared.scope.Scope.{Scope}
use Rattle.filt_meaning.specs.declared.scope.TFunction.{TFunction}
use Rattle.filt_meaning.specs.declared.tree.TFilter.{TFilter}
use Rattle.filt_meaning.specs.Scopes.{constant_values, function_trees}
use Rattle.filt_meaning.specs.Steps.{filter_steps}
use Rattle.filt_meaning.specs.Trees.{AreBefore, tree_flow}
use Rattle.filt_types.specs.Scenes.{Scene}
use Rattle.filt_types.specs.Seen.{scene_of}
use Rattle.filt_types.specs.Weight.{block_weight}
use Rattle.filt_meaning.specs.declared.fixed.Fixed.{Fixed}
use Rattle.filt_check.proofs.Growing.{filter_stays, nothing_declared}
use Rattle.conf_names.specs.declared.refusal.Refusal.{Refusal}
use Rattle.conf_options.specs.Defaults.{bgp_preference, export_or, import_or, static_preference}
use Rattle.conf_options.specs.Options.{pipe_options}
use Rattle.conf_rules.specs.Channels.{options_of}
use Rattle.conf_names.specs.Known.{Known}
use Rattle.conf_rules.specs.Protocols.{bgp_channels, static_channels}
use Rattle.conf_names.specs.Refusals.{first_in}
use Rattle.conf_names.specs.Seen.{known_of}
use Rattle.conf_rules.specs.Statements.{refusals}
use Rattle.conf_check.specs.declared.checked.BgpDef.{BgpDef}
use Rattle.conf_check.specs.declared.checked.ChannelDef.{ChannelDef}
use Rattle.conf_check.specs.declared.checked.Checked.{Checked}
use Rattle.conf_check.specs.declared.checked.PipeDef.{PipeDef}
use Rattle.conf_check.specs.declared.checked.PolicyDef.{PolicyDef}
use Rattle.conf_check.specs.declared.checked.PolicyDef.TheVariants as policies
use Rattle.conf_check.specs.declared.checked.ProtocolBody.{ProtocolBody}
use Rattle.conf_check.specs.declared.checked.ProtocolBody.TheVariants as bodies
use Rattle.conf_check.specs.declared.checked.ProtocolDef.{ProtocolDef}
use Rattle.conf_check.specs.declared.checked.StaticDef.{StaticDef}
use Rattle.conf_check.specs.Behind.{at_start, behind, behind_one}
use Rattle.conf_check.specs.Checked.{AreLight, AreProtocols, DoEach, Does, IsBgp, IsBody, IsChannel, IsChecked, IsOnly, IsPipe, IsPolicy, IsProtocol, IsStatic, NextProtocol, SeesAs, Source, declared_places, filter_source, filter_sources, is_protocol, table_place}
use Rattle.conf_check.specs.Refused.{IsFault, or_later, refusal_of}
use Rattle.conf_check.specs.Seen.{Adds, AddsFilter, AddsOne, AddsPlace, AddsProtocol, AreWithin, Grows, Lasts, Means, Stands}

-- ---- behind one statement more

pub behind_more : (known : Known) (ds : List conf.Declaration) (d : conf.Declaration) → behind known (ds ++ d ∷ []) ≡ behind_one (behind known ds) d
behind_more known [] d = refl
behind_more known (x ∷ ds) d = behind_more (behind_one known x) ds d

meaning_more : (c : Context) (ds : List conf.Declaration) (d : conf.Declaration) → meaning.behind c (ds ++ d ∷ []) ≡ meaning.behind_one (meaning.behind c ds) d
meaning_more c [] d = refl
meaning_more c (x ∷ ds) d = meaning_more (meaning.behind_one c x) ds d

-- ---- the same with a weaker relation

abbrev Reads : Type 1
Reads = Statements → TFilter → Type 0

abbrev Weaker : Reads → Reads → Type 0
Weaker does other = (ss : Statements) (f : TFilter) → does ss f → other ss f

policy_map : (known : Known) (does other : Reads) → Weaker does other → (p : Passing) (def : PolicyDef) → IsPolicy known does p def → IsPolicy known other p def
policy_map known does other m PassAll policies.All h = tt
policy_map known does other m PassNone policies.None h = tt
policy_map known does other m (PassByFilter at name) (policies.Filter n) h = h
policy_map known does other m (PassByBlock at ss) (policies.Own f) h = m ss f h
policy_map known does other m (PassWhere at e) (policies.Own f) h = m (filter_where e) f h
policy_map known does other m _ _ h = absurd h

channel_map : (known : Known) (does other : Reads) → Weaker does other → (n : ℕ) (c : FamilyChannel) (def : ChannelDef) → IsChannel known does n c def → IsChannel known other n c def
channel_map known does other m n c def h = record {
  family = h.family;
  table = h.table;
  imports = policy_map known does other m (import_or (options_of c).import) def.import h.imports;
  exports = policy_map known does other m (export_or (options_of c).export) def.export h.exports;
  preferred = h.preferred;
  limited = h.limited;
}

only_map : (is other : FamilyChannel → Type 0) → ((c : FamilyChannel) → is c → other c) → (cs : List FamilyChannel) → IsOnly is cs → IsOnly other cs
only_map is other m [] h = absurd h
only_map is other m (c ∷ []) h = m c h
only_map is other m (c ∷ d ∷ cs) h = absurd h

static_map : (known : Known) (does other : Reads) → Weaker does other → (p : Instance StaticSetting) (def : StaticDef) → IsStatic known does p def → IsStatic known other p def
static_map known does other m p def h = record {
  channel = only_map (λ c. IsChannel known does static_preference c def.channel) (λ c. IsChannel known other static_preference c def.channel) (λ c. channel_map known does other m static_preference c def.channel) (static_channels p.settings) h.channel;
  routes = h.routes;
}

bgp_map : (known : Known) (does other : Reads) → Weaker does other → (p : Instance BgpSetting) (def : BgpDef) → IsBgp known does p def → IsBgp known other p def
bgp_map known does other m p def h = record {
  local = h.local;
  remote = h.remote;
  neighbor = h.neighbor;
  interpret = h.interpret;
  med = h.med;
  local_pref = h.local_pref;
  channel = only_map (λ c. IsChannel known does bgp_preference c def.channel) (λ c. IsChannel known other bgp_preference c def.channel) (λ c. channel_map known does other m bgp_preference c def.channel) (bgp_channels p.settings) h.channel;
}

pipe_map : (known : Known) (does other : Reads) → Weaker does other → (p : Instance PipeSetting) (def : PipeDef) → IsPipe known does p def → IsPipe known other p def
pipe_map known does other m p def h = record {
  table = h.table;
  peer = h.peer;
  imports = policy_map known does other m (import_or (pipe_options p.settings).import) def.import h.imports;
  exports = policy_map known does other m (export_or (pipe_options p.settings).export) def.export h.exports;
}

body_map : (known : Known) (does other : Reads) → Weaker does other → (d : conf.Declaration) (b : ProtocolBody) → IsBody known does d b → IsBody known other d b
body_map known does other m (conf.Static p) (bodies.Static def) h = static_map known does other m p def h
body_map known does other m (conf.Bgp p) (bodies.Bgp def) h = bgp_map known does other m p def h
body_map known does other m (conf.Pipe p) (bodies.Pipe def) h = pipe_map known does other m p def h
body_map known does other m _ _ h = absurd h

protocol_map : (known : Known) (does other : Reads) → Weaker does other → (d : conf.Declaration) (def : ProtocolDef) → IsProtocol known does d def → IsProtocol known other d def
protocol_map known does other m d def h = record { at = h.at; name = h.name; body = body_map known does other m d def.body h.body }

-- ---- lists of them

abbrev ReadsBehind : Type 1
ReadsBehind = List conf.Declaration → Statements → TFilter → Type 0

abbrev WeakerBehind : ReadsBehind → ReadsBehind → Type 0
WeakerBehind does other = (before : List conf.Declaration) → Weaker (does before) (other before)

each_map : (does other : ReadsBehind) → WeakerBehind does other → (ss : List Source) (fs : List TFilter) → DoEach does ss fs → DoEach other ss fs
each_map does other m [] [] h = tt
each_map does other m [] (f ∷ fs) h = absurd h
each_map does other m (s ∷ ss) [] h = absurd h
each_map does other m (s ∷ ss) (f ∷ fs) h = (m s.0 s.1 f h.0, each_map does other m ss fs h.1)

next_map : (b : Bool) (is other : ProtocolDef → Type 0) (rest more : List ProtocolDef → Type 0) → ((def : ProtocolDef) → is def → other def) → ((defs : List ProtocolDef) → rest defs → more defs) → (defs : List ProtocolDef) → NextProtocol b is rest defs → NextProtocol b other more defs
next_map false is other rest more m r defs h = r defs h
next_map true is other rest more m r [] h = absurd h
next_map true is other rest more m r (def ∷ defs) h = (m def h.0, r defs h.1)

protocols_map : (text : List ℕ) (does other : ReadsBehind) → WeakerBehind does other → (before ds : List conf.Declaration) (defs : List ProtocolDef) → AreProtocols text does before ds defs → AreProtocols text other before ds defs
protocols_map text does other m before [] [] h = tt
protocols_map text does other m before [] (def ∷ defs) h = absurd h
protocols_map text does other m before (d ∷ ds) defs h =
    next_map (is_protocol d) (IsProtocol (behind (at_start text) before) (does before) d) (IsProtocol (behind (at_start text) before) (other before) d) (AreProtocols text does (before ++ d ∷ []) ds) (AreProtocols text other (before ++ d ∷ []) ds)
    (protocol_map (behind (at_start text) before) (does before) (other before) (m before) d) (protocols_map text does other m (before ++ d ∷ []) ds) defs h

-- ---- one more

sources_more : (before ds : List conf.Declaration) (d : conf.Declaration) → filter_sources before (ds ++ d ∷ []) ≡ filter_sources before ds ++ filter_source (before ++ ds) d
sources_more before [] d = append-nil (filter_source before d) ∙ ap (λ (b : List conf.Declaration). filter_source b d) (sym (append-nil before))
sources_more before (x ∷ ds) d =
    ap (λ (l : List Source). filter_source before x ++ l) (sources_more (before ++ x ∷ []) ds d ∙ ap (λ (b : List conf.Declaration). filter_sources (before ++ x ∷ []) ds ++ filter_source b d) (append_assoc before (x ∷ []) ds))
    ∙ sym (append_assoc (filter_source before x) (filter_sources (before ++ x ∷ []) ds) (filter_source (before ++ x ∷ ds) d))

each_more : (does : ReadsBehind) (ss : List Source) (fs : List TFilter) (s : Source) (f : TFilter) → DoEach does ss fs → does s.0 s.1 f → DoEach does (ss ++ s ∷ []) (fs ++ f ∷ [])
each_more does [] [] s f h is = (is, tt)
each_more does [] (g ∷ fs) s f h is = absurd h
each_more does (t ∷ ss) [] s f h is = absurd h
each_more does (t ∷ ss) (g ∷ fs) s f h is = (h.0, each_more does ss fs s f h.1 is)

no_more : (does : ReadsBehind) (ss : List Source) (fs gs : List TFilter) → DoEach does ss fs → gs ≡ fs → DoEach does (ss ++ []) gs
no_more does ss fs gs h same = subst (λ (l : List Source). DoEach does l gs) (sym (append-nil ss)) (subst (λ (l : List TFilter). DoEach does ss l) (sym same) h)

filters_more : (does : ReadsBehind) (before : List conf.Declaration) (d : conf.Declaration) (ss : List Source) (fs gs : List TFilter) → DoEach does ss fs → AddsFilter (does before) d fs gs → DoEach does (ss ++ filter_source before d) gs
filters_more does before (conf.DefineFilter at name body) ss fs gs h adds = subst (λ (l : List TFilter). DoEach does (ss ++ (before, body) ∷ []) l) (sym adds.1) (each_more does ss fs (before, body) adds.0 h adds.2)
filters_more does before (conf.RouterId a) ss fs gs h adds = no_more does ss fs gs h adds
filters_more does before conf.Log ss fs gs h adds = no_more does ss fs gs h adds
filters_more does before (conf.Define name v) ss fs gs h adds = no_more does ss fs gs h adds
filters_more does before (conf.Table at family name) ss fs gs h adds = no_more does ss fs gs h adds
filters_more does before (conf.DefineFunction f) ss fs gs h adds = no_more does ss fs gs h adds
filters_more does before (conf.Device name semicolon) ss fs gs h adds = no_more does ss fs gs h adds
filters_more does before (conf.Static p) ss fs gs h adds = no_more does ss fs gs h adds
filters_more does before (conf.Bgp p) ss fs gs h adds = no_more does ss fs gs h adds
filters_more does before (conf.Pipe p) ss fs gs h adds = no_more does ss fs gs h adds

one_alone : (b : Bool) (is : ProtocolDef → Type 0) (rest : List ProtocolDef → Type 0) (defs : List ProtocolDef) → rest [] → AddsOne b is [] defs → NextProtocol b is rest defs
one_alone false is rest defs r adds = subst rest (sym adds) r
one_alone true is rest defs r adds = subst (λ (l : List ProtocolDef). NextProtocol true is rest l) (sym adds.1) (adds.2, r)

behind_first : (b : Bool) (is first : ProtocolDef → Type 0) (rest more : List ProtocolDef → Type 0) (def : ProtocolDef) (defs all : List ProtocolDef) → first def → rest defs → AddsOne b is (def ∷ defs) all → ((xs ys : List ProtocolDef) → rest xs → AddsOne b is xs ys → more ys) → NextProtocol true first more all
behind_first false is first rest more def defs all f r adds next = subst (λ (l : List ProtocolDef). NextProtocol true first more l) (sym adds) (f, next defs defs r refl)
behind_first true is first rest more def defs all f r adds next = subst (λ (l : List ProtocolDef). NextProtocol true first more l) (sym adds.1) (f, next defs (defs ++ adds.0 ∷ []) r (adds.0, refl, adds.2))

next_more : (c b : Bool) (first is : ProtocolDef → Type 0) (rest more : List ProtocolDef → Type 0) (defs all : List ProtocolDef) → NextProtocol c first rest defs → AddsOne b is defs all → ((xs ys : List ProtocolDef) → rest xs → AddsOne b is xs ys → more ys) → NextProtocol c first more all
next_more false b first is rest more defs all h adds next = next defs all h adds
next_more true b first is rest more [] all h adds next = absurd h
next_more true b first is rest more (def ∷ defs) all h adds next = behind_first b is first rest more def defs all h.0 h.1 adds next

protocols_more : (text : List ℕ) (does : ReadsBehind) (before ds whole : List conf.Declaration) (d : conf.Declaration) (defs all : List ProtocolDef) → whole ≡ before ++ ds → AreProtocols text does before ds defs → AddsProtocol (behind (at_start text) whole) (does whole) d defs all → AreProtocols text does before (ds ++ d ∷ []) all
protocols_more text does before [] whole d [] all is h adds =
    one_alone (is_protocol d) (IsProtocol (behind (at_start text) before) (does before) d) (AreProtocols text does (before ++ d ∷ []) []) all tt
    (subst (λ (w : List conf.Declaration). AddsProtocol (behind (at_start text) w) (does w) d [] all) (is ∙ append-nil before) adds)
protocols_more text does before [] whole d (def ∷ defs) all is h adds = absurd h
protocols_more text does before (x ∷ ds) whole d defs all is h adds =
    next_more (is_protocol x) (is_protocol d) (IsProtocol (behind (at_start text) before) (does before) x) (IsProtocol (behind (at_start text) whole) (does whole) d) (AreProtocols text does (before ++ x ∷ []) ds) (AreProtocols text does (before ++ x ∷ []) (ds ++ d ∷ [])) defs all h adds
    (λ xs ys. protocols_more text does (before ++ x ∷ []) ds whole d xs ys (is ∙ sym (append_assoc before (x ∷ []) ds)))

place_added : (text : List ℕ) (d : conf.Declaration) (old new : List ℕ) → AddsPlace text d old new → new ≡ old ++ table_place text d
place_added text (conf.Table at family name) old new h = h
place_added text (conf.RouterId a) old new h = h ∙ sym (append-nil old)
place_added text conf.Log old new h = h ∙ sym (append-nil old)
place_added text (conf.Define name v) old new h = h ∙ sym (append-nil old)
place_added text (conf.DefineFunction f) old new h = h ∙ sym (append-nil old)
place_added text (conf.DefineFilter at name ss) old new h = h ∙ sym (append-nil old)
place_added text (conf.Device name semicolon) old new h = h ∙ sym (append-nil old)
place_added text (conf.Static p) old new h = h ∙ sym (append-nil old)
place_added text (conf.Bgp p) old new h = h ∙ sym (append-nil old)
place_added text (conf.Pipe p) old new h = h ∙ sym (append-nil old)

places_more : (text : List ℕ) (ds : List conf.Declaration) (d : conf.Declaration) → declared_places text (ds ++ d ∷ []) ≡ declared_places text ds ++ table_place text d
places_more text [] d = append-nil (table_place text d)
places_more text (x ∷ ds) d = ap (λ (l : List ℕ). table_place text x ++ l) (places_more text ds d) ∙ sym (append_assoc (table_place text x) (declared_places text ds) (table_place text d))

-- ---- trees

-- a filter that sees no more functions than there are sees the same ones where there are more
before_grows : (n m : ℕ) (fs more : List TFunction) → n ≤ length fs → All (λ (g : TFunction). g.constants ≤ m) (take n fs) → All (λ (g : TFunction). g.constants ≤ m) (take n (fs ++ more))
before_grows n m fs more le all = subst (λ (l : List TFunction). All (λ (g : TFunction). g.constants ≤ m) l) (sym (take-append-le n fs more le)) all

lasts_grow : (text : List ℕ) (scope after : Scope) → Grows scope after → WeakerBehind (Lasts text scope) (Lasts text after)
lasts_grow text scope after g = λ before ss f h. record {
  does = record {
    comes_to = λ around attrs.
        ap (λ (cs : List Fixed). tree_flow around cs (function_trees after) f attrs) g.constants.1
        ∙ ap (λ (fs : List TFunction). tree_flow around (constant_values scope ++ g.constants.0) fs f attrs) g.functions.1
        ∙ filter_stays around (constant_values scope) g.constants.0 (function_trees scope) g.functions.0 f attrs h.constants h.functions
        ∙ h.does.comes_to around attrs;
    sees = subst (λ (l : List TFunction). AreBefore l f) (sym g.functions.1) (before_grows f.functions f.constants (function_trees scope) g.functions.0 h.functions h.does.sees);
    steps = λ more.
        let same : filter_steps (function_trees after ++ more) f ≡ filter_steps (function_trees scope ++ (g.functions.0 ++ more)) f =
        ap (λ (fs : List TFunction). filter_steps (fs ++ more) f) g.functions.1 ∙ ap (λ (fs : List TFunction). filter_steps fs f) (append_assoc (function_trees scope) g.functions.0 more) in
        omega (arith, same, h.does.steps (g.functions.0 ++ more));
  };
  constants = omega (arith, h.constants, ap (λ (cs : List Fixed). length cs) g.constants.1, length-append (constant_values scope) g.constants.0);
  functions = omega (arith, h.functions, ap (λ (fs : List TFunction). length fs) g.functions.1, length-append (function_trees scope) g.functions.0);
}

-- what sees all constants sees no function that sees more
all_before : (n m k : ℕ) (fs : List TFunction) → m ≡ k → All (λ (g : TFunction). g.constants ≤ k) fs → All (λ (g : TFunction). g.constants ≤ m) (take n fs)
all_before n m k fs is all = subst (λ (l : ℕ). All (λ (g : TFunction). g.constants ≤ l) (take n fs)) (sym is) (All-take (λ (g : TFunction). g.constants ≤ k) n fs all)

means_lasts : (text : List ℕ) (scope : Scope) (before : List conf.Declaration) → SeesAs text before scope → AreWithin scope → scene_of text scope ≡ (behind (at_start text) before).scene → Weaker (Means text scope) (Lasts text scope before)
means_lasts text scope before sees within scene = λ ss f h. record {
  does = record {
    comes_to = λ around attrs. h.does around attrs ∙ ap (λ (c : Context). meaning.body c [] ss [] attrs) (sees around);
    sees = all_before f.functions f.constants (length (constant_values scope)) (function_trees scope) h.constants within;
    steps = λ more. omega (arith, h.steps more, ap (λ (s : Scene). block_weight s ss) scene);
  };
  constants = omega (arith, h.constants);
  functions = omega (arith, h.functions);
}

lasts_does : (text : List ℕ) (scope : Scope) → WeakerBehind (Lasts text scope) (Does text scope)
lasts_does text scope = λ before ss f h. h.does

adds_map : {A : Type 0} (b : Bool) (is other : A → Type 0) → ((a : A) → is a → other a) → (xs ys : List A) → AddsOne b is xs ys → AddsOne b other xs ys
adds_map false is other m xs ys h = h
adds_map true is other m xs ys h = (h.0, h.1, m h.0 h.2)

filter_adds_map : (does other : Reads) → Weaker does other → (d : conf.Declaration) (xs ys : List TFilter) → AddsFilter does d xs ys → AddsFilter other d xs ys
filter_adds_map does other m (conf.DefineFilter at name ss) xs ys h = adds_map true (does ss) (other ss) (m ss) xs ys h
filter_adds_map does other m (conf.RouterId a) xs ys h = h
filter_adds_map does other m conf.Log xs ys h = h
filter_adds_map does other m (conf.Define name v) xs ys h = h
filter_adds_map does other m (conf.Table at family name) xs ys h = h
filter_adds_map does other m (conf.DefineFunction f) xs ys h = h
filter_adds_map does other m (conf.Device name semicolon) xs ys h = h
filter_adds_map does other m (conf.Static p) xs ys h = h
filter_adds_map does other m (conf.Bgp p) xs ys h = h
filter_adds_map does other m (conf.Pipe p) xs ys h = h

-- ---- configurations

pub stands_more : (text : List ℕ) (before : List conf.Declaration) (d : conf.Declaration) (old new : Checked) → Stands text before old → Adds text d old new → Stands text (before ++ d ∷ []) new
stands_more text before d old new s a =
    let after = new.declared.scope in
    let weaker : Weaker (Means text old.declared.scope) (Lasts text after before) = λ ss f h. lasts_grow text old.declared.scope after a.declares.grows before ss f (means_lasts text old.declared.scope before s.sees s.within (ap (λ (k : Known). k.scene) s.declared) ss f h) in
    record {
      declared = a.declares.known ∙ ap (λ (k : Known). behind_one k d) s.declared ∙ sym (behind_more (at_start text) before d);
      filters = subst (λ (l : List Source). DoEach (Lasts text after) l new.filters.items) (sym (sources_more [] before d))
          (filters_more (Lasts text after) before d (filter_sources [] before) old.filters.items new.filters.items
          (each_map (Lasts text old.declared.scope) (Lasts text after) (lasts_grow text old.declared.scope after a.declares.grows) (filter_sources [] before) old.filters.items s.filters)
          (filter_adds_map (Means text old.declared.scope) (Lasts text after before) weaker d old.filters.items new.filters.items a.filters));
      protocols = protocols_more text (Lasts text after) [] before before d old.protocols.items new.protocols.items refl
          (protocols_map text (Lasts text old.declared.scope) (Lasts text after) (lasts_grow text old.declared.scope after a.declares.grows) [] before old.protocols.items s.protocols)
          (adds_map (is_protocol d) (IsProtocol (behind (at_start text) before) (Means text old.declared.scope) d) (IsProtocol (behind (at_start text) before) (Lasts text after before) d)
          (protocol_map (behind (at_start text) before) (Means text old.declared.scope) (Lasts text after before) weaker d) old.protocols.items new.protocols.items
          (subst (λ (k : Known). AddsProtocol k (Means text old.declared.scope) d old.protocols.items new.protocols.items) s.declared a.protocols));
      places = place_added text d old.table_places.items new.table_places.items a.places
          ∙ ap (λ (l : List ℕ). l ++ table_place text d) s.places ∙ ap (λ (l : List ℕ). 0 ∷ 0 ∷ l) (sym (places_more text before d));
      end = a.end ∙ s.end;
      sees = λ around. a.declares.sees s.within around ∙ ap (λ (c : Context). meaning.behind_one c d) (s.sees around) ∙ sym (meaning_more (meaning.at_start text around) before d);
      within = a.declares.within s.within;
      light = a.declares.light s.light;
    }

pub stands_checked : (text : List ℕ) (ds : List conf.Declaration) (checked : Checked) → Stands text ds checked → IsChecked text ds checked
stands_checked text ds checked s = record {
  declared = s.declared;
  scope = s.sees;
  filters = each_map (Lasts text checked.declared.scope) (Does text checked.declared.scope) (lasts_does text checked.declared.scope) (filter_sources [] ds) checked.filters.items s.filters;
  protocols = protocols_map text (Lasts text checked.declared.scope) (Does text checked.declared.scope) (lasts_does text checked.declared.scope) [] ds checked.protocols.items s.protocols;
  places = s.places;
  end = s.end;
  within = s.within;
  light = s.light;
}

none_within : (n : ℕ) (fs : List TFunction) → fs ≡ [] → All (λ (f : TFunction). f.constants ≤ n) fs
none_within n fs is = λ k d below. absurd (omega (arith, below, ap (λ (l : List TFunction). length l) is))

pub stands_start : (text : List ℕ) (checked : Checked) → known_of text checked.declared ≡ at_start text → checked.filters.items ≡ [] → checked.protocols.items ≡ [] → checked.declared.scope.constants.entries ≡ [] → checked.declared.scope.functions.entries ≡ [] → checked.table_places.items ≡ 0 ∷ 0 ∷ [] → checked.end ≡ length text → Stands text [] checked
stands_start text checked declared filters protocols constants functions places end = record {
  declared = declared;
  filters = subst (λ (l : List TFilter). DoEach (Lasts text checked.declared.scope) [] l) (sym filters) tt;
  protocols = subst (λ (l : List ProtocolDef). AreProtocols text (Lasts text checked.declared.scope) [] [] l) (sym protocols) tt;
  places = places;
  end = end;
  sees = λ around. nothing_declared text around checked.declared.scope constants functions;
  within = none_within (length (constant_values checked.declared.scope)) (function_trees checked.declared.scope) (ap (λ l. map (λ e. e.1) l) functions);
  light = subst AreLight (sym (ap (λ l. map (λ e. e.1) l) functions)) tt;
}

-- ---- one statement more

pub refusal_turn : (known new : Known) (d : conf.Declaration) (rest : List conf.Declaration) (whole : Option Refusal) → refusal_of known (d ∷ rest) ≡ whole → first_in None (refusals known d) ≡ None → new ≡ behind_one known d → refusal_of new rest ≡ whole
refusal_turn known new d rest whole before none is =
    ap (λ (k : Known). refusal_of k rest) is ∙ sym (ap (λ (o : Option Refusal). or_later o (refusal_of (behind_one known d) rest)) none) ∙ before

pub fault_whole : (known : Known) (d : conf.Declaration) (rest : List conf.Declaration) (whole : Option Refusal) (fault : ConfFault) → refusal_of known (d ∷ rest) ≡ whole → IsFault fault (first_in None (refusals known d)) → IsFault fault whole
fault_whole known d rest whole (faults.Refused at kind) before is = sym before ∙ ap (λ (o : Option Refusal). or_later o (refusal_of (behind_one known d) rest)) is
fault_whole known d rest whole faults.Memory before is = tt

pub one_taken : (items : List Statement) (i : ℕ) (x : Statement) → i < length items → x ≡ get_or items i x → configuration_of (take (i + 1) items) ≡ configuration_of (take i items) ++ declaration_of x ∷ []
one_taken items i x below is =
    ap (λ (l : List Statement). configuration_of l) (take_more items i x below ∙ ap (λ (y : Statement). take i items ++ y ∷ []) (sym is))
    ∙ map-append declaration_of (take i items) (x ∷ [])
