-- Scopes that declare one thing more, or none.
use Rattle.std.proofs.Common.{◌≡◌, ℕ, ◌≤◌, All, List, [], ◌∷◌, ◌++◌, length, map, Option, Some, None, Result, Ok, Err, refl, sym, ap, subst, ◌∙◌, arith, append-nil, append_assoc, length-append, Vec}
use Rattle.std.specs.Global.{Global}
use Rattle.std.specs.Result.{result_ok}
use Rattle.std.proofs.lemmas.List.{map-append}
use Rattle.std.proofs.lemmas.List.Elements.{All-push}
use Rattle.bits_ip.specs.declared.address.Family.{Family}
use Rattle.conf_ast.specs.declared.named.Name.{Name}
use Rattle.conf_ast.specs.Names.{name_bytes}
use Rattle.conf_ast.specs.Configurations as conf
use Rattle.conf_ast.specs.Configurations.{Instance, PipeSetting, Routine}
use Rattle.filt_meaning.specs.declared.fixed.Fixed.{Fixed}
use Rattle.filt_meaning.specs.declared.value.Failure.{Failure}
use Rattle.filt_meaning.specs.Seen.{val_of_fixed}
use Rattle.filt_meaning.specs.Values.{Val}
use Rattle.filt_meaning.specs.Configuration as meaning
use Rattle.filt_meaning.specs.Configuration.{constant, doing}
use Rattle.filt_meaning.specs.Names.{Around, Context, Doing}
use Rattle.filt_meaning.specs.declared.scope.Scope.{Scope}
use Rattle.filt_meaning.specs.declared.scope.TFunction.{TFunction}
use Rattle.filt_meaning.specs.Scopes.{constant_values, constants_in, context_of, function_names, function_trees, named, tables_of}
use Rattle.filt_meaning.specs.Steps.{IsLight}
use Rattle.filt_meaning.specs.Trees.{function, tables}
use Rattle.filt_types.specs.Scenes.{Signature}
use Rattle.filt_types.specs.Seen.{functions_in, scene_of, signature_of}
use Rattle.filt_types.specs.Refused.{signature_in}
use Rattle.filt_check.proofs.Growing.{constant_declared, function_declared}
use Rattle.conf_names.specs.declared.declared.Declared.{Declared}
use Rattle.conf_names.specs.declared.joints.Joint.{Joint}
use Rattle.conf_names.specs.Known.{Known}
use Rattle.conf_rules.specs.Protocols.{joint_of}
use Rattle.conf_names.specs.Names.{own_name, pipe_names, pipe_stem}
use Rattle.conf_names.specs.Seen.{known_of}
use Rattle.conf_check.specs.Behind.{behind_one, context_in, no_route, with_filter, with_others, with_pipe, with_protocol, with_scene, with_table, with_value}
use Rattle.conf_check.specs.Checked.{AreLight, AreLightBehind}
use Rattle.conf_check.specs.Seen.{AreWithin, Declares, Grows, Joins, Stays, counted, other_names}
use Rattle.conf_check.proofs.Names.{nothing}
use Rattle.conf_check.proofs.ConstantValues.{constant_same, given_none, given_some}

abbrev Constants : Type 0
Constants = List (Vec ℕ Global × Fixed)

abbrev Functions : Type 0
Functions = List (Vec ℕ Global × TFunction)

-- ---- scopes that stay

abbrev context_by : List ℕ → Around → Constants → Functions → Context
context_by text around cs fs = record {
  text = text;
  around = around;
  constants = map (λ (e : Vec ℕ Global × Fixed). (e.0.items, val_of_fixed e.1)) cs;
  functions = named (map (λ (e : Vec ℕ Global × TFunction). e.0.items) fs) (tables around (map (λ (e : Vec ℕ Global × Fixed). e.1) cs) (map (λ (e : Vec ℕ Global × TFunction). e.1) fs)).functions;
  variables = [];
}

abbrev within_by : Constants → Functions → Type 0
within_by cs fs = All (λ (f : TFunction). f.constants ≤ length (map (λ (e : Vec ℕ Global × Fixed). e.1) cs)) (map (λ (e : Vec ℕ Global × TFunction). e.1) fs)

pub stays_context : (text : List ℕ) (around : Around) (scope after : Scope) → Stays scope after → context_of text around after [] ≡ context_of text around scope []
stays_context text around scope after s =
    ap (λ (cs : Constants). context_by text around cs after.functions.entries) s.constants ∙ ap (λ (fs : Functions). context_by text around scope.constants.entries fs) s.functions

pub stays_within : (scope after : Scope) → Stays scope after → AreWithin scope → AreWithin after
stays_within scope after s h =
    subst (λ (cs : Constants). within_by cs after.functions.entries) (sym s.constants) (subst (λ (fs : Functions). within_by scope.constants.entries fs) (sym s.functions) h)

-- ---- functions that take few steps

stays_light : (scope after : Scope) → Stays scope after → AreLight (function_trees scope) → AreLight (function_trees after)
stays_light scope after s h = subst (λ (fs : Functions). AreLight (map (λ (e : Vec ℕ Global × TFunction). e.1) fs)) (sym s.functions) h

light_push : (before fs : List TFunction) (f : TFunction) → AreLightBehind before fs → ((more : List TFunction) → IsLight (before ++ (fs ++ more)) f) → AreLightBehind before (fs ++ f ∷ [])
light_push before [] f h new = (new, tt)
light_push before (g ∷ fs) f h new = (h.0, light_push (before ++ g ∷ []) fs f h.1 (λ more. subst (λ (l : List TFunction). IsLight l f) (sym (append_assoc before (g ∷ []) (fs ++ more))) (new more)))

pub stays_grows : (scope after : Scope) → Stays scope after → Grows scope after
stays_grows scope after s = record {
  constants = ([], ap (λ (cs : Constants). map (λ (e : Vec ℕ Global × Fixed). e.1) cs) s.constants ∙ sym (append-nil (constant_values scope)));
  functions = ([], ap (λ (fs : Functions). map (λ (e : Vec ℕ Global × TFunction). e.1) fs) s.functions ∙ sym (append-nil (function_trees scope)));
}

-- a statement that the meaning of filters doesn't look at
pub stays_declares : (text : List ℕ) (d : conf.Declaration) (old new : Declared) → known_of text new ≡ behind_one (known_of text old) d → ((c : Context) → meaning.behind_one c d ≡ c) → Stays old.scope new.scope → Declares text d old new
stays_declares text d old new known same s = record {
  known = known;
  grows = stays_grows old.scope new.scope s;
  sees = λ within around. stays_context text around old.scope new.scope s ∙ sym (same (context_of text around old.scope []));
  within = stays_within old.scope new.scope s;
  light = stays_light old.scope new.scope s;
}

-- ---- known things

pub known_by : (text : List ℕ) (cs ks : List (List ℕ × Val)) (fs gs : List (List ℕ × Signature)) (os ps : List (List ℕ)) (ts us : List (List ℕ × Family)) (ns ms : List (List ℕ)) (n m : ℕ) (js is : List Joint)
    → cs ≡ ks → fs ≡ gs → os ≡ ps → ts ≡ us → ns ≡ ms → n ≡ m → js ≡ is
    → ◌≡◌ {A = Known} (record { scene = record { text = text; constants = cs; functions = fs; others = os }; tables = ts; filters = ns; protocols = n; pipes = js }) (record { scene = record { text = text; constants = ks; functions = gs; others = ps }; tables = us; filters = ms; protocols = m; pipes = is })
known_by text cs ks fs gs os ps ts us ns ms n m js is a b c d e f g = rw (a, b, c, d, e, f, g) refl

pub empty_known : (text : List ℕ) (d : Declared) → d.scope.constants.entries ≡ [] → d.scope.functions.entries ≡ [] → d.scope.others.keys ≡ [] → d.tables.entries ≡ [] → d.filters.keys ≡ [] → d.protocols ≡ 0 → d.pipes.items ≡ [] → known_of text d ≡ nothing text
empty_known text d a b c e f g h = known_by text (constants_in d.scope) [] (functions_in d.scope) [] (other_names d.scope) [] (known_of text d).tables [] (known_of text d).filters [] d.protocols 0 d.pipes.items []
    (ap (λ (l : Constants). map (λ (x : Vec ℕ Global × Fixed). (x.0.items, val_of_fixed x.1)) l) a) (ap (λ (l : Functions). map (λ (x : Vec ℕ Global × TFunction). (x.0.items, signature_of x.1)) l) b) (ap (λ (l : List (Vec ℕ Global)). map (λ (k : Vec ℕ Global). k.items) l) c)
    (ap (λ (l : List (Vec ℕ Global × Family)). map (λ (x : Vec ℕ Global × Family). (x.0.items, x.1)) l) e) (ap (λ (l : List (Vec ℕ Global)). map (λ (k : Vec ℕ Global). k.items) l) f) g h

-- ---- one constant more

joined_map : {A B : Type 0} (f : Vec ℕ Global × A → B) (name : List ℕ) (a : A) (old new : List (Vec ℕ Global × A)) (j : Joins name a old new) → map f new ≡ map f old ++ f (j.0, a) ∷ []
joined_map f name a old new j = ap (λ (l : List _). map f l) j.2 ∙ map-append f old ((j.0, a) ∷ [])

within_more : (n m : ℕ) (fs : List TFunction) → n ≤ m → All (λ (f : TFunction). f.constants ≤ n) fs → All (λ (f : TFunction). f.constants ≤ m) fs
within_more n m fs le h = λ k d below. omega (arith, le, h k d below)

-- the same declared things over another scope
abbrev pub over_scope : Declared → Scope → Declared
over_scope declared after = record { scope = after; tables = declared.tables; filters = declared.filters; protocols = declared.protocols; pipes = declared.pipes }

module _ (text name : List ℕ) (old : Declared) (after : Scope) (v : Fixed) (joins : Joins name v old.scope.constants.entries after.constants.entries) (same : after.functions.entries ≡ old.scope.functions.entries) where
  constants_more : constant_values after ≡ constant_values old.scope ++ v ∷ []
  constants_more = joined_map (λ (e : Vec ℕ Global × Fixed). e.1) name v old.scope.constants.entries after.constants.entries joins

  shown_more : constants_in after ≡ constants_in old.scope ++ (name, val_of_fixed v) ∷ []
  shown_more = joined_map (λ (e : Vec ℕ Global × Fixed). (e.0.items, val_of_fixed e.1)) name v old.scope.constants.entries after.constants.entries joins
      ∙ ap (λ (n : List ℕ). constants_in old.scope ++ (n, val_of_fixed v) ∷ []) joins.1

  functions_same : {B : Type 0} (f : Vec ℕ Global × TFunction → B) → map f after.functions.entries ≡ map f old.scope.functions.entries
  functions_same f = ap (λ (l : Functions). map f l) same

  constant_grows : Grows old.scope after
  constant_grows = record { constants = (v ∷ [], constants_more); functions = ([], functions_same (λ (e : Vec ℕ Global × TFunction). e.1) ∙ sym (append-nil (function_trees old.scope))) }

  constant_within : AreWithin old.scope → AreWithin after
  constant_within h =
      subst (λ (fs : List TFunction). All (λ (f : TFunction). f.constants ≤ length (constant_values after)) fs) (sym (functions_same (λ (e : Vec ℕ Global × TFunction). e.1)))
      (within_more (length (constant_values old.scope)) (length (constant_values after)) (function_trees old.scope) (omega (arith, ap (λ (l : List Fixed). length l) constants_more, length-append (constant_values old.scope) (v ∷ []))) h)

  constant_light : AreLight (function_trees old.scope) → AreLight (function_trees after)
  constant_light h = subst AreLight (sym (functions_same (λ (e : Vec ℕ Global × TFunction). e.1))) h

  constant_seen : (around : Around) → AreWithin old.scope → context_of text around after [] ≡ meaning.with_constant (context_of text around old.scope []) name (Ok (val_of_fixed v))
  constant_seen around within = constant_declared text around old.scope after joins.0 v [] joins.2 same within
      ∙ ap (λ (n : List ℕ). meaning.with_constant (context_of text around old.scope []) n (Ok (val_of_fixed v))) joins.1

  constant_known : other_names after ≡ other_names old.scope → known_of text (over_scope old after) ≡ with_scene (known_of text old) (with_value (scene_of text old.scope) name (Ok (val_of_fixed v)))
  constant_known others = known_by text (constants_in after) (constants_in old.scope ++ (name, val_of_fixed v) ∷ []) (functions_in after) (functions_in old.scope) (other_names after) (other_names old.scope) (known_of text old).tables (known_of text old).tables (known_of text old).filters (known_of text old).filters old.protocols old.protocols old.pipes.items old.pipes.items
      shown_more (functions_same (λ (e : Vec ℕ Global × TFunction). (e.0.items, signature_of e.1))) others refl refl refl refl

-- the value of a constant, as the rules see the constants before it
value_seen : (text : List ℕ) (scope : Scope) (v : conf.Value) (around : Around) → constant (context_of text around scope []) v ≡ constant (context_in (scene_of text scope)) v
value_seen text scope v around = constant_same text (constants_in scope) around no_route (named (function_names scope) (tables_of around scope).functions) [] v

pub constant_declares : (text : List ℕ) (name : Name) (old : Declared) (after : Scope) (value : conf.Value) (v : Fixed) → Joins (name_bytes text name) v old.scope.constants.entries after.constants.entries → after.functions.entries ≡ old.scope.functions.entries → other_names after ≡ other_names old.scope
    → ((around : Around) → Some (val_of_fixed v) ≡ result_ok (constant (context_of text around old.scope []) value)) → Declares text (conf.Define name value) old (over_scope old after)
constant_declares text name old after value v joins same others is =
    let bytes = name_bytes text name in
    let given : (around : Around) → constant (context_of text around old.scope []) value ≡ Ok (val_of_fixed v) = λ around. given_some (constant (context_of text around old.scope []) value) (val_of_fixed v) (is around) in
    record {
      known = constant_known text bytes old after v joins same others
          ∙ ap (λ (r : Result Val Failure). with_scene (known_of text old) (with_value (scene_of text old.scope) bytes r)) (sym (given no_route) ∙ value_seen text old.scope value no_route);
      grows = constant_grows text bytes old after v joins same;
      sees = λ within around. constant_seen text bytes old after v joins same around within
          ∙ ap (λ (r : Result Val Failure). meaning.with_constant (context_of text around old.scope []) bytes r) (sym (given around));
      within = constant_within text bytes old after v joins same;
      light = constant_light text bytes old after v joins same;
    }

-- what has no value declares nothing
pub nothing_defined : (text : List ℕ) (name : Name) (old : Declared) (value : conf.Value) → ((around : Around) → None ≡ result_ok (constant (context_of text around old.scope []) value)) → Declares text (conf.Define name value) old old
nothing_defined text name old value is =
    let bytes = name_bytes text name in
    let given : (around : Around) → (failure : Failure) × (constant (context_of text around old.scope []) value ≡ Err failure) = λ around. given_none (constant (context_of text around old.scope []) value) (is around) in
    record {
      known = ap (λ (r : Result Val Failure). with_scene (known_of text old) (with_value (scene_of text old.scope) bytes r)) (sym (given no_route).1 ∙ value_seen text old.scope value no_route);
      grows = stays_grows old.scope old.scope (record { constants = refl; functions = refl });
      sees = λ within around. ap (λ (r : Result Val Failure). meaning.with_constant (context_of text around old.scope []) bytes r) (sym (given around).1);
      within = λ h. h;
      light = λ h. h;
    }

-- ---- one function more

pub function_declares : (text : List ℕ) (old : Declared) (after : Scope) (r : Routine) (f : TFunction) → Joins (name_bytes text r.name) f old.scope.functions.entries after.functions.entries → after.constants.entries ≡ old.scope.constants.entries → other_names after ≡ other_names old.scope
    → signature_of f ≡ signature_in (scene_of text old.scope) r → ((around : Around) → function (tables_of around old.scope) f ≡ doing (context_of text around old.scope []) r) → f.constants ≡ length (constant_values old.scope) → ((more : List TFunction) → IsLight (function_trees old.scope ++ more) f) → Declares text (conf.DefineFunction r) old (over_scope old after)
function_declares text old after r f joins same others signature does sees light =
    let bytes = name_bytes text r.name in
    let trees : function_trees after ≡ function_trees old.scope ++ f ∷ [] = joined_map (λ (e : Vec ℕ Global × TFunction). e.1) bytes f old.scope.functions.entries after.functions.entries joins in
    let values : constant_values after ≡ constant_values old.scope = ap (λ (l : Constants). map (λ (e : Vec ℕ Global × Fixed). e.1) l) same in
    let shown : functions_in after ≡ functions_in old.scope ++ (bytes, signature_in (scene_of text old.scope) r) ∷ [] =
    joined_map (λ (e : Vec ℕ Global × TFunction). (e.0.items, signature_of e.1)) bytes f old.scope.functions.entries after.functions.entries joins
    ∙ ap (λ (n : List ℕ). functions_in old.scope ++ (n, signature_of f) ∷ []) joins.1 ∙ ap (λ (x : Signature). functions_in old.scope ++ (bytes, x) ∷ []) signature in
    record {
      known = known_by text (constants_in after) (constants_in old.scope) (functions_in after) (functions_in old.scope ++ (bytes, signature_in (scene_of text old.scope) r) ∷ []) (other_names after) (other_names old.scope) (known_of text old).tables (known_of text old).tables (known_of text old).filters (known_of text old).filters old.protocols old.protocols old.pipes.items old.pipes.items
          (ap (λ (l : Constants). map (λ (e : Vec ℕ Global × Fixed). (e.0.items, val_of_fixed e.1)) l) same) shown others refl refl refl refl;
      grows = record { constants = ([], values ∙ sym (append-nil (constant_values old.scope))); functions = (f ∷ [], trees) };
      sees = λ within around. function_declared text around old.scope after joins.0 f [] same joins.2
          ∙ ap (λ (n : List ℕ). meaning.with_function (context_of text around old.scope []) n (function (tables_of around old.scope) f)) joins.1
          ∙ ap (λ (d : Doing). meaning.with_function (context_of text around old.scope []) bytes d) (does around);
      within = λ h. subst (λ (cs : List Fixed). All (λ (g : TFunction). g.constants ≤ length cs) (function_trees after)) (sym values)
          (subst (λ (fs : List TFunction). All (λ (g : TFunction). g.constants ≤ length (constant_values old.scope)) fs) (sym trees)
          (All-push (λ (g : TFunction). g.constants ≤ length (constant_values old.scope)) (function_trees old.scope) f h (omega (arith, sees))));
      light = λ h. subst AreLight (sym trees) (light_push [] (function_trees old.scope) f h light);
    }

-- ---- tables, filters and protocols

pub scope_known : (text : List ℕ) (old : Declared) (after : Scope) (names : List (List ℕ)) → Stays old.scope after → other_names after ≡ other_names old.scope ++ names → known_of text (over_scope old after) ≡ with_scene (known_of text old) (with_others (scene_of text old.scope) names)
scope_known text old after names s others = known_by text (constants_in after) (constants_in old.scope) (functions_in after) (functions_in old.scope) (other_names after) (other_names old.scope ++ names) (known_of text old).tables (known_of text old).tables (known_of text old).filters (known_of text old).filters old.protocols old.protocols old.pipes.items old.pipes.items
    (ap (λ (l : Constants). map (λ (e : Vec ℕ Global × Fixed). (e.0.items, val_of_fixed e.1)) l) s.constants) (ap (λ (l : Functions). map (λ (e : Vec ℕ Global × TFunction). (e.0.items, signature_of e.1)) l) s.functions) others refl refl refl refl

pub protocol_declares : (text : List ℕ) (d : conf.Declaration) (old new : Declared) (after : Scope) (names : List (List ℕ)) → behind_one (known_of text old) d ≡ with_protocol (known_of text old) names → ((c : Context) → meaning.behind_one c d ≡ c)
    → Stays old.scope after → other_names after ≡ other_names old.scope ++ names → new.scope ≡ after → known_of text new ≡ counted (known_of text (over_scope old after)) → Declares text d old new
protocol_declares text d old new after names is same s others scope known =
    stays_declares text d old new (known ∙ ap counted (scope_known text old after names s others) ∙ sym is) same (subst (λ (x : Scope). Stays old.scope x) (sym scope) s)

pub no_joint_known : (text : List ℕ) (declared : Declared) → known_of text declared ≡ with_pipe (known_of text declared) None
no_joint_known text declared = known_by text _ _ _ _ _ _ _ _ _ _ _ _ declared.pipes.items (declared.pipes.items ++ []) refl refl refl refl refl refl (sym (append-nil declared.pipes.items))

pub pipe_declares : (text : List ℕ) (p : Instance PipeSetting) (old mid new : Declared) (after : Scope) (joint : Option Joint) → joint ≡ joint_of (known_of text old) p.settings
    → Stays old.scope after → other_names after ≡ other_names old.scope ++ pipe_names (own_name (known_of text old) pipe_stem p.name) → mid.scope ≡ after → known_of text mid ≡ counted (known_of text (over_scope old after)) → new.scope ≡ mid.scope → known_of text new ≡ with_pipe (known_of text mid) joint → Declares text (conf.Pipe p) old new
pipe_declares text p old mid new after joint is s others scope known scopes knowns =
    let names = pipe_names (own_name (known_of text old) pipe_stem p.name) in
    stays_declares text (conf.Pipe p) old new
    (knowns ∙ ap (λ (k : Known). with_pipe k joint) (known ∙ ap counted (scope_known text old after names s others)) ∙ ap (λ (j : Option Joint). with_pipe (with_protocol (known_of text old) names) j) is)
    (λ x. refl) (subst (λ (x : Scope). Stays old.scope x) (sym (scopes ∙ scope)) s)

pub table_known : (text : List ℕ) (old : Declared) (after : Scope) (name : List ℕ) (family : Family) (news : List (Vec ℕ Global × Family)) → Stays old.scope after → other_names after ≡ other_names old.scope ++ name ∷ [] → Joins name family old.tables.entries news
    → ◌≡◌ {A = Known} (record { scene = scene_of text after; tables = map (λ (e : Vec ℕ Global × Family). (e.0.items, e.1)) news; filters = (known_of text old).filters; protocols = old.protocols; pipes = old.pipes.items }) (with_table (known_of text old) name family)
table_known text old after name family news s others joins = known_by text (constants_in after) (constants_in old.scope) (functions_in after) (functions_in old.scope) (other_names after) (other_names old.scope ++ name ∷ []) (map (λ (e : Vec ℕ Global × Family). (e.0.items, e.1)) news) ((known_of text old).tables ++ (name, family) ∷ []) (known_of text old).filters (known_of text old).filters old.protocols old.protocols old.pipes.items old.pipes.items
    (ap (λ (l : Constants). map (λ (e : Vec ℕ Global × Fixed). (e.0.items, val_of_fixed e.1)) l) s.constants) (ap (λ (l : Functions). map (λ (e : Vec ℕ Global × TFunction). (e.0.items, signature_of e.1)) l) s.functions) others
    (joined_map (λ (e : Vec ℕ Global × Family). (e.0.items, e.1)) name family old.tables.entries news joins ∙ ap (λ (n : List ℕ). (known_of text old).tables ++ (n, family) ∷ []) joins.1) refl refl refl

pub filter_known : (text : List ℕ) (old : Declared) (after : Scope) (name : List ℕ) (news : List (Vec ℕ Global)) → Stays old.scope after → other_names after ≡ other_names old.scope ++ name ∷ [] → map (λ (k : Vec ℕ Global). k.items) news ≡ (known_of text old).filters ++ name ∷ []
    → ◌≡◌ {A = Known} (record { scene = scene_of text after; tables = (known_of text old).tables; filters = map (λ (k : Vec ℕ Global). k.items) news; protocols = old.protocols; pipes = old.pipes.items }) (with_filter (known_of text old) name)
filter_known text old after name news s others filters = known_by text (constants_in after) (constants_in old.scope) (functions_in after) (functions_in old.scope) (other_names after) (other_names old.scope ++ name ∷ []) (known_of text old).tables (known_of text old).tables (map (λ (k : Vec ℕ Global). k.items) news) ((known_of text old).filters ++ name ∷ []) old.protocols old.protocols old.pipes.items old.pipes.items
    (ap (λ (l : Constants). map (λ (e : Vec ℕ Global × Fixed). (e.0.items, val_of_fixed e.1)) l) s.constants) (ap (λ (l : Functions). map (λ (e : Vec ℕ Global × TFunction). (e.0.items, signature_of e.1)) l) s.functions) others refl filters refl refl

pub stays_twice : (scope between after : Scope) → Stays scope between → Stays between after → Stays scope after
stays_twice scope between after a b = record { constants = b.constants ∙ a.constants; functions = b.functions ∙ a.functions }
