-- Behind statements of which nothing is refused, what runs agrees with what the rules have seen.
use Rattle.std.proofs.Common.{◌≡◌, ℕ, ◌≤◌, arith, Bool, true, false, if◌then◌else◌, List, [], ◌∷◌, ◌++◌, Option, Some, None, Result, Ok, Err, refl, sym, ap, ◌∙◌, subst}
use Rattle.bits_ip.specs.declared.address.Family.{Family}
use Rattle.conf_ast.specs.declared.named.Name.{Name}
use Rattle.conf_ast.specs.Names.{name_bytes}
use Rattle.conf_ast.specs.Configurations as conf
use Rattle.conf_ast.specs.Configurations.{Routine}
use Rattle.filt_meaning.specs.declared.value.Failure.{Failure}
use Rattle.filt_meaning.specs.Values.{Val}
use Rattle.filt_meaning.specs.Configuration as meaning
use Rattle.filt_meaning.specs.Configuration.{constant, doing, with_constant, with_function}
use Rattle.filt_meaning.specs.Names.{Around, Context}
use Rattle.filt_types.specs.Scenes.{Scene, Signature}
use Rattle.filt_types.specs.Statements.{in_function}
use Rattle.filt_types.specs.Weight.{block_weight, capped}
use Rattle.filt_types.specs.Refused.{signature_in}
use Rattle.filt_laws.specs.Behind as types
use Rattle.filt_laws.specs.Sound.{Agrees, signature_of}
use Rattle.filt_steps.specs.Agreement as steps
use Rattle.filt_steps.specs.Agreement.{Agree, FunctionsAgree}
use Rattle.filt_steps.specs.Configured as counted
use Rattle.filt_steps.specs.Configured.{with_count}
use Rattle.filt_steps.specs.Limits.{ContextIsWithin}
use Rattle.filt_steps.specs.Steps.{Counts, function_steps}
use Rattle.conf_names.specs.declared.refusal.Refusal.{Refusal}
use Rattle.conf_names.specs.Known.{Known}
use Rattle.conf_names.specs.Names.{bgp_stem, own_name, pipe_names, pipe_stem, static_stem}
use Rattle.conf_names.specs.Refusals.{first_in}
use Rattle.conf_rules.specs.Statements.{is_master, refusals}
use Rattle.conf_check.specs.Behind.{at_start, behind, behind_one, context_in, no_route, with_others, with_signature, with_table, with_value}
use Rattle.conf_check.specs.Refused.{or_later, refusal_of}
use Rattle.conf_check.proofs.ConstantValues.{constant_same, seen}
use Rattle.conf_system.specs.Behind.{context_behind, counts_behind, scene_behind}
use Rattle.conf_system.proofs.Fine.{function_fine}

-- what the rules see, what runs and what is counted; beside limits, which rest on what runs alone
pub record Sees (scene : Scene) (c : Context) (fs : Counts) : Type 0 where
  pub agrees : Agrees scene c
  pub functions : FunctionsAgree c.functions scene.functions fs
  pub variables : c.variables ≡ []

agree : (scene : Scene) (c : Context) (fs : Counts) → Sees scene c fs → ContextIsWithin c
    → Agree scene c fs
agree scene c fs s k =
    record { text = s.agrees.source; limits = k; functions = s.functions }

-- ---- names

others_seen : (scene : Scene) (names : List (List ℕ)) (c : Context) (fs : Counts)
    → Sees scene c fs → Sees (with_others scene names) c fs
others_seen scene names c fs s = record {
  agrees = record {
    source = s.agrees.source;
    values = s.agrees.values;
    doings = s.agrees.doings;
  };
  functions = s.functions;
  variables = s.variables;
}

table_seen : (b : Bool) (known : Known) (name : List ℕ) (family : Family) (c : Context)
    (fs : Counts) → Sees known.scene c fs
    → Sees (if b then known else with_table known name family).scene c fs
table_seen true known name family c fs s = s
table_seen false known name family c fs s = others_seen known.scene (name ∷ []) c fs s

-- ---- constants

value_seen : (scene : Scene) (c : Context) (fs : Counts) → Sees scene c fs → (name : List ℕ)
    (v : Result Val Failure) → Sees (with_value scene name v) (with_constant c name v) fs
value_seen scene c fs s name (Err failure) = s
value_seen scene c fs s name (Ok v) = record {
  agrees = record {
    source = s.agrees.source;
    values = ap (λ (xs : List (List ℕ × Val)). xs ++ (name, v) ∷ []) s.agrees.values;
    doings = s.agrees.doings;
  };
  functions = s.functions;
  variables = s.variables;
}

-- a context outside filters, by its parts
by_parts : (c : Context) (text : List ℕ) (constants : List (List ℕ × Val)) → c.text ≡ text
    → c.constants ≡ constants → c.variables ≡ []
    → seen text c.around constants c.functions ≡ c
by_parts c text constants t k v =
    ap (λ (x : List ℕ). seen x c.around constants c.functions) (sym t)
    ∙ ap (λ (x : List (List ℕ × Val)). seen c.text c.around x c.functions) (sym k)
    ∙ ap (λ (x : List (List ℕ)). record {
      text = c.text;
      around = c.around;
      constants = c.constants;
      functions = c.functions;
      variables = x;
    }) (sym v)

-- the value of a constant is the same around each route
same_value : (scene : Scene) (c : Context) (fs : Counts) → Sees scene c fs → (v : conf.Value)
    → constant (context_in scene) v ≡ constant c v
same_value scene c fs s v =
    constant_same scene.text scene.constants no_route c.around [] c.functions v
    ∙ ap (λ (d : Context). constant d v)
    (by_parts c scene.text scene.constants s.agrees.source s.agrees.values s.variables)

-- names are read in one text
same_name : (scene : Scene) (c : Context) (fs : Counts) → Sees scene c fs → (n : Name)
    → name_bytes c.text n ≡ name_bytes scene.text n
same_name scene c fs s n = ap (λ (text : List ℕ). name_bytes text n) s.agrees.source

define_seen : (scene : Scene) (c : Context) (fs : Counts) → Sees scene c fs → (name : Name)
    (v : conf.Value)
    → Sees (with_value scene (name_bytes scene.text name) (constant (context_in scene) v))
    (with_constant c (name_bytes c.text name) (constant c v)) fs
define_seen scene c fs s name v =
    subst
    (λ (r : Result Val Failure).
    Sees (with_value scene (name_bytes scene.text name) r)
    (with_constant c (name_bytes c.text name) (constant c v)) fs)
    (sym (same_value scene c fs s v))
    (subst
    (λ (n : List ℕ).
    Sees (with_value scene n (constant c v))
    (with_constant c (name_bytes c.text name) (constant c v)) fs)
    (same_name scene c fs s name)
    (value_seen scene c fs s (name_bytes c.text name) (constant c v)))

-- ---- the first refusal

none_first : (first later : Option Refusal) → or_later first later ≡ None → first ≡ None
none_first None later e = refl
none_first (Some r) later e = absurd (cc)

none_later : (first later : Option Refusal) → or_later first later ≡ None → later ≡ None
none_later None later e = e
none_later (Some r) later e = absurd (cc)

-- ---- functions, statements, and what stands behind them

not_capped : (n : ℕ) → n ≤ 10000000 → n ≤ capped n
not_capped n h = omega (arith, h)

module _
    (accepted : (rs : List Refusal) → first_in None rs ≡ None → rs ≡ [])
    (typed : (scene : Scene) (c : Context) → Agrees scene c
    → (f : Routine) → in_function scene f ≡ [] → (name : List ℕ) (weight : ℕ)
    → Agrees (types.with_signature scene name (signature_of f weight))
    (with_function c name (doing c f)))
    (weighed : (scene : Scene) (c : Context) (fs : Counts) → Agree scene c fs
    → (f : Routine) (name : List ℕ) (s : Signature) → block_weight scene f.body ≤ s.weight
    → Agree (steps.with_signature scene name s) (with_function c name (doing c f))
    (fs ++ (name, function_steps c fs f) ∷ []))
    (limited : (text : List ℕ) (around : Around) (before : List conf.Declaration)
    → ContextIsWithin (context_behind text around before)) where
  routine_seen : (known : Known) (c : Context) (fs : Counts) → Sees known.scene c fs
      → ContextIsWithin c → (f : Routine) → refusals known (conf.DefineFunction f) ≡ []
      → (name : List ℕ)
      → Sees (with_signature known.scene name (signature_in known.scene f))
      (with_function c name (doing c f)) (fs ++ (name, function_steps c fs f) ∷ [])
  routine_seen known c fs s k f e name =
      let fine = function_fine known f e in
      let same =
      typed known.scene c s.agrees f fine.0 name (capped (block_weight known.scene f.body)) in
      let more =
      weighed known.scene c fs (agree known.scene c fs s k) f name (signature_in known.scene f)
      (not_capped (block_weight known.scene f.body) fine.1) in
      record { agrees = same; functions = more.functions; variables = s.variables }

  one_seen : (d : conf.Declaration) (known : Known) (c : Context) (fs : Counts)
      → Sees known.scene c fs → ContextIsWithin c → refusals known d ≡ []
      → Sees (behind_one known d).scene (meaning.behind_one c d) (with_count c fs d)
  one_seen (conf.RouterId a) known c fs s k e = s
  one_seen conf.Log known c fs s k e = s
  one_seen (conf.Define name v) known c fs s k e = define_seen known.scene c fs s name v
  one_seen (conf.Table at family name) known c fs s k e =
      table_seen (is_master known family name) known (name_bytes known.scene.text name) family c fs
      s
  one_seen (conf.DefineFunction f) known c fs s k e =
      subst
      (λ (n : List ℕ).
      Sees (with_signature known.scene n (signature_in known.scene f))
      (with_function c (name_bytes c.text f.name) (doing c f))
      (fs ++ (name_bytes c.text f.name, function_steps c fs f) ∷ []))
      (same_name known.scene c fs s f.name)
      (routine_seen known c fs s k f e (name_bytes c.text f.name))
  one_seen (conf.DefineFilter at name ss) known c fs s k e =
      others_seen known.scene (name_bytes known.scene.text name ∷ []) c fs s
  one_seen (conf.Device name semicolon) known c fs s k e = s
  one_seen (conf.Static p) known c fs s k e =
      others_seen known.scene (own_name known static_stem p.name ∷ []) c fs s
  one_seen (conf.Bgp p) known c fs s k e =
      others_seen known.scene (own_name known bgp_stem p.name ∷ []) c fs s
  one_seen (conf.Pipe p) known c fs s k e =
      others_seen known.scene (pipe_names (own_name known pipe_stem p.name)) c fs s

  all_seen : (before : List conf.Declaration) (known : Known) (c : Context) (fs : Counts)
      → Sees known.scene c fs
      → ((front : List conf.Declaration) → ContextIsWithin (meaning.behind c front))
      → (more : List conf.Declaration) → refusal_of known (before ++ more) ≡ None
      → Sees (behind known before).scene (meaning.behind c before)
      (counted.counts_behind c fs before)
      × (refusal_of (behind known before) more ≡ None)
  all_seen [] known c fs s k more e = (s, e)
  all_seen (x ∷ before) known c fs s k more e =
      let first = first_in None (refusals known x) in
      let later = refusal_of (behind_one known x) (before ++ more) in
      all_seen before (behind_one known x) (meaning.behind_one c x) (with_count c fs x)
      (one_seen x known c fs s (k []) (accepted (refusals known x) (none_first first later e)))
      (λ front. k (x ∷ front)) more (none_later first later e)

  start_seen : (text : List ℕ) (around : Around)
      → Sees (at_start text).scene (meaning.at_start text around) []
  start_seen text around = record {
    agrees = record { source = refl; values = refl; doings = tt };
    functions = tt;
    variables = refl;
  }

  stands : (text : List ℕ) (ds before more : List conf.Declaration)
      → refusal_of (at_start text) ds ≡ None → ds ≡ before ++ more → (around : Around)
      → Sees (scene_behind text before) (context_behind text around before)
      (counts_behind text around before)
      × (refusal_of (behind (at_start text) before) more ≡ None)
  stands text ds before more e is around =
      all_seen before (at_start text) (meaning.at_start text around) [] (start_seen text around)
      (limited text around) more
      (ap (λ (all : List conf.Declaration). refusal_of (at_start text) all) (sym is) ∙ e)

  pub sorts_agree : (text : List ℕ) (ds before more : List conf.Declaration)
      → refusal_of (at_start text) ds ≡ None → ds ≡ before ++ more → (around : Around)
      → Agrees (scene_behind text before) (context_behind text around before)
  sorts_agree text ds before more e is around = (stands text ds before more e is around).0.agrees

  pub weights_agree : (text : List ℕ) (ds before more : List conf.Declaration)
      → refusal_of (at_start text) ds ≡ None → ds ≡ before ++ more → (around : Around)
      → Agree (scene_behind text before) (context_behind text around before)
      (counts_behind text around before)
  weights_agree text ds before more e is around =
      agree (scene_behind text before) (context_behind text around before)
      (counts_behind text around before) (stands text ds before more e is around).0
      (limited text around before)

  pub none_refused : (text : List ℕ) (ds before more : List conf.Declaration)
      (d : conf.Declaration) → refusal_of (at_start text) ds ≡ None → ds ≡ before ++ d ∷ more
      → refusals (behind (at_start text) before) d ≡ []
  none_refused text ds before more d e is =
      let known = behind (at_start text) before in
      accepted (refusals known d)
      (none_first (first_in None (refusals known d)) (refusal_of (behind_one known d) more)
      (stands text ds before (d ∷ more) e is no_route).1)
