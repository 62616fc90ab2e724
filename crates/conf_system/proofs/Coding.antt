-- What the code of filters comes to and says.
use Rattle.std.proofs.Common.{◌≡◌, ◌∙◌, sym, ap, subst, refl, ℕ, zero, suc, ◌+◌, ◌<◌, ◌≤◌, nat_lt, All, List, [], ◌∷◌, ◌++◌, Option, Some, get_or, length, map, take, append-nil, arith}
use Rattle.std.proofs.Math.Path.{fun_ext}
use Rattle.std.proofs.lemmas.Bool.{ltb-true}
use Rattle.std.proofs.lemmas.List.{map-append, take_more}
use Rattle.std.proofs.lemmas.List.Elements.{All-cons, All-push}
use Rattle.std.specs.Borrow.{Bor}
use Rattle.std.specs.Prelude.{IfSome, is_some, slice_get}
use Rattle.attrs.specs.declared.attributes.Attrs.{Attrs}
use Rattle.filt_code.specs.Codes.{IsNeverStuck, code_flow}
use Rattle.filt_code.specs.declared.code.Draft.{Draft}
use Rattle.filt_code.specs.declared.code.Routine.{Routine}
use Rattle.conf_check.specs.Checked as checks
use Rattle.filt_compile.specs.Compiles.{AreCompiled, AreLight, CostTheirSteps, CostsItsSteps, draft_cost}
use Rattle.filt_compile.proofs.Compiling.{filter_costs}
use Rattle.filt_meaning.specs.Configuration.{around_route, verdict_of}
use Rattle.filt_meaning.specs.Flow.{Flow, Frame, Stopped, Stuck}
use Rattle.filt_meaning.specs.Names.{Around}
use Rattle.filt_meaning.specs.Steps.{IsLight, filter_steps}
use Rattle.filt_meaning.specs.Scopes.{constant_values, function_trees}
use Rattle.filt_meaning.specs.Trees.{AreBefore, tree_flow}
use Rattle.filt_meaning.specs.declared.scope.Scope.{Scope}
use Rattle.filt_meaning.specs.declared.scope.TFunction.{TFunction}
use Rattle.filt_meaning.specs.declared.tree.TFilter.{TFilter}
use Rattle.filt_meaning.specs.declared.fixed.Fixed.{Fixed}
use Rattle.conf_system.specs.Coded.{AllCanRun, CanRun, CostTheirFilters, HasCode, CanRunOver}
use Rattle.conf_system.specs.Policies.{Filter}
use Rattle.conf_system.specs.Seen.{draft_flow, draft_says, drafted, filter_flow, filter_says, flow_over, numbered}
use Rattle.conf_system.specs.declared.code.Code.{Code}
use Rattle.conf_system.specs.declared.system.System.{System as Held}

-- ---- one filter

-- what code or a tree comes to, around each route
abbrev Flows : Type 0
Flows = Around → Attrs → Flow Frame

abbrev NeverStuck : Flows → Type 0
NeverStuck flows = (around : Around) (attrs after : Attrs) → flows around attrs ≡ Stopped Stuck after → ⊥

-- what it says
abbrev says_by : (names : List (List ℕ)) → Flows → Filter
says_by names flows net route = verdict_of (flows (around_route names net route) route.attrs)

draft_agrees : (functions : List Routine) (constants : List Fixed) (ts : List TFunction) (draft : Draft) (f : TFilter)
    → ((around : Around) (attrs : Attrs) → code_flow around functions draft attrs ≡ tree_flow around constants ts f attrs)
    → draft_flow functions draft ≡ flow_over constants ts f
draft_agrees functions constants ts draft f is = fun_ext (λ around. fun_ext (λ attrs. is around attrs))

-- what is owed of the code of a filter, over these constants and functions
abbrev pub Compiles : List Fixed → List Routine → TFilter → Draft → Type 0
Compiles constants functions f draft = (ts : List TFunction) → AreCompiled constants [] ts functions → AreBefore ts f → (around : Around) (attrs : Attrs) → code_flow around functions draft attrs ≡ tree_flow around constants ts f attrs

-- the code of a filter that is held comes to what the filter comes to
compiled_flows : (held : Held) (code : Code) (constants : List Fixed) (functions : List Routine) (f : TFilter) (draft : Draft) → HasCode held code → constants ≡ constant_values held.checked.declared.scope → functions ≡ code.functions.items → CanRunOver held f
    → Compiles constants functions f draft → draft_flow code.functions.items draft ≡ filter_flow held.checked.declared.scope f
compiled_flows held code constants functions f draft has cs fs can is =
    let scope = held.checked.declared.scope in
    draft_agrees code.functions.items (constant_values scope) (function_trees scope) draft f
    (subst (λ (l : List Fixed). Compiles l code.functions.items f draft) cs (subst (λ (l : List Routine). Compiles constants l f draft) fs is) (function_trees scope) has.functions can.before)

-- so it says what the filter says
pub compiled_says : (held : Held) (code : Code) (constants : List Fixed) (functions : List Routine) (f : TFilter) (draft : Draft) → HasCode held code → constants ≡ constant_values held.checked.declared.scope → functions ≡ code.functions.items → CanRunOver held f
    → Compiles constants functions f draft → draft_says code.functions.items held.names draft ≡ filter_says held f
compiled_says held code constants functions f draft has cs fs can is =
    ap (λ (l : Flows). says_by held.names l) (compiled_flows held code constants functions f draft has cs fs can is)

-- and is never stuck where the filter isn't
pub compiled_never_stuck : (held : Held) (code : Code) (constants : List Fixed) (functions : List Routine) (f : TFilter) (draft : Draft) → HasCode held code → constants ≡ constant_values held.checked.declared.scope → functions ≡ code.functions.items → CanRunOver held f
    → Compiles constants functions f draft → IsNeverStuck code.functions.items draft
compiled_never_stuck held code constants functions f draft has cs fs can is =
    subst NeverStuck (sym (compiled_flows held code constants functions f draft has cs fs can is)) can.never_stuck

-- ---- several

-- one of several, over trees that its functions do
pub drafted_as : (constants : List Fixed) (functions : List Routine) (filters : List TFilter) (i : ℕ) (f : TFilter) (draft : Draft) (ts : List TFunction) → i < length filters → f ≡ get_or filters i f → AreCompiled constants [] ts functions → All (AreBefore ts) filters
    → Compiles constants functions f draft → draft_flow functions draft ≡ flow_over constants ts f
drafted_as constants functions filters i f draft ts below is compiled all does =
    draft_agrees functions constants ts draft f (does ts compiled (subst (λ (x : TFilter). AreBefore ts x) (sym is) (all i f below)))

-- one filter more
pub drafts_more : (functions : List Routine) (constants : List Fixed) (ts : List TFunction) (drafts new : List Draft) (draft : Draft) (fs : List TFilter) (i : ℕ) (f : TFilter) → i < length fs → f ≡ get_or fs i f → new ≡ drafts ++ draft ∷ []
    → map (draft_flow functions) drafts ≡ map (flow_over constants ts) (take i fs) → draft_flow functions draft ≡ flow_over constants ts f
    → map (draft_flow functions) new ≡ map (flow_over constants ts) (take (i + 1) fs)
drafts_more functions constants ts drafts new draft fs i f below item grown are is =
    ap (λ (l : List Draft). map (draft_flow functions) l) grown
    ∙ map-append (draft_flow functions) drafts (draft ∷ [])
    ∙ ap (λ (l : List Flows). l ++ draft_flow functions draft ∷ []) are
    ∙ ap (λ (x : Flows). map (flow_over constants ts) (take i fs) ++ x ∷ []) is
    ∙ sym (map-append (flow_over constants ts) (take i fs) (f ∷ []))
    ∙ ap (λ (l : List TFilter). map (flow_over constants ts) l) (ap (λ (x : TFilter). take i fs ++ x ∷ []) item ∙ sym (take_more fs i f below))

head_same : (x y : Flows) (xs ys : List Flows) → x ∷ xs ≡ y ∷ ys → x ≡ y
head_same x y xs ys is = cc

tail_same : (x y : Flows) (xs ys : List Flows) → x ∷ xs ≡ y ∷ ys → xs ≡ ys
tail_same x y xs ys is = cc

-- ---- a filter by its number

pub drafted_says : (functions : List Routine) (scope : Scope) (filters : List TFilter) (names : List (List ℕ)) (drafts : List Draft) (fs : List TFilter) → map (draft_flow functions) drafts ≡ map (filter_flow scope) fs → (n : ℕ)
    → drafted functions names (slice_get drafts n) ≡ numbered scope filters names (slice_get fs n)
drafted_says functions scope filters names [] [] are n = fun_ext (λ net. fun_ext (λ route. refl))
drafted_says functions scope filters names [] (f ∷ fs) are n = absurd (omega (arith, ap (λ (l : List Flows). length l) are))
drafted_says functions scope filters names (d ∷ drafts) [] are n = absurd (omega (arith, ap (λ (l : List Flows). length l) are))
drafted_says functions scope filters names (d ∷ drafts) (f ∷ fs) are zero =
    ap (λ (l : Flows). says_by names l) (head_same (draft_flow functions d) (filter_flow scope f) (map (draft_flow functions) drafts) (map (filter_flow scope) fs) are)
drafted_says functions scope filters names (d ∷ drafts) (f ∷ fs) are (suc n) =
    drafted_says functions scope filters names drafts fs (tail_same (draft_flow functions d) (filter_flow scope f) (map (draft_flow functions) drafts) (map (filter_flow scope) fs) are) n

-- the code of filters that can run is never stuck
all_never_stuck : (functions : List Routine) (scope : Scope) (drafts : List Draft) (fs : List TFilter) → map (draft_flow functions) drafts ≡ map (filter_flow scope) fs → All (CanRun scope) fs → All (IsNeverStuck functions) drafts
all_never_stuck functions scope [] fs are can = λ k d below. absurd (omega (arith, below))
all_never_stuck functions scope (d ∷ drafts) [] are can = absurd (omega (arith, ap (λ (l : List Flows). length l) are))
all_never_stuck functions scope (d ∷ drafts) (f ∷ fs) are can =
    All-cons (IsNeverStuck functions) d drafts
    (subst NeverStuck (sym (head_same (draft_flow functions d) (filter_flow scope f) (map (draft_flow functions) drafts) (map (filter_flow scope) fs) are)) (can 0 f (omega arith)).never_stuck)
    (all_never_stuck functions scope drafts fs (tail_same (draft_flow functions d) (filter_flow scope f) (map (draft_flow functions) drafts) (map (filter_flow scope) fs) are) (λ k x below. can (suc k) x (omega (arith, below))))

pub coded_never_stuck : (held : Held) (code : Code) → HasCode held code → All (IsNeverStuck code.functions.items) code.filters.items
coded_never_stuck held code has = all_never_stuck code.functions.items held.checked.declared.scope code.filters.items held.checked.filters.items has.filters has.ordered.filters

-- what holds of each holds of the one that is found at a place
pub of_place : {A : Type 0} (P : A → Type 0) (ys xs : List A) (n : ℕ) (r : Option (Bor A)) (x : Bor A) → r ≡ Some x → ys ≡ xs → All P xs
    → is_some r ≡ nat_lt n (length ys) → IfSome r (λ x. x.now ≡ get_or ys n x.now) → P x.now
of_place P ys xs n r x is same all found held =
    let below : n < length ys = ltb-true n (length ys) (sym found ∙ ap (λ (o : Option (Bor _)). is_some o) is) in
    let there : x.now ≡ get_or ys n x.now = subst (λ (o : Option (Bor _)). IfSome o (λ x. x.now ≡ get_or ys n x.now)) is held in
    let each : All P ys = subst (λ (l : List _). All P l) (sym same) all in
    subst P (sym there) (each n x.now below)

-- ---- costs

-- one filter more
pub drafts_cost : (functions : List Routine) (drafts new : List Draft) (draft : Draft) (fs : List TFilter) (i : ℕ) (f : TFilter) → i < length fs → f ≡ get_or fs i f → new ≡ drafts ++ draft ∷ []
    → CostTheirFilters functions fs drafts → CostsItsSteps f.sorts.items f.body.items draft.code.items → CostTheirFilters functions fs new
drafts_cost functions drafts new draft fs i f below item grown are own = λ trees theirs light most all.
    let here : filter_steps trees f ≤ most = subst (λ (x : TFilter). filter_steps trees x ≤ most) (sym item) (all i f below) in
    let more : draft_cost functions draft ≤ most = omega (arith, here, filter_costs trees functions f draft theirs light own) in
    subst (λ (l : List Draft). All (λ (d : Draft). draft_cost functions d ≤ most) l) (sym grown)
    (All-push (λ (d : Draft). draft_cost functions d ≤ most) drafts draft (are trees theirs light most all) more)

-- functions that take few steps whatever is declared behind them do so by themselves
pub light_over : (before fs : List TFunction) → checks.AreLightBehind before fs → AreLight before fs
light_over before [] h = tt
light_over before (f ∷ fs) h = (subst (λ (l : List TFunction). IsLight l f) (append-nil before) (h.0 []), light_over (before ++ f ∷ []) fs h.1)

-- ---- all code

-- what is owed of the code of filters
abbrev pub CompilesAll : List Fixed → List Routine → List TFilter → List Draft → Type 0
CompilesAll constants functions filters drafts = (ts : List TFunction) → AreCompiled constants [] ts functions → All (AreBefore ts) filters → map (draft_flow functions) drafts ≡ map (flow_over constants ts) filters

pub has_code : (held : Held) (code : Code) (constants : List Fixed) (ts : List TFunction) (rs : List Routine) (fs : List TFilter) → AllCanRun held → constants ≡ constant_values held.checked.declared.scope → ts ≡ function_trees held.checked.declared.scope
    → rs ≡ code.functions.items → fs ≡ held.checked.filters.items → AreCompiled constants [] ts code.functions.items → CompilesAll constants rs fs code.filters.items
    → CostTheirSteps ts code.functions.items → CostTheirFilters rs fs code.filters.items → HasCode held code
has_code held code constants ts rs fs ordered cs are same filters compiled all theirs each =
    let scope = held.checked.declared.scope in
    let done : AreCompiled (constant_values scope) [] (function_trees scope) code.functions.items = subst (λ (l : List Fixed). AreCompiled l [] (function_trees scope) code.functions.items) cs (subst (λ (l : List TFunction). AreCompiled constants [] l code.functions.items) are compiled) in
    let owed : CompilesAll (constant_values scope) code.functions.items held.checked.filters.items code.filters.items =
    subst (λ (l : List TFilter). CompilesAll (constant_values scope) code.functions.items l code.filters.items) filters
    (subst (λ (l : List Routine). CompilesAll (constant_values scope) l fs code.filters.items) same (subst (λ (l : List Fixed). CompilesAll l rs fs code.filters.items) cs all)) in
    let took : CostTheirSteps (function_trees scope) code.functions.items = subst (λ (l : List TFunction). CostTheirSteps l code.functions.items) are theirs in
    record {
      ordered = ordered;
      functions = done;
      filters = owed (function_trees scope) done (λ k f below. (ordered.filters k f below).before);
      functions_cost = took;
      filters_cost =
          (subst (λ (l : List TFilter). CostTheirFilters code.functions.items l code.filters.items) filters
          (subst (λ (l : List Routine). CostTheirFilters l fs code.filters.items) same each))
          (function_trees scope) took (light_over [] (function_trees scope) ordered.light) 50000000 (λ k f below. (ordered.filters k f below).light);
    }
