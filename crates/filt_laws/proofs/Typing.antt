-- Filters in which nothing is refused aren't stuck, and functions keep their signatures.
use Rattle.std.proofs.Common.{◌≡◌, ℕ, List, [], ◌∷◌, ◌++◌, map, get_or, drop, Option, Some, None, refl, sym, ap, ap₂, subst}
use Rattle.std.proofs.lemmas.List.{map-append}
use Rattle.attrs.specs.declared.attributes.Attrs.{Attrs}
use Rattle.attrs.specs.declared.judge.Verdict.TheVariants as verdicts
use Rattle.conf_ast.specs.Names.{name_bytes}
use Rattle.conf_ast.specs.declared.filters.Parameter.{Parameter}
use Rattle.conf_ast.specs.declared.filters.VariableType.{VariableType}
use Rattle.conf_ast.specs.Configurations.{Routine}
use Rattle.conf_ast.specs.Filters.{Statements}
use Rattle.filt_meaning.specs.declared.value.Sort.{Sort}
use Rattle.filt_meaning.specs.declared.value.Sort.TheVariants as sorts
use Rattle.filt_meaning.specs.Values.{Val, sort_of}
use Rattle.filt_meaning.specs.Configuration.{body, doing, judged, verdict_of, run_of, given_by, parameter_names}
use Rattle.filt_meaning.specs.Flow.{AtEnd, Returned, Accepted, Rejected, Faulted, Stuck, Flow, Done, Stopped, Frame}
use Rattle.filt_meaning.specs.Meaning.{acts, all_declared, defaults, names_of}
use Rattle.filt_meaning.specs.Names.{Context, Doing, sort_of_type}
use Rattle.filt_meaning.specs.Names as names
use Rattle.filt_types.specs.declared.refusal.Refusal.{Refusal}
use Rattle.filt_types.specs.Scenes.{Scene, Variables}
use Rattle.filt_types.specs.Statements.{check_all, in_filter, in_function, parameters, sort_given}
use Rattle.filt_laws.specs.Sound.{Agrees, IsAnswer, IsOfSignature, AreOfSignatures, signature_of}
use Rattle.filt_laws.proofs.Acts.{ActSound, acts_sound}
use Rattle.filt_laws.proofs.Declared.{all_fresh, slots_of, parameters_add, parameters_fresh}
use Rattle.filt_laws.proofs.Flows.{Meets, Allows}
use Rattle.filt_laws.proofs.Names.{Sees, Fresh, Hosts, sees_within, sees_more, sees_nothing, hosts_own}
use Rattle.filt_laws.specs.Operators.{AreTyped}
use Rattle.filt_laws.proofs.Refused.{left_nil, right_nil}
use Rattle.filt_laws.proofs.Sets.{ctx}
use Rattle.filt_laws.proofs.Slots.{Slot, Fits, fits_append, fits_defaults}

-- a context that agrees is the scene's
context_is : (scene : Scene) (c : Context) → Agrees scene c
    → c ≡ ctx scene c.around c.functions c.variables
context_is scene c a =
    ap₂
    (λ (text : List ℕ) (constants : List (List ℕ × Val)).
    record {
      text = text;
      around = c.around;
      constants = constants;
      functions = c.functions;
      variables = c.variables;
    })
    (a).source (a).values

-- statements over a frame that fits what is seen
body_sound : (ops : AreTyped) (scene : Scene) (around : names.Around)
    (functions : List (List ℕ × Doing)) (variables : List (List ℕ))
    → AreOfSignatures scene.functions functions → (gives : Option Sort) (ss : Statements)
    (vs : Variables) (slots : List Slot) → Sees scene vs slots
    → (check_all (record { scene = scene; gives = gives }) vs ss).refusals ≡ []
    → (arguments : Frame) (attrs : Attrs) → Fits slots arguments
    → Meets (Allows gives) (Fits (slots ++ all_declared scene.text ss))
    (body (ctx scene around functions variables) (names_of slots) ss arguments attrs)
body_sound ops scene around functions variables agree gives ss vs slots sees e arguments attrs f =
    let own : List Slot = all_declared scene.text ss in
    let fresh : Fresh scene vs own =
    all_fresh ss (record { scene = scene; gives = gives }) vs e in
    let s : ActSound gives (slots ++ own)
    (acts ss (ctx scene around functions (names_of slots ++ names_of own))) =
    subst
    (λ (ns : List (List ℕ)).
    ActSound gives (slots ++ own) (acts ss (ctx scene around functions ns)))
    (map-append (λ (v : Slot). v.0) slots own)
    (acts_sound ops scene around functions agree gives ss vs (slots ++ own)
    (sees_within scene vs slots own sees fresh) (hosts_own scene vs slots own fresh) e) in
    s (arguments ++ defaults own) attrs
    (fits_append slots own arguments (defaults own) f (fits_defaults own))

-- ---- filters

not_stuck : (P : Frame → Type 0) (flow : Flow Frame) (after : Attrs) → Meets (Allows None) P flow
    → flow ≡ Stopped Stuck after → ⊥
not_stuck P flow after m e = subst (λ (f : Flow Frame). Meets (Allows None) P f) e m

not_returned : (P : Frame → Type 0) (flow : Flow Frame) (after : Attrs) (v : Val)
    → Meets (Allows None) P flow → flow ≡ Stopped (Returned v) after → ⊥
not_returned P flow after v m e = subst (λ (f : Flow Frame). Meets (Allows None) P f) e m

filter_sound : AreTyped → (scene : Scene) (c : Context) → Agrees scene c → (ss : Statements)
    → in_filter scene ss ≡ [] → (attrs : Attrs)
    → Meets (Allows None) (Fits (all_declared scene.text ss)) (body c [] ss [] attrs)
filter_sound ops scene c a ss e attrs =
    subst
    (λ (d : Context).
    Meets (Allows None) (Fits (all_declared scene.text ss)) (body d [] ss [] attrs))
    (sym (context_is scene c a))
    (body_sound ops scene c.around c.functions c.variables (a).doings None ss [] []
    (sees_nothing scene) e [] attrs tt)

pub filter_not_stuck : AreTyped → (scene : Scene) (c : Context) → Agrees scene c
    → (ss : Statements) → in_filter scene ss ≡ [] → (attrs after : Attrs)
    → body c [] ss [] attrs ≡ Stopped Stuck after → ⊥
filter_not_stuck ops scene c a ss e attrs after s =
    not_stuck (Fits (all_declared scene.text ss)) (body c [] ss [] attrs) after
    (filter_sound ops scene c a ss e attrs) s

pub filter_not_returned : AreTyped → (scene : Scene) (c : Context) → Agrees scene c
    → (ss : Statements) → in_filter scene ss ≡ [] → (attrs after : Attrs) (v : Val)
    → body c [] ss [] attrs ≡ Stopped (Returned v) after → ⊥
filter_not_returned ops scene c a ss e attrs after v s =
    not_returned (Fits (all_declared scene.text ss)) (body c [] ss [] attrs) after v
    (filter_sound ops scene c a ss e attrs) s

only_by_reject : (P : Frame → Type 0) (flow : Flow Frame) → Meets (Allows None) P flow
    → verdict_of flow ≡ verdicts.Reject None → (after : Attrs) × (flow ≡ Stopped Rejected after)
only_by_reject P (Done vals attrs) m e = absurd (cc)
only_by_reject P (Stopped AtEnd attrs) m e = absurd (cc)
only_by_reject P (Stopped (Returned v) attrs) m e = absurd m
only_by_reject P (Stopped Accepted attrs) m e = absurd (cc)
only_by_reject P (Stopped Rejected attrs) m e = (attrs, refl)
only_by_reject P (Stopped (Faulted fault) attrs) m e = absurd (cc)
only_by_reject P (Stopped Stuck attrs) m e = absurd m

pub filter_rejected : AreTyped → (scene : Scene) (c : Context) → Agrees scene c
    → (ss : Statements) → in_filter scene ss ≡ [] → (attrs : Attrs)
    → judged c ss attrs ≡ verdicts.Reject None
    → (after : Attrs) × (body c [] ss [] attrs ≡ Stopped Rejected after)
filter_rejected ops scene c a ss e attrs r =
    only_by_reject (Fits (all_declared scene.text ss)) (body c [] ss [] attrs)
    (filter_sound ops scene c a ss e attrs) r

-- ---- functions

names_are : (text : List ℕ) (ps : List Parameter)
    → parameter_names text ps ≡ names_of (slots_of text ps)
names_are text [] = refl
names_are text (p ∷ ps) =
    ap (λ (ns : List (List ℕ)). name_bytes text p.name ∷ ns) (names_are text ps)

arguments_fit : (text : List ℕ) (ps : List Parameter) (arguments : Frame)
    → map sort_of arguments ≡ map (λ (p : Parameter). sort_of_type p.variable_type) ps
    → Fits (slots_of text ps) arguments
arguments_fit text [] [] e = tt
arguments_fit text [] (v ∷ vs) e = absurd (cc)
arguments_fit text (p ∷ ps) [] e = absurd (cc)
arguments_fit text (p ∷ ps) (v ∷ vs) e = (
  ap (λ (ks : List Sort). get_or ks 0 sorts.Int) e,
  arguments_fit text ps vs (ap (λ (ks : List Sort). drop 1 ks) e),
)

given_answer : (gives : Option VariableType) (P : Frame → Type 0) (flow : Flow Frame)
    → Meets (Allows (sort_given gives)) P flow
    → IsAnswer (sort_given gives) (given_by gives flow)
given_answer None P (Done vals attrs) m = tt
given_answer None P (Stopped AtEnd attrs) m = tt
given_answer None P (Stopped (Returned v) attrs) m = absurd m
given_answer None P (Stopped Accepted attrs) m = tt
given_answer None P (Stopped Rejected attrs) m = tt
given_answer None P (Stopped (Faulted fault) attrs) m = tt
given_answer None P (Stopped Stuck attrs) m = absurd m
given_answer (Some t) P (Done vals attrs) m = tt
given_answer (Some t) P (Stopped AtEnd attrs) m = tt
given_answer (Some t) P (Stopped (Returned v) attrs) m = m
given_answer (Some t) P (Stopped Accepted attrs) m = tt
given_answer (Some t) P (Stopped Rejected attrs) m = tt
given_answer (Some t) P (Stopped (Faulted fault) attrs) m = tt
given_answer (Some t) P (Stopped Stuck attrs) m = absurd m

function_at : (ops : AreTyped) (scene : Scene) (around : names.Around)
    (functions : List (List ℕ × Doing)) (variables : List (List ℕ))
    → AreOfSignatures scene.functions functions → (f : Routine) → in_function scene f ≡ []
    → (weight : ℕ) → IsOfSignature (signature_of f weight)
    (doing (ctx scene around functions variables) f)
function_at ops scene around functions variables agree f e weight arguments attrs k =
    let slots : List Slot = slots_of scene.text f.parameters in
    let seen : Variables = (parameters scene [] f.parameters).variables in
    let ps : List Refusal = (parameters scene [] f.parameters).refusals in
    let gives : Option Sort = sort_given f.gives in
    let rs : List Refusal =
    (check_all (record { scene = scene; gives = gives }) seen f.body).refusals in
    let fresh : Fresh scene [] slots =
    parameters_fresh scene f.parameters [] (left_nil ps rs e) in
    let own : Hosts slots slots = hosts_own scene [] [] slots fresh in
    let sees : Sees scene seen slots =
    subst (λ (us : Variables). Sees scene us slots)
    (sym (parameters_add scene f.parameters []))
    (sees_more scene [] slots slots (sees_within scene [] [] slots (sees_nothing scene) fresh)
    own) in
    given_answer f.gives (Fits (slots ++ all_declared scene.text f.body))
    (run_of (ctx scene around functions variables) f arguments attrs)
    (subst
    (λ (ns : List (List ℕ)).
    Meets (Allows gives) (Fits (slots ++ all_declared scene.text f.body))
    (body (ctx scene around functions variables) ns f.body arguments attrs))
    (sym (names_are scene.text f.parameters))
    (body_sound ops scene around functions variables agree gives f.body seen slots sees
    (right_nil ps rs e) arguments attrs (arguments_fit scene.text f.parameters arguments k)))

pub function_sound : AreTyped → (scene : Scene) (c : Context) → Agrees scene c → (f : Routine)
    → in_function scene f ≡ [] → (weight : ℕ) → IsOfSignature (signature_of f weight) (doing c f)
function_sound ops scene c a f e weight =
    subst (λ (d : Context). IsOfSignature (signature_of f weight) (doing d f))
    (sym (context_is scene c a))
    (function_at ops scene c.around c.functions c.variables (a).doings f e weight)
