-- What runs goes on to agree with what is seen.
use Rattle.std.proofs.Common.{◌≡◌, ℕ, List, [], ◌∷◌, ◌++◌, Option, Some, None, Result, Ok, Err, refl, sym, ap, subst}
use Rattle.attrs.specs.declared.attributes.Attrs.{Attrs}
use Rattle.conf_ast.specs.declared.named.Name.{Name}
use Rattle.conf_ast.specs.Names.{name_bytes}
use Rattle.conf_ast.specs.Configurations as conf
use Rattle.conf_ast.specs.Filters.{Expression, Statements}
use Rattle.filt_meaning.specs.declared.value.Failure.{Failure}
use Rattle.filt_meaning.specs.Values.{Val}
use Rattle.filt_meaning.specs.Configuration.{at_start, behind, behind_one, body, constant, doing, filter_where, of_text, with_constant, with_function}
use Rattle.filt_meaning.specs.Flow.{Stuck, Stopped}
use Rattle.filt_meaning.specs.Names.{Around, Context, Doing}
use Rattle.filt_types.specs.declared.refusal.Refusal.{Refusal}
use Rattle.filt_types.specs.Scenes.{Scene, Signature}
use Rattle.filt_types.specs.Statements.{in_filter, in_function}
use Rattle.filt_types.specs.Weight.{block_weight}
use Rattle.filt_laws.specs.Behind.{refused_in_function, refused_in_functions, seen_at_start, seen_behind, seen_behind_one, seen_in_text, with_other, with_signature, with_value}
use Rattle.filt_laws.specs.Sound.{Agrees, AreOfSignatures, IsOfSignature, signature_of}
use Rattle.filt_laws.specs.Operators.{AreTyped}
use Rattle.filt_laws.proofs.Refused.{left_nil, right_nil}
use Rattle.filt_laws.proofs.Typing.{filter_not_stuck, function_sound}

pub start_agrees : (text : List ℕ) (around : Around)
    → Agrees (seen_at_start text) (at_start text around)
start_agrees text around = record { source = refl; values = refl; doings = tt }

one_function_more : (ss : List (List ℕ × Signature)) (fs : List (List ℕ × Doing))
    (name : List ℕ) (s : Signature) (f : Doing) → AreOfSignatures ss fs → IsOfSignature s f
    → AreOfSignatures (ss ++ (name, s) ∷ []) (fs ++ (name, f) ∷ [])
one_function_more [] [] name s f a k = (refl, k, tt)
one_function_more [] (g ∷ fs) name s f a k = absurd a
one_function_more (x ∷ ss) [] name s f a k = absurd a
one_function_more (x ∷ ss) (g ∷ fs) name s f a k =
    (a.0, a.1, one_function_more ss fs name s f a.2 k)

pub constant_agrees : (scene : Scene) (c : Context) → Agrees scene c → (name : List ℕ)
    (v : Result Val Failure) → Agrees (with_value scene name v) (with_constant c name v)
constant_agrees scene c a name (Err failure) = a
constant_agrees scene c a name (Ok v) = record {
  source = (a).source;
  values = ap (λ (xs : List (List ℕ × Val)). xs ++ (name, v) ∷ []) (a).values;
  doings = (a).doings;
}

pub function_agrees : AreTyped → (scene : Scene) (c : Context) → Agrees scene c
    → (f : conf.Routine) → in_function scene f ≡ [] → (name : List ℕ) (weight : ℕ)
    → Agrees (with_signature scene name (signature_of f weight)) (with_function c name (doing c f))
function_agrees ops scene c a f e name weight = record {
  source = (a).source;
  values = (a).values;
  doings =
      one_function_more scene.functions c.functions name (signature_of f weight) (doing c f)
      (a).doings (function_sound ops scene c a f e weight);
}

other_agrees : (scene : Scene) (c : Context) → Agrees scene c → (n : Option Name)
    → Agrees (with_other scene n) c
other_agrees scene c a None = a
other_agrees scene c a (Some n) =
    record { source = (a).source; values = (a).values; doings = (a).doings }

pub text_agrees : (scene : Scene) (c : Context) → Agrees scene c → (text : List ℕ)
    → Agrees (seen_in_text scene text) (of_text c text)
text_agrees scene c a text =
    record { source = refl; values = (a).values; doings = (a).doings }

-- names are read in one text
in_the_text : (scene : Scene) (c : Context) → Agrees scene c → (n : Name)
    → name_bytes scene.text n ≡ name_bytes c.text n
in_the_text scene c a n = ap (λ (text : List ℕ). name_bytes text n) (sym (a).source)

one_agrees : AreTyped → (scene : Scene) (c : Context) → Agrees scene c → (d : conf.Declaration)
    → refused_in_function scene d ≡ [] → Agrees (seen_behind_one c scene d) (behind_one c d)
one_agrees ops scene c a (conf.RouterId r) e = a
one_agrees ops scene c a conf.Log e = a
one_agrees ops scene c a (conf.Define name v) e =
    subst
    (λ (n : List ℕ).
    Agrees (with_value scene n (constant c v))
    (with_constant c (name_bytes c.text name) (constant c v)))
    (sym (in_the_text scene c a name))
    (constant_agrees scene c a (name_bytes c.text name) (constant c v))
one_agrees ops scene c a (conf.Table at family name) e = other_agrees scene c a (Some name)
one_agrees ops scene c a (conf.DefineFunction f) e =
    subst
    (λ (n : List ℕ).
    Agrees (with_signature scene n (signature_of f (block_weight scene f.body)))
    (with_function c (name_bytes c.text f.name) (doing c f)))
    (sym (in_the_text scene c a f.name))
    (function_agrees ops scene c a f e (name_bytes c.text f.name) (block_weight scene f.body))
one_agrees ops scene c a (conf.DefineFilter at name ss) e = other_agrees scene c a (Some name)
one_agrees ops scene c a (conf.Device name semicolon) e = a
one_agrees ops scene c a (conf.Static p) e = other_agrees scene c a p.name
one_agrees ops scene c a (conf.Bgp p) e = other_agrees scene c a p.name
one_agrees ops scene c a (conf.Pipe p) e = other_agrees scene c a p.name

pub all_agree : AreTyped → (ds : List conf.Declaration) (scene : Scene) (c : Context)
    → Agrees scene c → refused_in_functions c scene ds ≡ []
    → Agrees (seen_behind c scene ds) (behind c ds)
all_agree ops [] scene c a e = a
all_agree ops (d ∷ ds) scene c a e =
    let one : List Refusal = refused_in_function scene d in
    let more : List Refusal =
    refused_in_functions (behind_one c d) (seen_behind_one c scene d) ds in
    all_agree ops ds (seen_behind_one c scene d) (behind_one c d)
    (one_agrees ops scene c a d (left_nil one more e)) (right_nil one more e)

pub behind_agrees : AreTyped → (text : List ℕ) (around : Around) (ds : List conf.Declaration)
    → refused_in_functions (at_start text around) (seen_at_start text) ds ≡ []
    → Agrees (seen_behind (at_start text around) (seen_at_start text) ds)
    (behind (at_start text around) ds)
behind_agrees ops text around ds e =
    all_agree ops ds (seen_at_start text) (at_start text around) (start_agrees text around) e

pub filters_not_stuck : AreTyped → (text : List ℕ) (around : Around)
    (ds : List conf.Declaration)
    → refused_in_functions (at_start text around) (seen_at_start text) ds ≡ []
    → (ss : Statements)
    → in_filter (seen_behind (at_start text around) (seen_at_start text) ds) ss ≡ []
    → (attrs after : Attrs)
    → body (behind (at_start text around) ds) [] ss [] attrs ≡ Stopped Stuck after → ⊥
filters_not_stuck ops text around ds e ss f attrs after =
    filter_not_stuck ops (seen_behind (at_start text around) (seen_at_start text) ds)
    (behind (at_start text around) ds) (behind_agrees ops text around ds e) ss f attrs after

pub conditions_not_stuck : AreTyped → (text : List ℕ) (around : Around)
    (ds : List conf.Declaration)
    → refused_in_functions (at_start text around) (seen_at_start text) ds ≡ []
    → (condition_text : List ℕ) (e : Expression)
    → in_filter
    (seen_in_text (seen_behind (at_start text around) (seen_at_start text) ds) condition_text)
    (filter_where e) ≡ []
    → (attrs after : Attrs)
    → body (of_text (behind (at_start text around) ds) condition_text) [] (filter_where e) [] attrs
    ≡ Stopped Stuck after → ⊥
conditions_not_stuck ops text around ds e condition_text condition f attrs after =
    let scene : Scene = seen_behind (at_start text around) (seen_at_start text) ds in
    let c : Context = behind (at_start text around) ds in
    filter_not_stuck ops (seen_in_text scene condition_text) (of_text c condition_text)
    (text_agrees scene c (behind_agrees ops text around ds e) condition_text)
    (filter_where condition) f attrs after
