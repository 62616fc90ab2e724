-- A configuration is weighed as its filters are run.
use Rattle.std.proofs.Common.{◌≡◌, ℕ, ◌≤◌, Bool, true, false, List, [], ◌∷◌, ◌++◌, Result, Ok, Err, nat_lt, refl, sym, subst, arith}
use Rattle.std.proofs.lemmas.Bool.{ltb-false}
use Rattle.std.proofs.lemmas.List.Elements.{All-nil, All-push}
use Rattle.attrs.specs.declared.attributes.Attrs.{Attrs}
use Rattle.conf_ast.specs.Names.{name_bytes}
use Rattle.conf_ast.specs.Configurations.{Declaration, RouterId, Log, Define, Table, DefineFunction, DefineFilter, Device, Static, Bgp, Pipe}
use Rattle.conf_ast.specs.Configurations as conf
use Rattle.conf_ast.specs.Filters.{Statements}
use Rattle.filt_meaning.specs.declared.value.Failure.{Failure}
use Rattle.filt_meaning.specs.Values.{Val, VInt}
use Rattle.filt_meaning.specs.Configuration.{at_start, behind, behind_one, constant, doing, with_constant, with_function}
use Rattle.filt_meaning.specs.Items.{number}
use Rattle.filt_meaning.specs.Names.{Around, Context, Doing, constant_of}
use Rattle.filt_types.specs.declared.refusal.Cause.TheVariants as causes
use Rattle.filt_types.specs.Refusals.{refused_if}
use Rattle.filt_types.specs.Scenes.{Scene}
use Rattle.filt_types.specs.Weight.{block_weight, too_heavy}
use Rattle.filt_steps.specs.Agreement.{Agree}
use Rattle.filt_steps.specs.Configured.{at_first, counts_behind, signature, weighed_behind, with_count, with_weight}
use Rattle.filt_steps.specs.Limits.{IsWithin, AttrsAreWithin, ContextIsWithin, KeepsLimits}
use Rattle.filt_steps.specs.Steps.{Counts, filter_steps, function_steps}
use Rattle.filt_steps.proofs.Behind.{agree_behind}
use Rattle.filt_steps.proofs.Lists.{Gives, any_then, mask_kept, pair_kept, set_kept}
use Rattle.filt_steps.proofs.Weighed.{filter_takes}
use Rattle.filt_steps.proofs.Within.{constant_kept, there_kept}

written_kept : (c : Context) → ContextIsWithin c → (v : conf.Value) → Gives (constant c v)
written_kept c k (conf.NumberValue at n) = tt
written_kept c k (conf.TextValue q) = tt
written_kept c k (conf.AddressValue a) = tt
written_kept c k (conf.PrefixValue at net) = tt
written_kept c k (conf.TrueValue at) = tt
written_kept c k (conf.FalseValue at) = tt
written_kept c k (conf.ValueOf name) =
    there_kept IsWithin (constant_of c name) (constant_kept c k name)
written_kept c k (conf.PairValue at a b) =
    any_then IsWithin (number c a) _ (λ n. any_then IsWithin (number c b) _
    (λ m. pair_kept (VInt n) (VInt m)))
written_kept c k (conf.SetValue at items) = set_kept c items
written_kept c k (conf.MaskValue at items) = mask_kept c items

constant_agrees : (scene : Scene) (c : Context) (fs : Counts) (name : List ℕ)
    (v : Result Val Failure) → Gives v → Agree scene c fs
    → Agree scene (with_constant c name v) fs
constant_agrees scene c fs name (Err failure) h a = a
constant_agrees scene c fs name (Ok v) h a = record {
  text = a.text;
  limits = record {
    constants = All-push (λ x. IsWithin x.1) c.constants (name, v) a.limits.constants h;
    functions = a.limits.functions;
  };
  functions = a.functions;
}

one_agrees : (d : Declaration) (scene : Scene) (c : Context) (fs : Counts) → Agree scene c fs
    → Agree (with_weight scene d) (behind_one c d) (with_count c fs d)
one_agrees (RouterId x) scene c fs a = a
one_agrees Log scene c fs a = a
one_agrees (Define name v) scene c fs a =
    constant_agrees scene c fs (name_bytes c.text name) (constant c v)
    (written_kept c a.limits v) a
one_agrees (Table at family name) scene c fs a = a
one_agrees (DefineFunction f) scene c fs a =
    subst (λ (text : List ℕ). Agree (with_weight scene (DefineFunction f))
    (with_function c (name_bytes text f.name) (doing c f))
    (fs ++ (name_bytes text f.name, function_steps c fs f) ∷ []))
    (sym a.text)
    (agree_behind scene c fs a f (name_bytes scene.text f.name) (signature scene f) (omega arith))
one_agrees (DefineFilter at name ss) scene c fs a = a
one_agrees (Device name semicolon) scene c fs a = a
one_agrees (Static p) scene c fs a = a
one_agrees (Bgp p) scene c fs a = a
one_agrees (Pipe p) scene c fs a = a

all_agree : (ds : List Declaration) (scene : Scene) (c : Context) (fs : Counts)
    → Agree scene c fs → Agree (weighed_behind scene ds) (behind c ds) (counts_behind c fs ds)
all_agree [] scene c fs a = a
all_agree (d ∷ ds) scene c fs a =
    all_agree ds (with_weight scene d) (behind_one c d) (with_count c fs d)
    (one_agrees d scene c fs a)

start_agrees : (text : List ℕ) (around : Around) → Agree (at_first text) (at_start text around) []
start_agrees text around = record {
  text = refl;
  limits = record {
    constants = All-nil (λ x. IsWithin x.1);
    functions = All-nil (λ (f : List ℕ × Doing). KeepsLimits f.1);
  };
  functions = tt;
}

pub configured_agree : (text : List ℕ) (around : Around) (ds : List Declaration)
    → Agree (weighed_behind (at_first text) ds) (behind (at_start text around) ds)
    (counts_behind (at_start text around) [] ds)
configured_agree text around ds =
    all_agree ds (at_first text) (at_start text around) [] (start_agrees text around)

-- what isn't refused as too heavy weighs no more than that
light_where : (b : Bool) (at n : ℕ) → nat_lt 10000000 n ≡ b
    → refused_if b at causes.TooHeavy ≡ [] → n ≤ 10000000
light_where true at n t h = cc
light_where false at n f h = ltb-false 10000000 n f

light : (at n : ℕ) → too_heavy at n ≡ [] → n ≤ 10000000
light at n h = light_where (nat_lt 10000000 n) at n refl h

pub takes_few : (scene : Scene) (c : Context) (fs : Counts) → Agree scene c fs
    → (ss : Statements) (attrs : Attrs) → AttrsAreWithin attrs → (at : ℕ)
    → too_heavy at (block_weight scene ss) ≡ [] → filter_steps c fs ss attrs ≤ 10000000
takes_few scene c fs a ss attrs w at h =
    omega (arith, filter_takes scene c fs a ss attrs w, light at (block_weight scene ss) h)
