-- For the laws: what the types of filters promise: which reasons a run stops for, what a function
-- gives (`IsOfSignature`), and when what runs is what the rules of types have seen (`Agrees`).
-- From: own.
-- Example: a function with `-> int` gives a number, or ends the filter.
use Rattle.std.specs.Prelude.{◌≡◌, ℕ, List, [], ◌∷◌, map, Option, Some, None, ⊤}
use Rattle.attrs.specs.declared.attributes.Attrs.{Attrs}
use Rattle.conf_ast.specs.declared.filters.Parameter.{Parameter}
use Rattle.conf_ast.specs.Configurations.{Routine}
use Rattle.filt_meaning.specs.declared.value.Sort.{Sort}
use Rattle.filt_meaning.specs.Values.{Val, sort_of}
use Rattle.filt_meaning.specs.Flow.{Why, AtEnd, Returned, Accepted, Rejected, Faulted, Stuck, Flow}
use Rattle.filt_meaning.specs.Flow.{Done, Stopped, Frame}
use Rattle.filt_meaning.specs.Names.{Doing, Context, sort_of_type}
use Rattle.filt_types.specs.Scenes.{Scene, Signature}
use Rattle.filt_types.specs.Statements.{sort_given}

-- ---- what functions give

-- A reason that ends a filter: `accept`, `reject` or a fault. `return` ends a function alone, and
-- what is stuck has no reason at all.
abbrev pub EndsFilter : Why → Type 0
EndsFilter AtEnd = ⊥
EndsFilter (Returned v) = ⊥
EndsFilter Accepted = ⊤
EndsFilter Rejected = ⊤
EndsFilter (Faulted fault) = ⊤
EndsFilter Stuck = ⊥

-- a value of the sort, or none where nothing is given
abbrev pub IsResult : Option Sort → Option Val → Type 0
IsResult None None = ⊤
IsResult None (Some v) = ⊥
IsResult (Some sort) None = ⊥
IsResult (Some sort) (Some v) = sort_of v ≡ sort

-- it gives what is to be given, or ends the filter
abbrev pub IsAnswer : Option Sort → Flow (Option Val) → Type 0
IsAnswer gives (Done v attrs) = IsResult gives v
IsAnswer gives (Stopped why attrs) = EndsFilter why

-- Over arguments of its parameters' sorts, and whatever the attributes are, the function gives what
-- its signature says, or ends the filter.
abbrev pub IsOfSignature : Signature → Doing → Type 0
IsOfSignature s f =
    (arguments : Frame) (attrs : Attrs) → map sort_of arguments ≡ s.parameters
    → IsAnswer s.gives (f arguments attrs)

-- the signature of a function, which may weigh whatever it does
abbrev pub signature_of : Routine → (weight : ℕ) → Signature
signature_of f weight = record {
  parameters = map (λ (p : Parameter). sort_of_type p.variable_type) f.parameters;
  gives = sort_given f.gives;
  weight = weight;
}

-- ---- what runs, and what was seen of it

-- functions of these names and signatures, in their order
abbrev pub AreOfSignatures :
    List (List ℕ × Signature) → List (List ℕ × Doing) → Type 0
AreOfSignatures [] [] = ⊤
AreOfSignatures [] (f ∷ fs) = ⊥
AreOfSignatures (s ∷ ss) [] = ⊥
AreOfSignatures (s ∷ ss) (f ∷ fs) =
    (f.0 ≡ s.0) × IsOfSignature s.1 f.1 × AreOfSignatures ss fs

-- What runs has the source, the constants and the functions that the rules of types have seen. The
-- variables are those of a filter or a function, which have their own.
pub record Agrees (scene : Scene) (c : Context) : Type 0 where
  pub source : c.text ≡ scene.text
  pub values : c.constants ≡ scene.constants
  pub doings : AreOfSignatures scene.functions c.functions
