-- What is seen at a place of a filter, for the rules of types and names (`Scene`, `Variable`);
-- names have one space (`is_seen`, `declaring`).
-- From: BIRD User's Guide, "Filters"; where the guide is silent, own.
-- Example: a function's name can't be a local's.
use Rattle.std.specs.Prelude.{ℕ, Bool, ◌||◌, nat_lt, if◌then◌else◌, List, [], ◌∷◌, ◌++◌, length}
use Rattle.std.specs.Prelude.{Option, Some, None}
use Rattle.std.specs.List.{list_any}
use Rattle.conf_ast.specs.declared.named.Name.{Name}
use Rattle.conf_ast.specs.Names.{name_bytes}
use Rattle.filt_meaning.specs.declared.value.Sort.{Sort}
use Rattle.filt_meaning.specs.Values.{Val}
use Rattle.filt_meaning.specs.Names.{named_in, same_name}
use Rattle.filt_types.specs.declared.refusal.Cause.TheVariants as causes
use Rattle.filt_types.specs.declared.refusal.Refusal.{Refusal}
use Rattle.filt_types.specs.Refusals.{refused_if}

-- What a function takes and gives, and how much a call of it weighs.
pub record Signature : Type 0 where
  pub parameters : List Sort
  pub gives : Option Sort
  pub weight : ℕ

-- What the configuration declares before the filter: the source, constants with their values,
-- functions with their signatures, and the other names that are taken.
pub record Scene : Type 0 where
  pub text : List ℕ
  pub constants : List (List ℕ × Val)
  pub functions : List (List ℕ × Signature)
  pub others : List (List ℕ)

-- A variable: its name, the sort of its values, and whether it is a loop's, which can't be
-- assigned to.
pub record Variable : Type 0 where
  pub name : List ℕ
  pub sort : Sort
  pub of_loop : Bool

abbrev pub Variables : Type 0
Variables = List Variable

-- the variable of that name
abbrev pub variable_in : Variables → List ℕ → Option Variable
variable_in [] name = None
variable_in (v ∷ vs) name = if same_name v.name name then Some v else variable_in vs name

abbrev pub variable_of : Scene → Variables → Name → Option Variable
variable_of scene vs n = variable_in vs (name_bytes scene.text n)

abbrev pub constant_of : Scene → Name → Option Val
constant_of scene n = named_in scene.constants (name_bytes scene.text n)

abbrev pub function_of : Scene → Name → Option Signature
function_of scene n = named_in scene.functions (name_bytes scene.text n)

-- ---- declaring

abbrev pub is_declared : {A : Type 0} → List (List ℕ × A) → List ℕ → Bool
is_declared named name = list_any (λ x. same_name x.0 name) named

-- All names share one space.
abbrev pub is_seen : Scene → Variables → List ℕ → Bool
is_seen scene vs name =
    list_any (λ v. same_name v.name name) vs || is_declared scene.constants name
    || is_declared scene.functions name || list_any (λ n. same_name n name) scene.others

-- what is refused of a name that is declared here: it is seen already, or over 64 bytes long
abbrev pub declaring : Scene → Variables → Name → List Refusal
declaring scene vs n =
    let name = name_bytes scene.text n in
    refused_if (is_seen scene vs name) n.at causes.DuplicateName
    ++ refused_if (nat_lt 64 (length name)) n.at causes.Limit

abbrev pub declared : Scene → Name → Sort → (of_loop : Bool) → Variable
declared scene n sort of_loop =
    record { name = name_bytes scene.text n; sort = sort; of_loop = of_loop }
