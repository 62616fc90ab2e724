-- What names stand for: the last variable of the name, else a constant (`place_of`, `constant_of`,
-- `function_of`); what is given around a route (`Around`). Names are the bytes of the source.
-- From: BIRD User's Guide, "Filters"; where the guide is silent, own.
-- Example: a loop's variable comes before one of its name that is declared further down.
use Rattle.std.specs.Prelude.{ℕ, suc, ◌==◌, Bool, if◌then◌else◌, List, [], ◌∷◌, ◌++◌, Option, Some, None, Result, Ok, Err}
use Rattle.std.specs.Cmp.Lexicographic.{pointwise}
use Rattle.bits_ip.specs.Prefix.{Net}
use Rattle.attrs.specs.declared.attributes.Attrs.{Attrs}
use Rattle.conf_ast.specs.declared.named.Name.{Name}
use Rattle.conf_ast.specs.Names.{name_bytes}
use Rattle.conf_ast.specs.declared.filters.VariableType.{VariableType}
use Rattle.conf_ast.specs.declared.filters.VariableType.TheVariants as types
use Rattle.filt_meaning.specs.declared.value.Failure.{Failure}
use Rattle.filt_meaning.specs.declared.value.Failure.TheVariants as failures
use Rattle.filt_meaning.specs.declared.value.Sort.{Sort}
use Rattle.filt_meaning.specs.declared.value.Sort.TheVariants as sorts
use Rattle.filt_meaning.specs.Values.{Val}
use Rattle.filt_meaning.specs.Flow.{Frame, Flow}

-- What a function does with its arguments, and what it gives, if anything.
abbrev pub Doing : Type 0
Doing = Frame → Attrs → Flow (Option Val)

-- What is given beside the attributes, and that no statement changes: the route's net, the number
-- of the protocol that it comes from, and the names of all protocols, by their numbers.
pub record Around : Type 0 where
  pub net : Net
  pub number : ℕ
  pub protocols : List (List ℕ)

-- What is seen at a place of a filter: the source, constants with their values, functions with what
-- they do, and the names of the variables, whose values stand in the frame in the same order.
pub record Context : Type 0 where
  pub text : List ℕ
  pub around : Around
  pub constants : List (List ℕ × Val)
  pub functions : List (List ℕ × Doing)
  pub variables : List (List ℕ)

abbrev pub same_name : List ℕ → List ℕ → Bool
same_name = pointwise ◌==◌

-- the place behind a place
abbrev pub further : Option ℕ → Option ℕ
further None = None
further (Some n) = Some (suc n)

abbrev pub or_here : Bool → Option ℕ → Option ℕ
or_here here (Some n) = Some n
or_here here None = if here then Some 0 else None

-- The last place of a name. In a loop's body its variable is the last; one that is declared further
-- down in the block round the loop may have the same name.
abbrev pub place_in : List (List ℕ) → List ℕ → Option ℕ
place_in [] name = None
place_in (n ∷ ns) name = or_here (same_name n name) (further (place_in ns name))

abbrev pub place_of : Context → Name → Option ℕ
place_of c n = place_in c.variables (name_bytes c.text n)

-- what stands for a name in a list of names
abbrev pub named_in : {A : Type 0} → List (List ℕ × A) → List ℕ → Option A
named_in [] name = None
named_in (x ∷ xs) name = if same_name x.0 name then Some x.1 else named_in xs name

abbrev pub constant_of : Context → Name → Option Val
constant_of c n = named_in c.constants (name_bytes c.text n)

abbrev pub function_of : Context → Name → Option Doing
function_of c n = named_in c.functions (name_bytes c.text n)

-- where there is something; in a checked filter there is
abbrev pub there : {A : Type 0} → Option A → Result A Failure
there None = Err failures.Stuck
there (Some a) = Ok a

-- ---- variables that are declared

-- a name and the sort of its values
abbrev pub Variable : Type 0
Variable = List ℕ × Sort

abbrev pub sort_of_type : VariableType → Sort
sort_of_type types.Int = sorts.Int
sort_of_type types.Bool = sorts.Bool
sort_of_type types.Ip = sorts.Ip
sort_of_type types.Prefix = sorts.Prefix
sort_of_type types.Pair = sorts.Pair
sort_of_type types.String = sorts.String
sort_of_type types.Path = sorts.Path
sort_of_type types.Mask = sorts.Mask
sort_of_type types.Clist = sorts.Clist
sort_of_type types.IntSet = sorts.IntSet
sort_of_type types.PairSet = sorts.PairSet
sort_of_type types.PrefixSet = sorts.PrefixSet

-- with these variables behind the others
abbrev pub with_variables : Context → List (List ℕ) → Context
with_variables c more = record {
  text = c.text;
  around = c.around;
  constants = c.constants;
  functions = c.functions;
  variables = c.variables ++ more;
}
