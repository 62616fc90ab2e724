-- The sorts of expressions, and what is refused of them (`judge`, a line for each form). Each part
-- that is refused is gathered; which counts is another definition. What was refused for its sort or
-- its names has no sort, so what stands round it isn't refused for it. How to read it:
-- docs/DEFINITIONS.md.
-- From: BIRD User's Guide, "Filters"; where the guide is silent, own.
-- Example: in `1 + x`, with `x` unknown, `x` alone is refused; in `1 + true` the `true`.
use Rattle.std.specs.Prelude.{ℕ, Bool, true, false, not, ◌&&◌, ◌||◌, ◌==◌, if◌then◌else◌, List, []}
use Rattle.std.specs.Prelude.{◌∷◌, ◌++◌, length, Option, Some, None}
use Rattle.conf_ast.specs.declared.named.Name.{Name}
use Rattle.conf_ast.specs.declared.attribute.Constant.{Constant}
use Rattle.conf_ast.specs.declared.filters.Item.{Item}
use Rattle.conf_ast.specs.declared.filters.MaskItem.{MaskItem}
use Rattle.conf_ast.specs.declared.filters.Atom.{Atom}
use Rattle.conf_ast.specs.declared.filters.Atom.TheVariants as atoms
use Rattle.conf_ast.specs.Filters.{Expression, Plain, Named, Called, Grouped, Paired, SetOf, MaskOf}
use Rattle.conf_ast.specs.Filters.{IsDefined, MethodOf, PropertyOf, Changed, Negated, Multiplied}
use Rattle.conf_ast.specs.Filters.{Added, Compared, Joined, Expressions, NoExpressions}
use Rattle.conf_ast.specs.Filters.{AndExpressions}
use Rattle.filt_meaning.specs.declared.value.Sort.{Sort}
use Rattle.filt_meaning.specs.declared.value.Sort.TheVariants as sorts
use Rattle.filt_meaning.specs.Values.{Val, sort_of}
use Rattle.filt_types.specs.declared.refusal.Cause.TheVariants as causes
use Rattle.filt_types.specs.declared.refusal.Refusal.{Refusal}
use Rattle.filt_types.specs.Items.{NoneYet, One, Many, Common, common, differ, all_known}
use Rattle.filt_types.specs.Items.{set_of_sort, all_items, sorts_of_items, all_atoms, names_in_mask}
use Rattle.filt_types.specs.Items.{is_empty, is_known, is_over, sort_where}
use Rattle.filt_types.specs.Items as items
use Rattle.filt_types.specs.Refusals.{refused_if}
use Rattle.filt_meaning.specs.Rules.{RuleOfOne, RuleOfTwo, left_of, right_of, arithmetic, pairing}
use Rattle.filt_meaning.specs.Rules.{joining, comparing, method, negating, property, same_sort}
use Rattle.filt_meaning.specs.Rules.{sort_of_attribute, sort_of_constant}
use Rattle.filt_types.specs.Scenes.{Scene, Signature, Variable, Variables, variable_of, constant_of}
use Rattle.filt_types.specs.Scenes.{function_of}

-- What is found of an expression: the byte at which it begins, its sort, and what is refused in it.
pub record Judgement : Type 0 where
  pub at : ℕ
  pub sort : Option Sort
  pub refusals : List Refusal

-- ---- what places take

-- it has a sort, which is none of those that are taken
abbrev pub is_other : (Sort → Bool) → Option Sort → Bool
is_other takes None = false
is_other takes (Some sort) = not (takes sort)

-- it has a sort, which is taken
abbrev pub is_taken : (Sort → Bool) → Option Sort → Bool
is_taken takes None = false
is_taken takes (Some sort) = takes sort

-- An operand, a condition, an argument or an assigned value whose own sort its place never takes is
-- itself refused.
abbrev pub wants : (Sort → Bool) → Judgement → List Refusal
wants takes j = refused_if (is_other takes j.sort) j.at causes.Mismatch

abbrev pub wanted : (Sort → Bool) → Judgement → List Refusal
wanted takes j = j.refusals ++ wants takes j

-- ---- operators

abbrev pub gives_where : Bool → (Sort → Sort) → Option Sort → Option Sort
gives_where true gives (Some sort) = Some (gives sort)
gives_where _ gives _ = None

-- an operator of one operand, in an expression that begins at this place
abbrev pub of_one : (at : ℕ) → RuleOfOne → Judgement → Judgement
of_one at rule j = record {
  at = at;
  sort = gives_where (is_taken rule.takes j.sort) rule.gives j.sort;
  refusals = wanted rule.takes j;
}

abbrev pub are_taken : (Sort → Sort → Bool) → Option Sort → Option Sort → Bool
are_taken takes (Some left) (Some right) = takes left right
are_taken takes _ _ = false

-- both operands have sorts that their places take, though not together
abbrev pub disagree : (Sort → Sort → Bool) → Option Sort → Option Sort → Bool
disagree takes left right =
    is_taken (left_of takes) left && is_taken (right_of takes) right
    && not (are_taken takes left right)

-- An operator of two operands. Where they only disagree, the whole is refused.
abbrev pub of_two : (at : ℕ) → RuleOfTwo → Judgement → Judgement → Judgement
of_two at rule a b = record {
  at = at;
  sort = gives_where (are_taken rule.takes a.sort b.sort) rule.gives a.sort;
  refusals =
      wanted (left_of rule.takes) a ++ wanted (right_of rule.takes) b
      ++ refused_if (disagree rule.takes a.sort b.sort) at causes.Mismatch;
}

-- an operator between its operands: the whole begins where the left one does
abbrev pub between : RuleOfTwo → Judgement → Judgement → Judgement
between rule a b = of_two a.at rule a b

-- ---- words

abbrev pub sound : (at : ℕ) → Sort → Judgement
sound at sort = record { at = at; sort = Some sort; refusals = [] }

abbrev pub plain : Atom → Judgement
plain (atoms.Number at n) = sound at sorts.Int
plain (atoms.Text at start len) = sound at sorts.String
plain (atoms.Ip at addr) = sound at sorts.Ip
plain (atoms.Prefix at net) = sound at sorts.Prefix
plain (atoms.True at) = sound at sorts.Bool
plain (atoms.False at) = sound at sorts.Bool
plain (atoms.EmptyPath at) = sound at sorts.Path
plain (atoms.EmptyClist at) = sound at sorts.Clist
plain (atoms.Attribute at a) = sound at (sort_of_attribute a)
plain (atoms.Constant at c) = sound at (sort_of_constant c)

-- the sort of a variable, and of a constant where there is none
abbrev pub sort_of_named : Option Variable → Option Val → Option Sort
sort_of_named (Some v) constant = Some v.sort
sort_of_named None (Some v) = Some (sort_of v)
sort_of_named None None = None

abbrev pub known_as : (at : ℕ) → Option Sort → Judgement
known_as at (Some sort) = sound at sort
known_as at None = record {
  at = at;
  sort = None;
  refusals = record { at = at; cause = causes.UnknownName } ∷ [];
}

abbrev pub named : Scene → Variables → Name → Judgement
named scene vs n = known_as n.at (sort_of_named (variable_of scene vs n) (constant_of scene n))

-- ---- sets and masks

abbrev pub set_sort : Common → Option Sort
set_sort NoneYet = None
set_sort (One sort) = set_of_sort sort
set_sort Many = None

abbrev pub and_known : Bool → Option Sort → Option Sort
and_known true sort = sort
and_known false sort = None

-- `[ .. ]`: elements of more than one sort are refused at the bracket. The grammar has no set
-- without elements; it would have no sort.
abbrev pub set : Scene → (at : ℕ) → List Item → Judgement
set scene at elements =
    let found = sorts_of_items scene elements in
    record {
      at = at;
      sort = and_known (all_known found) (set_sort (common NoneYet found));
      refusals =
          all_items scene elements
          ++ refused_if (is_empty elements || differ (common NoneYet found)) at causes.Mismatch;
    }

-- `[= .. =]`
abbrev pub mask : Scene → (at : ℕ) → List MaskItem → Judgement
mask scene at elements = record {
  at = at;
  sort = sort_where (is_known (names_in_mask scene elements)) sorts.Mask;
  refusals = all_atoms scene elements;
}

-- ---- pairs

-- a part of a pair that is written as a number, or as a constant that is one
abbrev pub number_where : Option Variable → Option Val → Option ℕ
number_where (Some v) constant = None
number_where None constant = items.number_in constant

abbrev pub written : Scene → Variables → Expression → Option ℕ
written scene vs (Plain (atoms.Number at n)) = Some n
written scene vs (Named n) = number_where (variable_of scene vs n) (constant_of scene n)
written scene vs _ = None

-- a written part over 65535 is over a limit, which takes no sort away
abbrev pub over_16_bits : Option ℕ → (at : ℕ) → List Refusal
over_16_bits n at = refused_if (is_over 65535 n) at causes.Limit

abbrev pub pair : (at : ℕ) → (first second : Option ℕ) → Judgement → Judgement → Judgement
pair at first second a b =
    let whole = of_two at pairing a b in
    record {
      at = at;
      sort = whole.sort;
      refusals = whole.refusals ++ over_16_bits first a.at ++ over_16_bits second b.at;
    }

-- ---- calls

abbrev pub all_refusals : List Judgement → List Refusal
all_refusals [] = []
all_refusals (j ∷ js) = j.refusals ++ all_refusals js

-- each argument is of its parameter's sort
abbrev pub arguments_wanted : List Sort → List Judgement → List Refusal
arguments_wanted (sort ∷ more) (j ∷ js) = wants (same_sort sort) j ++ arguments_wanted more js
arguments_wanted _ _ = []

abbrev pub arguments_fit : List Sort → List Judgement → Bool
arguments_fit [] [] = true
arguments_fit (sort ∷ more) (j ∷ js) =
    is_taken (same_sort sort) j.sort && arguments_fit more js
arguments_fit _ _ = false

-- A call of what isn't a function is refused at its name, and so is one with another number of
-- arguments than there are parameters.
abbrev pub call : Name → Option Signature → List Judgement → List Refusal
call n None js = record { at = n.at; cause = causes.UnknownName } ∷ all_refusals js
call n (Some f) js =
    refused_if (not (length f.parameters == length js)) n.at causes.Mismatch
    ++ all_refusals js
    ++ (if length f.parameters == length js then arguments_wanted f.parameters js else [])

-- a function that gives nothing has no value
abbrev pub gives_nothing : Option Signature → Bool
gives_nothing None = false
gives_nothing (Some f) = items.is_none f.gives

abbrev pub given_sort : Option Signature → List Judgement → Option Sort
given_sort None js = None
given_sort (Some f) js = and_known (arguments_fit f.parameters js) f.gives

abbrev pub called : Name → Option Signature → List Judgement → Judgement
called n f js = record {
  at = n.at;
  sort = given_sort f js;
  refusals = refused_if (gives_nothing f) n.at causes.Mismatch ++ call n f js;
}

-- ---- expressions

abbrev pub grouped : (at : ℕ) → Judgement → Judgement
grouped at j = record { at = at; sort = j.sort; refusals = j.refusals }

abbrev mutual
  pub judge : Scene → Variables → Expression → Judgement
  judge scene vs (Plain s) = plain s
  judge scene vs (Named n) = named scene vs n
  judge scene vs (Called n place es) = called n (function_of scene n) (judge_all scene vs es)
  judge scene vs (Grouped at e) = grouped at (judge scene vs e)
  judge scene vs (Paired at a b) =
      pair at (written scene vs a) (written scene vs b) (judge scene vs a) (judge scene vs b)
  judge scene vs (SetOf at elements) = set scene at elements
  judge scene vs (MaskOf at elements) = mask scene at elements
  judge scene vs (IsDefined at place attribute_at a) = sound at sorts.Bool
  judge scene vs (MethodOf m place a b) =
      of_two m.at (method m.kind) (judge scene vs a) (judge scene vs b)
  judge scene vs (PropertyOf a p) =
      of_one (judge scene vs a).at (property p) (judge scene vs a)
  judge scene vs (Changed a m place b) =
      between (method m.kind) (judge scene vs a) (judge scene vs b)
  judge scene vs (Negated at a) = of_one at negating (judge scene vs a)
  judge scene vs (Multiplied a op b) = between arithmetic (judge scene vs a) (judge scene vs b)
  judge scene vs (Added a op b) = between arithmetic (judge scene vs a) (judge scene vs b)
  judge scene vs (Compared a op b) =
      between (comparing op) (judge scene vs a) (judge scene vs b)
  judge scene vs (Joined a joint b) = between joining (judge scene vs a) (judge scene vs b)

  pub judge_all : Scene → Variables → Expressions → List Judgement
  judge_all scene vs NoExpressions = []
  judge_all scene vs (AndExpressions e es) = judge scene vs e ∷ judge_all scene vs es

-- ---- what `dest` may be assigned

-- the constant that the expression is, in parentheses or not
abbrev pub constant_word : Expression → Option Constant
constant_word (Plain (atoms.Constant at c)) = Some c
constant_word (Grouped at e) = constant_word e
constant_word _ = None
