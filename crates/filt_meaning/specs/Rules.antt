-- Which sorts the places of a form take, by the sorts that its operator takes (`RuleOfOne`,
-- `RuleOfTwo`; the tables are those of `Sorts`); the sorts of attributes and
-- constants; what can be assigned and unset.
-- From: BIRD User's Guide, "Filters", "Operators" and "Route attributes"; where the guide is
-- silent, own.
-- Example: `delete` has on its left paths and lists of communities, on its right five sorts.
use Rattle.std.specs.Prelude.{Bool, true, false, ◌&&◌, List, [], ◌∷◌}
use Rattle.std.specs.List.{list_any}
use Rattle.conf_ast.specs.declared.attribute.Attribute.{Attribute}
use Rattle.conf_ast.specs.declared.attribute.Attribute.TheVariants as attributes
use Rattle.conf_ast.specs.declared.filters.CompareOp.{CompareOp}
use Rattle.conf_ast.specs.declared.filters.CompareOp.TheVariants as compare_ops
use Rattle.conf_ast.specs.declared.attribute.Constant.{Constant}
use Rattle.conf_ast.specs.declared.attribute.Constant.TheVariants as constants
use Rattle.conf_ast.specs.declared.filters.MethodKind.{MethodKind}
use Rattle.conf_ast.specs.declared.filters.MethodKind.TheVariants as methods
use Rattle.conf_ast.specs.declared.filters.Property.{Property}
use Rattle.conf_ast.specs.declared.filters.Property.TheVariants as properties
use Rattle.filt_meaning.specs.declared.sorts.Operator.{Operator}
use Rattle.filt_meaning.specs.declared.sorts.Operator.TheVariants as operators
use Rattle.filt_meaning.specs.declared.sorts.Single.{Single}
use Rattle.filt_meaning.specs.declared.sorts.Single.TheVariants as singles
use Rattle.filt_meaning.specs.declared.value.Sort.{Sort}
use Rattle.filt_meaning.specs.declared.value.Sort.TheVariants as sorts
use Rattle.filt_meaning.specs.Sorts.{an_int, a_bool, an_ip, a_pair, the_same, two_ints, one_bool}
use Rattle.filt_meaning.specs.Sorts.{compared, ordered, matched, measured, one_path, one_prefix}
use Rattle.filt_meaning.specs.Sorts.{prepended, added, deleted, filtered}

abbrev pub all_sorts : List Sort
all_sorts =
    sorts.Int ∷ sorts.Bool ∷ sorts.Ip ∷ sorts.Prefix ∷ sorts.Pair ∷ sorts.String ∷ sorts.Path
    ∷ sorts.Mask ∷ sorts.Clist ∷ sorts.IntSet ∷ sorts.PairSet ∷ sorts.PrefixSet ∷ sorts.Source
    ∷ sorts.Dest ∷ sorts.Origin ∷ []

-- the sorts that an operator takes on its left at all, and those on its right
abbrev pub left_of : (Sort → Sort → Bool) → Sort → Bool
left_of takes sort = list_any (takes sort) all_sorts

abbrev pub right_of : (Sort → Sort → Bool) → Sort → Bool
right_of takes sort = list_any (λ left. takes left sort) all_sorts

-- What an operator of one operand takes, and the sort of what it gives, by the operand's sort.
pub record RuleOfOne : Type 0 where
  pub takes : Sort → Bool
  pub gives : Sort → Sort

-- What an operator of two operands takes, and the sort of what it gives, by the left one's sort.
pub record RuleOfTwo : Type 0 where
  pub takes : Sort → Sort → Bool
  pub gives : Sort → Sort

-- `+`, `-`, `*` and `/`
abbrev pub arithmetic : RuleOfTwo
arithmetic = record { takes = two_ints; gives = an_int }

-- `(a, b)`
abbrev pub pairing : RuleOfTwo
pairing = record { takes = two_ints; gives = a_pair }

abbrev pub two_bools : Sort → Sort → Bool
two_bools left right = one_bool left && one_bool right

-- `&&` and `||`
abbrev pub joining : RuleOfTwo
joining = record { takes = two_bools; gives = a_bool }

abbrev pub compares_sorts : CompareOp → Sort → Sort → Bool
compares_sorts compare_ops.Equal = compared
compares_sorts compare_ops.NotEqual = compared
compares_sorts compare_ops.Less = ordered
compares_sorts compare_ops.LessOrEqual = ordered
compares_sorts compare_ops.Greater = ordered
compares_sorts compare_ops.GreaterOrEqual = ordered
compares_sorts compare_ops.Matches = matched
compares_sorts compare_ops.MatchesNot = matched

abbrev pub comparing : CompareOp → RuleOfTwo
comparing op = record { takes = compares_sorts op; gives = a_bool }

abbrev pub method_takes : MethodKind → Sort → Sort → Bool
method_takes methods.Prepend = prepended
method_takes methods.Add = added
method_takes methods.Delete = deleted
method_takes methods.Filter = filtered

-- a method gives a list of the same sort
abbrev pub method : MethodKind → RuleOfTwo
method kind = record { takes = method_takes kind; gives = the_same }

-- `!`
abbrev pub negating : RuleOfOne
negating = record { takes = one_bool; gives = a_bool }

abbrev pub property : Property → RuleOfOne
property properties.Len = record { takes = measured; gives = an_int }
property properties.First = record { takes = one_path; gives = an_int }
property properties.Last = record { takes = one_path; gives = an_int }
property properties.Ip = record { takes = one_prefix; gives = an_ip }

-- ---- operators

abbrev pub rule_of : Operator → RuleOfTwo
rule_of operators.Arithmetic = arithmetic
rule_of operators.Pairing = pairing
rule_of operators.Joining = joining
rule_of (operators.Comparing op) = comparing op
rule_of (operators.Method kind) = method kind

abbrev pub rule_of_one : Single → RuleOfOne
rule_of_one singles.Negating = negating
rule_of_one (singles.Property p) = property p

-- ---- single sorts

abbrev pub same_sort : Sort → Sort → Bool
same_sort sorts.Int sorts.Int = true
same_sort sorts.Bool sorts.Bool = true
same_sort sorts.Ip sorts.Ip = true
same_sort sorts.Prefix sorts.Prefix = true
same_sort sorts.Pair sorts.Pair = true
same_sort sorts.String sorts.String = true
same_sort sorts.Path sorts.Path = true
same_sort sorts.Mask sorts.Mask = true
same_sort sorts.Clist sorts.Clist = true
same_sort sorts.IntSet sorts.IntSet = true
same_sort sorts.PairSet sorts.PairSet = true
same_sort sorts.PrefixSet sorts.PrefixSet = true
same_sort sorts.Source sorts.Source = true
same_sort sorts.Dest sorts.Dest = true
same_sort sorts.Origin sorts.Origin = true
same_sort _ _ = false

-- what the value of a `case` may be
abbrev pub one_of_cases : Sort → Bool
one_of_cases sorts.Int = true
one_of_cases sorts.Pair = true
one_of_cases sorts.Prefix = true
one_of_cases _ = false

-- ---- attributes and the constants of their values

abbrev pub sort_of_attribute : Attribute → Sort
sort_of_attribute attributes.Net = sorts.Prefix
sort_of_attribute attributes.Preference = sorts.Int
sort_of_attribute attributes.Gw = sorts.Ip
sort_of_attribute attributes.From = sorts.Ip
sort_of_attribute attributes.BgpNextHop = sorts.Ip
sort_of_attribute attributes.Proto = sorts.String
sort_of_attribute attributes.Source = sorts.Source
sort_of_attribute attributes.Dest = sorts.Dest
sort_of_attribute attributes.BgpPath = sorts.Path
sort_of_attribute attributes.BgpOrigin = sorts.Origin
sort_of_attribute attributes.BgpMed = sorts.Int
sort_of_attribute attributes.BgpLocalPref = sorts.Int
sort_of_attribute attributes.IgpMetric = sorts.Int
sort_of_attribute attributes.BgpCommunity = sorts.Clist

-- which can be assigned to and changed
abbrev pub is_assignable : Attribute → Bool
is_assignable attributes.Net = false
is_assignable attributes.Proto = false
is_assignable attributes.Source = false
is_assignable _ = true

-- which can be unset
abbrev pub can_be_unset : Attribute → Bool
can_be_unset attributes.Net = false
can_be_unset attributes.Proto = false
can_be_unset attributes.Source = false
can_be_unset attributes.Preference = false
can_be_unset attributes.Dest = false
can_be_unset attributes.From = false
can_be_unset _ = true

abbrev pub sort_of_constant : Constant → Sort
sort_of_constant constants.RtsStatic = sorts.Source
sort_of_constant constants.RtsBgp = sorts.Source
sort_of_constant constants.RtdUnicast = sorts.Dest
sort_of_constant constants.RtdRouter = sorts.Dest
sort_of_constant constants.RtdBlackhole = sorts.Dest
sort_of_constant constants.RtdUnreachable = sorts.Dest
sort_of_constant constants.RtdProhibit = sorts.Dest
sort_of_constant constants.OriginIgp = sorts.Origin
sort_of_constant constants.OriginEgp = sorts.Origin
sort_of_constant constants.OriginIncomplete = sorts.Origin

-- which `dest` may be assigned
abbrev pub is_assigned_dest : Constant → Bool
is_assigned_dest constants.RtdBlackhole = true
is_assigned_dest constants.RtdUnreachable = true
is_assigned_dest constants.RtdProhibit = true
is_assigned_dest _ = false
