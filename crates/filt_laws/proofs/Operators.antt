-- The operators of the forms give values of the sorts that their rules say.
use Rattle.std.proofs.Common.{◌≡◌, Bool, true, Result, Err, MatchBool, subst}
use Rattle.conf_ast.specs.declared.filters.CompareOp.{CompareOp}
use Rattle.conf_ast.specs.declared.filters.CompareOp.TheVariants as compare_ops
use Rattle.conf_ast.specs.declared.filters.MulOp.{MulOp}
use Rattle.conf_ast.specs.declared.filters.MulOp.TheVariants as mul_ops
use Rattle.conf_ast.specs.declared.filters.MethodKind.{MethodKind}
use Rattle.conf_ast.specs.declared.filters.MethodKind.TheVariants as methods
use Rattle.conf_ast.specs.declared.filters.Property.{Property}
use Rattle.conf_ast.specs.declared.filters.Property.TheVariants as properties
use Rattle.conf_ast.specs.declared.filters.AddOp.{AddOp}
use Rattle.conf_ast.specs.declared.filters.AddOp.TheVariants as add_ops
use Rattle.filt_meaning.specs.declared.value.Failure.{Failure}
use Rattle.filt_meaning.specs.declared.value.Failure.TheVariants.{Stuck}
use Rattle.filt_meaning.specs.declared.value.Sort.{Sort}
use Rattle.filt_meaning.specs.Sorts.{IsGiven, TakesOne, TakesTwo, two_ints, a_bool, an_int, the_same}
use Rattle.filt_meaning.specs.Values.{Val, sort_of}
use Rattle.filt_meaning.specs.Meaning.{term_of, factor_of, compare_of, property_of, method_of}
use Rattle.filt_meaning.specs.Rules.{compares_sorts, method_takes, property}
use Rattle.filt_laws.specs.Operators.{AreTyped}
use Rattle.filt_laws.proofs.Flows.{IsGood, OfSort, given_good}

pub term_takes : AreTyped → (op : AddOp) → TakesTwo two_ints an_int (term_of op)
term_takes t add_ops.Plus = t.plus
term_takes t add_ops.Minus = t.minus

pub factor_takes : AreTyped → (op : MulOp) → TakesTwo two_ints an_int (factor_of op)
factor_takes t mul_ops.Times = t.times
factor_takes t mul_ops.Over = t.over

pub compare_takes : AreTyped → (op : CompareOp) → TakesTwo (compares_sorts op) a_bool (compare_of op)
compare_takes t compare_ops.Equal = t.equal
compare_takes t compare_ops.NotEqual = t.not_equal
compare_takes t compare_ops.Less = t.less
compare_takes t compare_ops.LessOrEqual = t.less_or_equal
compare_takes t compare_ops.Greater = t.greater
compare_takes t compare_ops.GreaterOrEqual = t.greater_or_equal
compare_takes t compare_ops.Matches = t.matches
compare_takes t compare_ops.MatchesNot = t.matches_not

pub property_takes : AreTyped → (p : Property)
    → TakesOne (property p).takes (property p).gives (property_of p)
property_takes t properties.Len = t.len
property_takes t properties.First = t.head
property_takes t properties.Last = t.last
property_takes t properties.Ip = t.ip

pub list_takes : AreTyped → (m : MethodKind) → TakesTwo (method_takes m) the_same (method_of m)
list_takes t methods.Prepend = t.prepend
list_takes t methods.Add = t.add
list_takes t methods.Delete = t.delete
list_takes t methods.Filter = t.keep

pub one_given : (takes : Sort → Bool) (gives : Sort → Sort) (op : Val → Result Val Failure)
    → TakesOne takes gives op → (k : Sort) (v : Val) → sort_of v ≡ k → takes k ≡ true
    → IsGood (OfSort (gives k)) (op v)
one_given takes gives op t k v e y =
    given_good (gives k) (op v)
    (subst
    (λ (b : Bool). MatchBool b (IsGiven (gives k) (op v)) (op v ≡ Err Stuck)) y
    (subst
    (λ (l : Sort). MatchBool (takes l) (IsGiven (gives l) (op v)) (op v ≡ Err Stuck)) e (t v)))

pub two_given : (takes : Sort → Sort → Bool) (gives : Sort → Sort)
    (op : Val → Val → Result Val Failure) → TakesTwo takes gives op
    → (k l : Sort) (v w : Val) → sort_of v ≡ k → sort_of w ≡ l → takes k l ≡ true
    → IsGood (OfSort (gives k)) (op v w)
two_given takes gives op t k l v w e f y =
    given_good (gives k) (op v w)
    (subst
    (λ (b : Bool). MatchBool b (IsGiven (gives k) (op v w)) (op v w ≡ Err Stuck)) y
    (subst
    (λ (m : Sort). MatchBool (takes k m) (IsGiven (gives k) (op v w)) (op v w ≡ Err Stuck)) f
    (subst
    (λ (m : Sort). MatchBool (takes m (sort_of w)) (IsGiven (gives m) (op v w))
    (op v w ≡ Err Stuck)) e (t v w))))
