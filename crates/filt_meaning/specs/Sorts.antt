-- For the rules of types and the laws: which sorts each operator takes, and of which sort its value
-- is (`TakesOne`, `TakesTwo`, with a table for each).
-- From: BIRD User's Guide, "Filters", "Operators" and "Data types"; where the guide is silent, own.
-- Example: `1 ~ [1]` and `10.0.0.1 ~ 10.0.0.0/8` are taken, `1 ~ 1` and `10.0.0.1 ~ [10.0.0.0/8]`
-- aren't.
use Rattle.std.specs.Prelude.{◌≡◌, Bool, true, false, MatchBool, Result, Ok, Err, ⊤}
use Rattle.attrs.specs.declared.judge.FilterFault.{FilterFault}
use Rattle.filt_meaning.specs.declared.value.Failure.{Failure}
use Rattle.filt_meaning.specs.declared.value.Failure.TheVariants.{Fault, Stuck}
use Rattle.filt_meaning.specs.declared.value.Sort.{Sort}
use Rattle.filt_meaning.specs.declared.value.Sort.TheVariants as sorts
use Rattle.filt_meaning.specs.Values.{Val, sort_of}

-- a value of this sort, or a fault
abbrev pub IsGiven : Sort → Result Val Failure → Type 0
IsGiven sort (Ok v) = sort_of v ≡ sort
IsGiven sort (Err (Fault fault)) = ⊤
IsGiven sort (Err Stuck) = ⊥

-- Where the operator takes the value's sort, it gives a value of the result's sort or a fault, and
-- elsewhere it is stuck.
abbrev pub TakesOne : (Sort → Bool) → (Sort → Sort) → (Val → Result Val Failure) → Type 0
TakesOne takes gives op =
    (v : Val)
    → MatchBool (takes (sort_of v)) (IsGiven (gives (sort_of v)) (op v)) (op v ≡ Err Stuck)

-- the same of two values; the result's sort goes by the left one's
abbrev pub TakesTwo :
    (Sort → Sort → Bool) → (Sort → Sort) → (Val → Val → Result Val Failure) → Type 0
TakesTwo takes gives op =
    (v w : Val)
    → MatchBool (takes (sort_of v) (sort_of w))
    (IsGiven (gives (sort_of v)) (op v w))
    (op v w ≡ Err Stuck)

-- It gives a value, or is stuck.
abbrev pub IsNoFault : {A : Type 0} → Result A Failure → Type 0
IsNoFault given = (fault : FilterFault) → given ≡ Err (Fault fault) → ⊥

-- ---- results

abbrev pub an_int : Sort → Sort
an_int sort = sorts.Int

abbrev pub a_bool : Sort → Sort
a_bool sort = sorts.Bool

abbrev pub an_ip : Sort → Sort
an_ip sort = sorts.Ip

abbrev pub a_pair : Sort → Sort
a_pair sort = sorts.Pair

abbrev pub the_same : Sort → Sort
the_same sort = sort

-- ---- operands

-- `+`, `-`, `*`, `/` and `(a, b)`
abbrev pub two_ints : Sort → Sort → Bool
two_ints sorts.Int sorts.Int = true
two_ints _ _ = false

-- `!`, and conditions
abbrev pub one_bool : Sort → Bool
one_bool sorts.Bool = true
one_bool _ = false

-- `=` and `!=`
abbrev pub compared : Sort → Sort → Bool
compared sorts.Int sorts.Int = true
compared sorts.Bool sorts.Bool = true
compared sorts.Ip sorts.Ip = true
compared sorts.Prefix sorts.Prefix = true
compared sorts.Pair sorts.Pair = true
compared sorts.String sorts.String = true
compared sorts.Path sorts.Path = true
compared sorts.Clist sorts.Clist = true
compared sorts.Source sorts.Source = true
compared sorts.Dest sorts.Dest = true
compared sorts.Origin sorts.Origin = true
compared _ _ = false

-- `<`, `<=`, `>` and `>=`
abbrev pub ordered : Sort → Sort → Bool
ordered sorts.Int sorts.Int = true
ordered sorts.Pair sorts.Pair = true
ordered sorts.Ip sorts.Ip = true
ordered _ _ = false

-- `~` and `!~`
abbrev pub matched : Sort → Sort → Bool
matched sorts.Int sorts.IntSet = true
matched sorts.Int sorts.Path = true
matched sorts.Pair sorts.PairSet = true
matched sorts.Pair sorts.Clist = true
matched sorts.Prefix sorts.PrefixSet = true
matched sorts.Prefix sorts.Prefix = true
matched sorts.Ip sorts.Prefix = true
matched sorts.Path sorts.IntSet = true
matched sorts.Path sorts.Mask = true
matched sorts.Clist sorts.PairSet = true
matched _ _ = false

-- `.len`
abbrev pub measured : Sort → Bool
measured sorts.Prefix = true
measured sorts.Path = true
measured sorts.Clist = true
measured _ = false

-- `.first` and `.last`
abbrev pub one_path : Sort → Bool
one_path sorts.Path = true
one_path _ = false

-- `.ip`
abbrev pub one_prefix : Sort → Bool
one_prefix sorts.Prefix = true
one_prefix _ = false

-- `prepend`
abbrev pub prepended : Sort → Sort → Bool
prepended sorts.Path sorts.Int = true
prepended _ _ = false

-- `add`
abbrev pub added : Sort → Sort → Bool
added sorts.Clist sorts.Pair = true
added sorts.Clist sorts.Clist = true
added _ _ = false

-- `delete`
abbrev pub deleted : Sort → Sort → Bool
deleted sorts.Path sorts.Int = true
deleted sorts.Path sorts.IntSet = true
deleted sorts.Clist sorts.Pair = true
deleted sorts.Clist sorts.PairSet = true
deleted sorts.Clist sorts.Clist = true
deleted _ _ = false

-- `filter`
abbrev pub filtered : Sort → Sort → Bool
filtered sorts.Path sorts.IntSet = true
filtered sorts.Clist sorts.PairSet = true
filtered sorts.Clist sorts.Clist = true
filtered _ _ = false

-- `empty`; and what is copied with memory
abbrev pub one_list : Sort → Bool
one_list sorts.Path = true
one_list sorts.Clist = true
one_list _ = false
