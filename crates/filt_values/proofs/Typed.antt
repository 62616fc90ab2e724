-- Each operator gives a value of its result's sort, or a fault, exactly where it takes the sorts.
use Rattle.std.proofs.Common.{ℕ, ◌^◌, ◌++◌, ◌==◌, ◌&&◌, nat_lt, List, [], ◌∷◌, length, Result, Ok, refl, ⊎_elim}
use Rattle.std.proofs.lemmas.Bool.{cases_Bool}
use Rattle.attrs.specs.Clist.{has_pair}
use Rattle.filt_meaning.specs.declared.value.Failure.{Failure}
use Rattle.filt_meaning.specs.declared.value.Sort.TheVariants as sorts
use Rattle.filt_meaning.specs.Values.{Val, VInt, VBool, VIp, VPrefix, VPair, VString, VPath, VMask, VClist, VIntSet, VPairSet, VPrefixSet, VSource, VDest, VOrigin}
use Rattle.filt_meaning.specs.Operators.{and_then, quotient_of, joined, longer, with_pair, with_pairs, plus_of, minus_of, times_of, over_of, pair_of, equal_of, not_equal_of, less_of, less_or_equal_of, greater_of, greater_or_equal_of, matches_of, matches_not_of, prepended_of, added_of, deleted_of, filtered_of, truth_of, not_of, len_of, first_of, last_of, ip_of, emptied_of}
use Rattle.filt_meaning.specs.Sorts.{IsGiven, TakesOne, TakesTwo, added, compared, deleted, one_list, filtered, matched, measured, one_bool, one_path, one_prefix, ordered, prepended, two_ints, a_bool, a_pair, an_int, an_ip, the_same}

quotient_given : (a b : ℕ) → IsGiven sorts.Int (quotient_of a b)
quotient_given a b = ⊎_elim (λ t. rw t tt) (λ f. rw f refl) (cases_Bool (b == 0))

joined_given : (a b : ℕ) → IsGiven sorts.Pair (joined a b)
joined_given a b = ⊎_elim (λ t. rw t refl) (λ f. rw f tt) (cases_Bool (nat_lt a (2 ^ 16) && nat_lt b (2 ^ 16)))

longer_given : (p : List ℕ) (n : ℕ) → IsGiven sorts.Path (longer p n)
longer_given p n = ⊎_elim (λ t. rw t refl) (λ f. rw f tt) (cases_Bool (nat_lt (length p) 120))

abbrev as_list : Result (List (ℕ × ℕ)) Failure → Result Val Failure
as_list r = and_then r (λ more. Ok (VClist more))

pair_given : (l : List (ℕ × ℕ)) (p : ℕ × ℕ) → IsGiven sorts.Clist (as_list (with_pair l p))
pair_given l p =
    ⊎_elim
    (λ t. rw t refl)
    (λ f. ⊎_elim (λ t. rw f (rw t refl)) (λ g. rw f (rw g tt)) (cases_Bool (nat_lt (length l) 64)))
    (cases_Bool (has_pair l p))

list_given : (ps l : List (ℕ × ℕ)) → IsGiven sorts.Clist (as_list (with_pairs l ps))
list_given [] l = refl
list_given (p ∷ ps) l =
    ⊎_elim
    (λ t. rw t (list_given ps l))
    (λ f. ⊎_elim (λ t. rw f (rw t (list_given ps (l ++ p ∷ [])))) (λ g. rw f (rw g tt)) (cases_Bool (nat_lt (length l) 64)))
    (cases_Bool (has_pair l p))

pub plus_takes : TakesTwo two_ints an_int plus_of
plus_takes (VInt a) (VInt b) = refl
plus_takes _ _ = refl

pub minus_takes : TakesTwo two_ints an_int minus_of
minus_takes (VInt a) (VInt b) = refl
minus_takes _ _ = refl

pub times_takes : TakesTwo two_ints an_int times_of
times_takes (VInt a) (VInt b) = refl
times_takes _ _ = refl

pub over_takes : TakesTwo two_ints an_int over_of
over_takes (VInt a) (VInt b) = quotient_given a b
over_takes _ _ = refl

pub pair_takes : TakesTwo two_ints a_pair pair_of
pair_takes (VInt a) (VInt b) = joined_given a b
pair_takes _ _ = refl

pub equal_takes : TakesTwo compared a_bool equal_of
equal_takes (VInt a) (VInt b) = refl
equal_takes (VBool a) (VBool b) = refl
equal_takes (VIp a) (VIp b) = refl
equal_takes (VPrefix a) (VPrefix b) = refl
equal_takes (VPair a) (VPair b) = refl
equal_takes (VString a) (VString b) = refl
equal_takes (VPath a) (VPath b) = refl
equal_takes (VClist a) (VClist b) = refl
equal_takes (VSource a) (VSource b) = refl
equal_takes (VDest a) (VDest b) = refl
equal_takes (VOrigin a) (VOrigin b) = refl
equal_takes _ _ = refl

pub not_equal_takes : TakesTwo compared a_bool not_equal_of
not_equal_takes (VInt a) (VInt b) = refl
not_equal_takes (VBool a) (VBool b) = refl
not_equal_takes (VIp a) (VIp b) = refl
not_equal_takes (VPrefix a) (VPrefix b) = refl
not_equal_takes (VPair a) (VPair b) = refl
not_equal_takes (VString a) (VString b) = refl
not_equal_takes (VPath a) (VPath b) = refl
not_equal_takes (VClist a) (VClist b) = refl
not_equal_takes (VSource a) (VSource b) = refl
not_equal_takes (VDest a) (VDest b) = refl
not_equal_takes (VOrigin a) (VOrigin b) = refl
not_equal_takes _ _ = refl

pub less_takes : TakesTwo ordered a_bool less_of
less_takes (VInt a) (VInt b) = refl
less_takes (VPair a) (VPair b) = refl
less_takes (VIp a) (VIp b) = refl
less_takes _ _ = refl

pub less_or_equal_takes : TakesTwo ordered a_bool less_or_equal_of
less_or_equal_takes (VInt a) (VInt b) = refl
less_or_equal_takes (VPair a) (VPair b) = refl
less_or_equal_takes (VIp a) (VIp b) = refl
less_or_equal_takes _ _ = refl

pub greater_takes : TakesTwo ordered a_bool greater_of
greater_takes (VInt a) (VInt b) = refl
greater_takes (VPair a) (VPair b) = refl
greater_takes (VIp a) (VIp b) = refl
greater_takes _ _ = refl

pub greater_or_equal_takes : TakesTwo ordered a_bool greater_or_equal_of
greater_or_equal_takes (VInt a) (VInt b) = refl
greater_or_equal_takes (VPair a) (VPair b) = refl
greater_or_equal_takes (VIp a) (VIp b) = refl
greater_or_equal_takes _ _ = refl

pub matches_takes : TakesTwo matched a_bool matches_of
matches_takes (VInt a) (VIntSet b) = refl
matches_takes (VInt a) (VPath b) = refl
matches_takes (VPair a) (VPairSet b) = refl
matches_takes (VPair a) (VClist b) = refl
matches_takes (VPrefix a) (VPrefixSet b) = refl
matches_takes (VPrefix a) (VPrefix b) = refl
matches_takes (VIp a) (VPrefix b) = refl
matches_takes (VPath a) (VIntSet b) = refl
matches_takes (VPath a) (VMask b) = refl
matches_takes (VClist a) (VPairSet b) = refl
matches_takes _ _ = refl

pub matches_not_takes : TakesTwo matched a_bool matches_not_of
matches_not_takes (VInt a) (VIntSet b) = refl
matches_not_takes (VInt a) (VPath b) = refl
matches_not_takes (VPair a) (VPairSet b) = refl
matches_not_takes (VPair a) (VClist b) = refl
matches_not_takes (VPrefix a) (VPrefixSet b) = refl
matches_not_takes (VPrefix a) (VPrefix b) = refl
matches_not_takes (VIp a) (VPrefix b) = refl
matches_not_takes (VPath a) (VIntSet b) = refl
matches_not_takes (VPath a) (VMask b) = refl
matches_not_takes (VClist a) (VPairSet b) = refl
matches_not_takes _ _ = refl

pub prepended_takes : TakesTwo prepended the_same prepended_of
prepended_takes (VPath a) (VInt b) = longer_given a b
prepended_takes _ _ = refl

pub added_takes : TakesTwo added the_same added_of
added_takes (VClist a) (VPair b) = pair_given a b
added_takes (VClist a) (VClist b) = list_given b a
added_takes _ _ = refl

pub deleted_takes : TakesTwo deleted the_same deleted_of
deleted_takes (VPath a) (VInt b) = refl
deleted_takes (VPath a) (VIntSet b) = refl
deleted_takes (VClist a) (VPair b) = refl
deleted_takes (VClist a) (VPairSet b) = refl
deleted_takes (VClist a) (VClist b) = refl
deleted_takes _ _ = refl

pub filtered_takes : TakesTwo filtered the_same filtered_of
filtered_takes (VPath a) (VIntSet b) = refl
filtered_takes (VClist a) (VPairSet b) = refl
filtered_takes (VClist a) (VClist b) = refl
filtered_takes _ _ = refl

pub truth_takes : TakesOne one_bool a_bool truth_of
truth_takes (VBool a) = refl
truth_takes _ = refl

pub not_takes : TakesOne one_bool a_bool not_of
not_takes (VBool a) = refl
not_takes _ = refl

pub len_takes : TakesOne measured an_int len_of
len_takes (VPrefix a) = refl
len_takes (VPath a) = refl
len_takes (VClist a) = refl
len_takes _ = refl

pub first_takes : TakesOne one_path an_int first_of
first_takes (VPath a) = refl
first_takes _ = refl

pub last_takes : TakesOne one_path an_int last_of
last_takes (VPath a) = refl
last_takes _ = refl

pub ip_takes : TakesOne one_prefix an_ip ip_of
ip_takes (VPrefix a) = refl
ip_takes _ = refl

pub emptied_takes : TakesOne one_list the_same emptied_of
emptied_takes (VPath a) = refl
emptied_takes (VClist a) = refl
emptied_takes _ = refl
