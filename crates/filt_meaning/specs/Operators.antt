-- What each operator, property and method gives at values (`plus_of`, `equal_of`, `matches_of`,
-- `deleted_of`, .., one for each sign or word): a value, a fault, or `Stuck` where the values are
-- of other sorts than it takes. No typed filter comes to `Stuck`. Of a mask `cuts` tests what
-- `IsCut` says, by the law `lists_are_matched`.
-- From: BIRD User's Guide, "Filters", "Operators" and "Data types"; faults, wrapping and limits are
-- own.
-- Example: `4294967295 + 1` is 0, `0 - 1` is 4294967295, `7 / 0` is ZeroDivisor, `(x, 1)` with x =
-- 70000 is PairPart; `-empty-.add((1,2)).add((3,4))` isn't `-empty-.add((3,4)).add((1,2))`; the
-- path 2 1 2 3 without 2 is 1 3, filtered by `[2..3]` 2 2 3.
use Rattle.std.specs.Prelude.{ℕ, ◌+◌, ◌-◌, ◌*◌, ◌/◌, ◌%◌, ◌^◌, ◌==◌, Bool, ◌&&◌, not, nat_lt, if◌then◌else◌, List, [], ◌∷◌, ◌++◌, length, get_or, Result, Ok, Err}
use Rattle.std.specs.List.{filter, list_any}
use Rattle.std.specs.Cmp.Lexicographic.{pointwise}
use Rattle.std.specs.Ordering.{is_lt, is_le, is_gt, is_ge, nat_cmp}
use Rattle.std.specs.declared.cmp.Ordering.{Ordering}
use Rattle.bits_ip.specs.declared.address.Addr.{Addr}
use Rattle.bits_ip.specs.Prefix.{Net, same_addr, same_net}
use Rattle.filt_sets.specs.declared.ints.IntItem.{IntItem}
use Rattle.filt_sets.specs.declared.pairs.PairItem.{PairItem}
use Rattle.filt_sets.specs.Search.{cuts}
use Rattle.attrs.specs.declared.attributes.Kind.{Kind}
use Rattle.attrs.specs.declared.attributes.Dest.{Dest}
use Rattle.attrs.specs.declared.attributes.Origin.{Origin}
use Rattle.attrs.specs.declared.judge.FilterFault.TheVariants as faults
use Rattle.attrs.specs.Clist.{has_pair, same_pair}
use Rattle.filt_meaning.specs.declared.value.Failure.{Failure}
use Rattle.filt_meaning.specs.declared.value.Failure.TheVariants.{Fault, Stuck}
use Rattle.filt_meaning.specs.Members.{in_ints, in_pairs, in_nets, in_path, covers, host_of, addr_cmp, pair_cmp, same_bool, source_rank, dest_rank, origin_rank}
use Rattle.filt_meaning.specs.Values.{Val, VInt, VBool, VIp, VPrefix, VPair, VString, VPath, VMask, VClist, VIntSet, VPairSet, VPrefixSet, VSource, VDest, VOrigin}

-- ---- what a value is, of one sort

-- one thing after another
abbrev pub and_then :
    {A B : Type 0} → Result A Failure → (A → Result B Failure) → Result B Failure
and_then (Ok a) next = next a
and_then (Err failure) next = Err failure

abbrev pub int_in : Val → Result ℕ Failure
int_in (VInt n) = Ok n
int_in _ = Err Stuck

abbrev pub bool_in : Val → Result Bool Failure
bool_in (VBool b) = Ok b
bool_in _ = Err Stuck

abbrev pub ip_in : Val → Result Addr Failure
ip_in (VIp a) = Ok a
ip_in _ = Err Stuck

abbrev pub prefix_in : Val → Result Net Failure
prefix_in (VPrefix net) = Ok net
prefix_in _ = Err Stuck

abbrev pub pair_in : Val → Result (ℕ × ℕ) Failure
pair_in (VPair p) = Ok p
pair_in _ = Err Stuck

abbrev pub string_in : Val → Result (List ℕ) Failure
string_in (VString s) = Ok s
string_in _ = Err Stuck

abbrev pub path_in : Val → Result (List ℕ) Failure
path_in (VPath p) = Ok p
path_in _ = Err Stuck

abbrev pub clist_in : Val → Result (List (ℕ × ℕ)) Failure
clist_in (VClist l) = Ok l
clist_in _ = Err Stuck

abbrev pub int_set_in : Val → Result (List IntItem) Failure
int_set_in (VIntSet s) = Ok s
int_set_in _ = Err Stuck

abbrev pub pair_set_in : Val → Result (List PairItem) Failure
pair_set_in (VPairSet s) = Ok s
pair_set_in _ = Err Stuck

abbrev pub source_in : Val → Result Kind Failure
source_in (VSource k) = Ok k
source_in _ = Err Stuck

abbrev pub dest_in : Val → Result Dest Failure
dest_in (VDest d) = Ok d
dest_in _ = Err Stuck

abbrev pub origin_in : Val → Result Origin Failure
origin_in (VOrigin o) = Ok o
origin_in _ = Err Stuck

-- a truth value as the answer
abbrev pub says : Bool → Result Val Failure
says b = Ok (VBool b)

-- ---- `+`, `-`, `*`, `/`: numbers, modulo 2 ^ 32

abbrev pub plus_of : Val → Val → Result Val Failure
plus_of v w = and_then (int_in v) (λ a. and_then (int_in w) (λ b. Ok (VInt ((a + b) % 2 ^ 32))))

abbrev pub minus_of : Val → Val → Result Val Failure
minus_of v w =
    and_then (int_in v) (λ a. and_then (int_in w) (λ b. Ok (VInt ((a + (2 ^ 32 - b)) % 2 ^ 32))))

abbrev pub times_of : Val → Val → Result Val Failure
times_of v w = and_then (int_in v) (λ a. and_then (int_in w) (λ b. Ok (VInt ((a * b) % 2 ^ 32))))

abbrev pub quotient_of : ℕ → ℕ → Result Val Failure
quotient_of a b = if b == 0 then Err (Fault faults.ZeroDivisor) else Ok (VInt (a / b))

abbrev pub over_of : Val → Val → Result Val Failure
over_of v w = and_then (int_in v) (λ a. and_then (int_in w) (λ b. quotient_of a b))

-- ---- `!`, and the conditions of statements

abbrev pub truth_of : Val → Result Val Failure
truth_of v = and_then (bool_in v) (λ b. says b)

abbrev pub not_of : Val → Result Val Failure
not_of v = and_then (bool_in v) (λ b. says (not b))

-- ---- `(a, b)`

-- both parts have 16 bits
abbrev pub joined : ℕ → ℕ → Result Val Failure
joined a b =
    if nat_lt a (2 ^ 16) && nat_lt b (2 ^ 16) then Ok (VPair (a, b))
    else Err (Fault faults.PairPart)

abbrev pub pair_of : Val → Val → Result Val Failure
pair_of v w = and_then (int_in v) (λ a. and_then (int_in w) (λ b. joined a b))

-- ---- `=`, `!=`: two of one sort, but for sets and masks; lists in their order

abbrev pub equal_of : Val → Val → Result Val Failure
equal_of (VInt a) w = and_then (int_in w) (λ b. says (a == b))
equal_of (VBool a) w = and_then (bool_in w) (λ b. says (same_bool a b))
equal_of (VIp a) w = and_then (ip_in w) (λ b. says (same_addr a b))
equal_of (VPrefix a) w = and_then (prefix_in w) (λ b. says (same_net a b))
equal_of (VPair a) w = and_then (pair_in w) (λ b. says (same_pair a b))
equal_of (VString a) w = and_then (string_in w) (λ b. says (pointwise ◌==◌ a b))
equal_of (VPath a) w = and_then (path_in w) (λ b. says (pointwise ◌==◌ a b))
equal_of (VClist a) w = and_then (clist_in w) (λ b. says (pointwise same_pair a b))
equal_of (VSource a) w = and_then (source_in w) (λ b. says (source_rank a == source_rank b))
equal_of (VDest a) w = and_then (dest_in w) (λ b. says (dest_rank a == dest_rank b))
equal_of (VOrigin a) w = and_then (origin_in w) (λ b. says (origin_rank a == origin_rank b))
equal_of (VMask a) w = Err Stuck
equal_of (VIntSet a) w = Err Stuck
equal_of (VPairSet a) w = Err Stuck
equal_of (VPrefixSet a) w = Err Stuck

abbrev pub not_equal_of : Val → Val → Result Val Failure
not_equal_of v w = and_then (equal_of v w) not_of

-- ---- `<`, `<=`, `>`, `>=`: numbers, pairs and addresses

abbrev pub order_of : Val → Val → Result Ordering Failure
order_of (VInt a) w = and_then (int_in w) (λ b. Ok (nat_cmp a b))
order_of (VPair a) w = and_then (pair_in w) (λ b. Ok (pair_cmp a b))
order_of (VIp a) w = and_then (ip_in w) (λ b. Ok (addr_cmp a b))
order_of _ w = Err Stuck

abbrev pub less_of : Val → Val → Result Val Failure
less_of v w = and_then (order_of v w) (λ order. says (is_lt order))

abbrev pub less_or_equal_of : Val → Val → Result Val Failure
less_or_equal_of v w = and_then (order_of v w) (λ order. says (is_le order))

abbrev pub greater_of : Val → Val → Result Val Failure
greater_of v w = and_then (order_of v w) (λ order. says (is_gt order))

abbrev pub greater_or_equal_of : Val → Val → Result Val Failure
greater_or_equal_of v w = and_then (order_of v w) (λ order. says (is_ge order))

-- ---- `~`, `!~`

-- a number in a set, or in a path
abbrev pub has_int : Val → ℕ → Result Val Failure
has_int (VIntSet s) n = says (in_ints s n)
has_int (VPath p) n = says (in_path p n)
has_int _ n = Err Stuck

-- a pair in a set, or in a list of communities
abbrev pub has_one_pair : Val → (ℕ × ℕ) → Result Val Failure
has_one_pair (VPairSet s) p = says (in_pairs s p)
has_one_pair (VClist l) p = says (has_pair l p)
has_one_pair _ p = Err Stuck

-- a prefix in a set, or within another
abbrev pub has_net : Val → Net → Result Val Failure
has_net (VPrefixSet s) net = says (in_nets s net)
has_net (VPrefix other) net = says (covers other net)
has_net _ net = Err Stuck

-- a path of which some number is in a set, or the whole of which a mask matches
abbrev pub takes_path : Val → List ℕ → Result Val Failure
takes_path (VIntSet s) p = says (list_any (λ n. in_ints s n) p)
takes_path (VMask m) p = says (cuts m p)
takes_path _ p = Err Stuck

-- a list of communities of which some is in a set
abbrev pub takes_clist : Val → List (ℕ × ℕ) → Result Val Failure
takes_clist w l = and_then (pair_set_in w) (λ s. says (list_any (λ p. in_pairs s p) l))

abbrev pub matches_of : Val → Val → Result Val Failure
matches_of (VInt n) w = has_int w n
matches_of (VPair p) w = has_one_pair w p
matches_of (VPrefix net) w = has_net w net
matches_of (VIp a) w = and_then (prefix_in w) (λ net. says (covers net (host_of a)))
matches_of (VPath p) w = takes_path w p
matches_of (VClist l) w = takes_clist w l
matches_of _ w = Err Stuck

abbrev pub matches_not_of : Val → Val → Result Val Failure
matches_not_of v w = and_then (matches_of v w) not_of

-- ---- properties

abbrev pub len_of : Val → Result Val Failure
len_of (VPrefix net) = Ok (VInt net.len)
len_of (VPath p) = Ok (VInt (length p))
len_of (VClist l) = Ok (VInt (length l))
len_of _ = Err Stuck

-- the nearest autonomous system, and 0 where there is none
abbrev pub first_of : Val → Result Val Failure
first_of v = and_then (path_in v) (λ p. Ok (VInt (get_or p 0 0)))

abbrev pub last_of : Val → Result Val Failure
last_of v = and_then (path_in v) (λ p. Ok (VInt (get_or p (length p - 1) 0)))

abbrev pub ip_of : Val → Result Val Failure
ip_of v = and_then (prefix_in v) (λ net. Ok (VIp net.addr))

-- ---- methods: `prepend`, `add`, `delete`, `filter`, and `empty`

abbrev pub longer : List ℕ → ℕ → Result Val Failure
longer p n = if nat_lt (length p) 120 then Ok (VPath (n ∷ p)) else Err (Fault faults.PathLong)

abbrev pub prepended_of : Val → Val → Result Val Failure
prepended_of v w = and_then (path_in v) (λ p. and_then (int_in w) (λ n. longer p n))

-- a community behind the others, if it isn't there yet
abbrev pub with_pair : List (ℕ × ℕ) → (ℕ × ℕ) → Result (List (ℕ × ℕ)) Failure
with_pair l p =
    if has_pair l p then Ok l
    else (if nat_lt (length l) 64 then Ok (l ++ p ∷ []) else Err (Fault faults.ClistLong))

-- each of these in turn
abbrev pub with_pairs : List (ℕ × ℕ) → List (ℕ × ℕ) → Result (List (ℕ × ℕ)) Failure
with_pairs l [] = Ok l
with_pairs l (p ∷ ps) = and_then (with_pair l p) (λ more. with_pairs more ps)

abbrev pub added_to : List (ℕ × ℕ) → Val → Result (List (ℕ × ℕ)) Failure
added_to l (VPair p) = with_pair l p
added_to l (VClist ps) = with_pairs l ps
added_to l _ = Err Stuck

abbrev pub added_of : Val → Val → Result Val Failure
added_of v w = and_then (clist_in v) (λ l. and_then (added_to l w) (λ more. Ok (VClist more)))

-- the members of a path that `delete` and `filter` speak of
abbrev pub numbers_without : List ℕ → Val → Result (List ℕ) Failure
numbers_without p (VInt n) = Ok (filter (λ m. not (m == n)) p)
numbers_without p (VIntSet s) = Ok (filter (λ m. not (in_ints s m)) p)
numbers_without p _ = Err Stuck

abbrev pub numbers_within : List ℕ → Val → Result (List ℕ) Failure
numbers_within p w = and_then (int_set_in w) (λ s. Ok (filter (λ m. in_ints s m) p))

abbrev pub pairs_without : List (ℕ × ℕ) → Val → Result (List (ℕ × ℕ)) Failure
pairs_without l (VPair p) = Ok (filter (λ q. not (same_pair q p)) l)
pairs_without l (VPairSet s) = Ok (filter (λ q. not (in_pairs s q)) l)
pairs_without l (VClist ps) = Ok (filter (λ q. not (has_pair ps q)) l)
pairs_without l _ = Err Stuck

abbrev pub pairs_within : List (ℕ × ℕ) → Val → Result (List (ℕ × ℕ)) Failure
pairs_within l (VPairSet s) = Ok (filter (λ q. in_pairs s q) l)
pairs_within l (VClist ps) = Ok (filter (λ q. has_pair ps q) l)
pairs_within l _ = Err Stuck

abbrev pub deleted_of : Val → Val → Result Val Failure
deleted_of (VPath p) w = and_then (numbers_without p w) (λ left. Ok (VPath left))
deleted_of (VClist l) w = and_then (pairs_without l w) (λ left. Ok (VClist left))
deleted_of _ w = Err Stuck

abbrev pub filtered_of : Val → Val → Result Val Failure
filtered_of (VPath p) w = and_then (numbers_within p w) (λ left. Ok (VPath left))
filtered_of (VClist l) w = and_then (pairs_within l w) (λ left. Ok (VClist left))
filtered_of _ w = Err Stuck

abbrev pub emptied_of : Val → Result Val Failure
emptied_of (VPath p) = Ok (VPath [])
emptied_of (VClist l) = Ok (VClist [])
emptied_of _ = Err Stuck
