-- Tests and properties never fault: they give a value, or are stuck.
use Rattle.std.proofs.Common.{◌≡◌, ℕ, ◌-◌, ◌==◌, Bool, not, List, length, get_or, Result, Ok, Err, refl}
use Rattle.std.specs.List.{list_any}
use Rattle.std.specs.Cmp.Lexicographic.{pointwise}
use Rattle.std.specs.Ordering.{is_lt, is_le, is_gt, is_ge, nat_cmp}
use Rattle.std.specs.declared.cmp.Ordering.{Ordering}
use Rattle.bits_ip.specs.declared.address.Addr.{Addr}
use Rattle.bits_ip.specs.Prefix.{Net, same_addr, same_net}
use Rattle.filt_sets.specs.declared.ints.IntItem.{IntItem}
use Rattle.filt_sets.specs.declared.pairs.PairItem.{PairItem}
use Rattle.filt_sets.specs.Search.{cuts}
use Rattle.attrs.specs.declared.attributes.Kind.{Kind}
use Rattle.attrs.specs.declared.attributes.Dest.{Dest}
use Rattle.attrs.specs.declared.attributes.Origin.{Origin}
use Rattle.attrs.specs.Clist.{has_pair, same_pair}
use Rattle.filt_meaning.specs.declared.value.Failure.{Failure}
use Rattle.filt_meaning.specs.declared.value.Failure.TheVariants.{Fault, Stuck}
use Rattle.filt_meaning.specs.Members.{in_ints, in_pairs, in_nets, in_path, covers, host_of, addr_cmp, pair_cmp, same_bool, source_rank, dest_rank, origin_rank}
use Rattle.filt_meaning.specs.Operators.{and_then, says, int_in, bool_in, ip_in, prefix_in, pair_in, string_in, path_in, clist_in, pair_set_in, source_in, dest_in, origin_in, truth_of, not_of, equal_of, not_equal_of, order_of, less_of, less_or_equal_of, greater_of, greater_or_equal_of, has_int, has_one_pair, has_net, takes_path, takes_clist, matches_of, matches_not_of, len_of, first_of, last_of, ip_of}
use Rattle.filt_meaning.specs.Sorts.{IsNoFault}
use Rattle.filt_meaning.specs.Values.{Val, VInt, VBool, VIp, VPrefix, VPair, VString, VPath, VMask, VClist, VIntSet, VPairSet, VPrefixSet, VSource, VDest, VOrigin}

fine : {A : Type 0} (a : A) → IsNoFault {A = A} (Ok a)
fine a fault same = cc

stuck : {A : Type 0} → IsNoFault {A = A} (Err Stuck)
stuck fault same = cc

behind : {A B : Type 0} (r : Result A Failure) (next : A → Result B Failure) → IsNoFault r
    → ((a : A) → IsNoFault (next a)) → IsNoFault (and_then r next)
behind (Ok a) next never more = more a
behind (Err Stuck) next never more = stuck
behind (Err (Fault f)) next never more = absurd (never f refl)

int_fine : (v : Val) → IsNoFault (int_in v)
int_fine (VInt n) = fine n
int_fine _ = stuck

pub truth_fine : (v : Val) → IsNoFault (truth_of v)
truth_fine (VBool b) = fine (VBool b)
truth_fine _ = stuck

pub not_fine : (v : Val) → IsNoFault (not_of v)
not_fine (VBool b) = fine (VBool (not b))
not_fine _ = stuck

bool_fine : (v : Val) → IsNoFault (bool_in v)
bool_fine (VBool b) = fine b
bool_fine _ = stuck

addr_fine : (v : Val) → IsNoFault (ip_in v)
addr_fine (VIp a) = fine a
addr_fine _ = stuck

prefix_fine : (v : Val) → IsNoFault (prefix_in v)
prefix_fine (VPrefix n) = fine n
prefix_fine _ = stuck

pair_fine : (v : Val) → IsNoFault (pair_in v)
pair_fine (VPair p) = fine p
pair_fine _ = stuck

string_fine : (v : Val) → IsNoFault (string_in v)
string_fine (VString s) = fine s
string_fine _ = stuck

path_fine : (v : Val) → IsNoFault (path_in v)
path_fine (VPath p) = fine p
path_fine _ = stuck

clist_fine : (v : Val) → IsNoFault (clist_in v)
clist_fine (VClist l) = fine l
clist_fine _ = stuck

pair_set_fine : (v : Val) → IsNoFault (pair_set_in v)
pair_set_fine (VPairSet s) = fine s
pair_set_fine _ = stuck

source_fine : (v : Val) → IsNoFault (source_in v)
source_fine (VSource k) = fine k
source_fine _ = stuck

dest_fine : (v : Val) → IsNoFault (dest_in v)
dest_fine (VDest d) = fine d
dest_fine _ = stuck

origin_fine : (v : Val) → IsNoFault (origin_in v)
origin_fine (VOrigin o) = fine o
origin_fine _ = stuck

-- a test of what is taken from a value
tested : {A : Type 0} (r : Result A Failure) (test : A → Bool) → IsNoFault r
    → IsNoFault (and_then r (λ a. says (test a)))
tested r test never = behind r (λ a. says (test a)) never (λ a. fine (VBool (test a)))

pub equal_fine : (v w : Val) → IsNoFault (equal_of v w)
equal_fine (VInt a) w = tested (int_in w) (λ b. a == b) (int_fine w)
equal_fine (VBool a) w = tested (bool_in w) (λ b. same_bool a b) (bool_fine w)
equal_fine (VIp a) w = tested (ip_in w) (λ b. same_addr a b) (addr_fine w)
equal_fine (VPrefix a) w = tested (prefix_in w) (λ b. same_net a b) (prefix_fine w)
equal_fine (VPair a) w = tested (pair_in w) (λ b. same_pair a b) (pair_fine w)
equal_fine (VString a) w = tested (string_in w) (λ b. pointwise ◌==◌ a b) (string_fine w)
equal_fine (VPath a) w = tested (path_in w) (λ b. pointwise ◌==◌ a b) (path_fine w)
equal_fine (VClist a) w = tested (clist_in w) (λ b. pointwise same_pair a b) (clist_fine w)
equal_fine (VSource a) w = tested (source_in w) (λ b. source_rank a == source_rank b) (source_fine w)
equal_fine (VDest a) w = tested (dest_in w) (λ b. dest_rank a == dest_rank b) (dest_fine w)
equal_fine (VOrigin a) w = tested (origin_in w) (λ b. origin_rank a == origin_rank b) (origin_fine w)
equal_fine (VMask a) w = stuck
equal_fine (VIntSet a) w = stuck
equal_fine (VPairSet a) w = stuck
equal_fine (VPrefixSet a) w = stuck

pub not_equal_fine : (v w : Val) → IsNoFault (not_equal_of v w)
not_equal_fine v w = behind (equal_of v w) not_of (equal_fine v w) not_fine

order_fine : (v w : Val) → IsNoFault (order_of v w)
order_fine (VInt a) w = behind (int_in w) (λ b. Ok (nat_cmp a b)) (int_fine w) (λ b. fine (nat_cmp a b))
order_fine (VPair a) w = behind (pair_in w) (λ b. Ok (pair_cmp a b)) (pair_fine w) (λ b. fine (pair_cmp a b))
order_fine (VIp a) w = behind (ip_in w) (λ b. Ok (addr_cmp a b)) (addr_fine w) (λ b. fine (addr_cmp a b))
order_fine _ w = stuck

pub less_fine : (v w : Val) → IsNoFault (less_of v w)
less_fine v w = tested (order_of v w) is_lt (order_fine v w)

pub less_or_equal_fine : (v w : Val) → IsNoFault (less_or_equal_of v w)
less_or_equal_fine v w = tested (order_of v w) is_le (order_fine v w)

pub greater_fine : (v w : Val) → IsNoFault (greater_of v w)
greater_fine v w = tested (order_of v w) is_gt (order_fine v w)

pub greater_or_equal_fine : (v w : Val) → IsNoFault (greater_or_equal_of v w)
greater_or_equal_fine v w = tested (order_of v w) is_ge (order_fine v w)

has_int_fine : (w : Val) (n : ℕ) → IsNoFault (has_int w n)
has_int_fine (VIntSet s) n = fine (VBool (in_ints s n))
has_int_fine (VPath p) n = fine (VBool (in_path p n))
has_int_fine _ n = stuck

has_pair_fine : (w : Val) (p : ℕ × ℕ) → IsNoFault (has_one_pair w p)
has_pair_fine (VPairSet s) p = fine (VBool (in_pairs s p))
has_pair_fine (VClist l) p = fine (VBool (has_pair l p))
has_pair_fine _ p = stuck

has_net_fine : (w : Val) (net : Net) → IsNoFault (has_net w net)
has_net_fine (VPrefixSet s) net = fine (VBool (in_nets s net))
has_net_fine (VPrefix other) net = fine (VBool (covers other net))
has_net_fine _ net = stuck

takes_path_fine : (w : Val) (p : List ℕ) → IsNoFault (takes_path w p)
takes_path_fine (VIntSet s) p = fine (VBool (list_any (λ n. in_ints s n) p))
takes_path_fine (VMask m) p = fine (VBool (cuts m p))
takes_path_fine _ p = stuck

pub matches_fine : (v w : Val) → IsNoFault (matches_of v w)
matches_fine (VInt n) w = has_int_fine w n
matches_fine (VPair p) w = has_pair_fine w p
matches_fine (VPrefix net) w = has_net_fine w net
matches_fine (VIp a) w = tested (prefix_in w) (λ net. covers net (host_of a)) (prefix_fine w)
matches_fine (VPath p) w = takes_path_fine w p
matches_fine (VClist l) w = tested (pair_set_in w) (λ s. list_any (λ p. in_pairs s p) l) (pair_set_fine w)
matches_fine _ w = stuck

pub matches_not_fine : (v w : Val) → IsNoFault (matches_not_of v w)
matches_not_fine v w = behind (matches_of v w) not_of (matches_fine v w) not_fine

pub len_fine : (v : Val) → IsNoFault (len_of v)
len_fine (VPrefix net) = fine (VInt net.len)
len_fine (VPath p) = fine (VInt (length p))
len_fine (VClist l) = fine (VInt (length l))
len_fine _ = stuck

pub first_fine : (v : Val) → IsNoFault (first_of v)
first_fine v = behind (path_in v) (λ p. Ok (VInt (get_or p 0 0))) (path_fine v) (λ p. fine (VInt (get_or p 0 0)))

pub last_fine : (v : Val) → IsNoFault (last_of v)
last_fine v = behind (path_in v) (λ p. Ok (VInt (get_or p (length p - 1) 0))) (path_fine v) (λ p. fine (VInt (get_or p (length p - 1) 0)))

pub ip_fine : (v : Val) → IsNoFault (ip_of v)
ip_fine v = behind (prefix_in v) (λ net. Ok (VIp net.addr)) (prefix_fine v) (λ net. fine (VIp net.addr))
