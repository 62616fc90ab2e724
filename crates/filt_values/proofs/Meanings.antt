-- What operators give, in the words of the relations below, and of `≡`.
use Rattle.std.proofs.Common.{◌≡◌, ℕ, zero, suc, ◌==◌, Bool, true, false, not, List, Err, ◌↔◌, refl, sym, ap, ◌∙◌}
use Rattle.std.specs.Bool.{Decides}
use Rattle.std.specs.List.{Any}
use Rattle.std.specs.Cmp.Lexicographic.{pointwise}
use Rattle.std.proofs.lemmas.Bool.Decides.{Decides-eqb, Decides-and, Decides-like}
use Rattle.std.proofs.lemmas.Slice.Eq.{slice_eq-Decides}
use Rattle.bits_ip.specs.declared.address.Addr.{Addr}
use Rattle.bits_ip.specs.declared.address.Addr.TheVariants.{V4, V6}
use Rattle.bits_ip.specs.Prefix.{Net, Covers, same_addr, same_net}
use Rattle.filt_sets.specs.declared.ints.IntItem.{IntItem}
use Rattle.filt_sets.specs.declared.pairs.PairItem.{PairItem}
use Rattle.filt_sets.specs.declared.prefixes.PrefixItem.{PrefixItem}
use Rattle.filt_sets.specs.declared.mask.MaskItem.{MaskItem}
use Rattle.filt_sets.specs.Sets.{TakesInt, TakesPair, TakesNet}
use Rattle.filt_sets.specs.Mask.{IsCut}
use Rattle.filt_sets.specs.Search.{cuts}
use Rattle.filt_sets.proofs.Cuts.{cuts_decide}
use Rattle.attrs.specs.declared.attributes.Kind.{Kind}
use Rattle.attrs.specs.declared.attributes.Kind.TheVariants.{Static, Bgp}
use Rattle.attrs.specs.declared.attributes.Dest.{Dest}
use Rattle.attrs.specs.declared.attributes.Dest.TheVariants.{Unicast, Blackhole, Unreachable, Prohibit}
use Rattle.attrs.specs.declared.attributes.Origin.{Origin}
use Rattle.attrs.specs.declared.attributes.Origin.TheVariants.{Igp, Egp, Incomplete}
use Rattle.attrs.specs.Clist.{same_pair}
use Rattle.filt_meaning.specs.declared.value.Failure.{Failure}
use Rattle.filt_meaning.specs.Members.{in_ints, in_pairs, host_of, same_bool, source_rank, dest_rank, origin_rank, takes_int, takes_pair, takes_net}
use Rattle.filt_meaning.specs.Values.{Val, VInt, VBool, VIp, VPrefix, VPair, VString, VPath, VMask, VClist, VIntSet, VPairSet, VPrefixSet, VSource, VDest, VOrigin, sort_of}
use Rattle.filt_meaning.specs.Operators.{and_then, equal_of, matches_not_of, matches_of, not_equal_of, not_of, says}
use Rattle.filt_meaning.specs.Sorts.{compared}
use Rattle.filt_values.proofs.Elements.{any_decides, covers_decides, int_decides, net_decides, pair_decides}

-- ---- contraries

pub matches_said : (v w : Val) (b : Bool) → matches_of v w ≡ says b → matches_not_of v w ≡ says (not b)
matches_said v w b is = ap (λ r. and_then r not_of) is

pub matches_failed : (v w : Val) (failure : Failure) → matches_of v w ≡ Err failure → matches_not_of v w ≡ Err failure
matches_failed v w failure is = ap (λ r. and_then r not_of) is

pub equal_said : (v w : Val) (b : Bool) → equal_of v w ≡ says b → not_equal_of v w ≡ says (not b)
equal_said v w b is = ap (λ r. and_then r not_of) is

pub equal_failed : (v w : Val) (failure : Failure) → equal_of v w ≡ Err failure → not_equal_of v w ≡ Err failure
equal_failed v w failure is = ap (λ r. and_then r not_of) is

-- ---- `~`

said_true : (b : Bool) → says b ≡ says true → b ≡ true
said_true true is = refl
said_true false is = absurd (cc)

-- an answer that tells whether P holds
told : (b : Bool) {P : Type 0} → (b ≡ true → P) × (P → b ≡ true) → (says b ≡ says true) ↔ P
told b decides = (λ is. decides.0 (said_true b is), λ holds. ap (λ t. says t) (decides.1 holds))

same_pair_decides : (q p : ℕ × ℕ) → (same_pair q p ≡ true → q ≡ p) × (q ≡ p → same_pair q p ≡ true)
same_pair_decides q p = Decides-like _ (λ h. λ i. (h.0 i, h.1 i)) (λ h. (ap (λ r. r.0) h, ap (λ r. r.1) h)) (Decides-and (q.0 == p.0) (q.1 == p.1) (Decides-eqb q.0 p.0) (Decides-eqb q.1 p.1))

pub int_in_set : (n : ℕ) (items : List IntItem) → (matches_of (VInt n) (VIntSet items) ≡ says true) ↔ Any (λ item. TakesInt item n) items
int_in_set n items = told _ (any_decides (λ item. takes_int item n) (λ item. TakesInt item n) items (int_decides n))

pub pair_in_set : (p : ℕ × ℕ) (items : List PairItem) → (matches_of (VPair p) (VPairSet items) ≡ says true) ↔ Any (λ item. TakesPair item p.0 p.1) items
pair_in_set p items = told _ (any_decides (λ item. takes_pair item p) (λ item. TakesPair item p.0 p.1) items (pair_decides p))

pub net_in_set : (net : Net) (items : List PrefixItem) → (matches_of (VPrefix net) (VPrefixSet items) ≡ says true) ↔ Any (λ item. TakesNet item net) items
net_in_set net items = told _ (any_decides (λ item. takes_net item net) (λ item. TakesNet item net) items (net_decides net))

pub net_within : (net other : Net) → (matches_of (VPrefix net) (VPrefix other) ≡ says true) ↔ Covers other net
net_within net other = told _ (covers_decides other net)

pub ip_within : (a : Addr) (net : Net) → (matches_of (VIp a) (VPrefix net) ≡ says true) ↔ Covers net (host_of a)
ip_within a net = told _ (covers_decides net (host_of a))

pub int_in_path : (n : ℕ) (path : List ℕ) → (matches_of (VInt n) (VPath path) ≡ says true) ↔ Any (λ m. m ≡ n) path
int_in_path n path = told _ (any_decides (λ m. m == n) (λ m. m ≡ n) path (λ m. Decides-eqb m n))

pub pair_in_list : (p : ℕ × ℕ) (list : List (ℕ × ℕ)) → (matches_of (VPair p) (VClist list) ≡ says true) ↔ Any (λ q. q ≡ p) list
pair_in_list p list = told _ (any_decides (λ q. same_pair q p) (λ q. q ≡ p) list (λ q. same_pair_decides q p))

pub some_number : (path : List ℕ) (items : List IntItem) → (matches_of (VPath path) (VIntSet items) ≡ says true) ↔ Any (λ n. Any (λ item. TakesInt item n) items) path
some_number path items = told _ (any_decides (λ n. in_ints items n) (λ n. Any (λ item. TakesInt item n) items) path (λ n. any_decides (λ item. takes_int item n) (λ item. TakesInt item n) items (int_decides n)))

pub some_pair : (list : List (ℕ × ℕ)) (items : List PairItem) → (matches_of (VClist list) (VPairSet items) ≡ says true) ↔ Any (λ p. Any (λ item. TakesPair item p.0 p.1) items) list
some_pair list items = told _ (any_decides (λ p. in_pairs items p) (λ p. Any (λ item. TakesPair item p.0 p.1) items) list (λ p. any_decides (λ item. takes_pair item p) (λ item. TakesPair item p.0 p.1) items (pair_decides p)))

pub mask_matches : (path : List ℕ) (items : List MaskItem) → (matches_of (VPath path) (VMask items) ≡ says true) ↔ IsCut items path
mask_matches path items = let k = cuts_decide items items path (cuts items path) refl refl in told (cuts items path) (k.0, k.1)

-- ---- `=`

-- the same of values that are made of what is compared
same : {X : Type 0} (make : X → Val) (a b : X) (t : Bool) → (make a ≡ make b → a ≡ b) → Decides t (a ≡ b) → (says t ≡ says true) ↔ (make a ≡ make b)
same make a b t back decides = told t (λ is. ap make (decides.0 is), λ is. decides.1 (back is))

list_decides : {X : Type 0} {E : X → X → Bool} → ((a b : X) → Decides (E a b) (a ≡ b)) → (xs ys : List X) → Decides (pointwise E xs ys) (xs ≡ ys)
list_decides {X} {E} decides xs ys = slice_eq-Decides decides xs ys (pointwise E xs ys) refl

bool_decides : (a b : Bool) → Decides (same_bool a b) (a ≡ b)
bool_decides true true = (λ _. refl, λ _. refl)
bool_decides false false = (λ _. refl, λ _. refl)
bool_decides true false = (λ h. absurd (cc), λ h. absurd (cc))
bool_decides false true = (λ h. absurd (cc), λ h. absurd (cc))

addr_decides : (a b : Addr) → Decides (same_addr a b) (a ≡ b)
addr_decides (V4 m) (V4 n) = Decides-like _ (λ h. ap V4 h) (λ h. cc) (Decides-eqb m n)
addr_decides (V6 m) (V6 n) = Decides-like _ (λ h. ap V6 h) (λ h. cc) (Decides-eqb m n)
addr_decides (V4 m) (V6 n) = (λ h. absurd (cc), λ h. absurd (cc))
addr_decides (V6 m) (V4 n) = (λ h. absurd (cc), λ h. absurd (cc))

net_same : (a b : Net) → Decides (same_net a b) (a ≡ b)
net_same a b =
    Decides-like _
    (λ h. λ i. record { addr = h.0 i; len = h.1 i })
    (λ h. (ap (λ n. n.addr) h, ap (λ n. n.len) h))
    (Decides-and (same_addr a.addr b.addr) (a.len == b.len) (addr_decides a.addr b.addr) (Decides-eqb a.len b.len))

abbrev source_back : ℕ → Kind
source_back zero = Static
source_back _ = Bgp

source_there : (k : Kind) → source_back (source_rank k) ≡ k
source_there Static = refl
source_there Bgp = refl

source_decides : (a b : Kind) → Decides (source_rank a == source_rank b) (a ≡ b)
source_decides a b =
    Decides-like _
    (λ h. sym (source_there a) ∙ ap source_back h ∙ source_there b)
    (λ h. ap source_rank h)
    (Decides-eqb (source_rank a) (source_rank b))

abbrev dest_back : ℕ → Dest
dest_back zero = Unicast
dest_back (suc zero) = Blackhole
dest_back (suc (suc zero)) = Unreachable
dest_back _ = Prohibit

dest_there : (d : Dest) → dest_back (dest_rank d) ≡ d
dest_there Unicast = refl
dest_there Blackhole = refl
dest_there Unreachable = refl
dest_there Prohibit = refl

dest_decides : (a b : Dest) → Decides (dest_rank a == dest_rank b) (a ≡ b)
dest_decides a b =
    Decides-like _
    (λ h. sym (dest_there a) ∙ ap dest_back h ∙ dest_there b)
    (λ h. ap dest_rank h)
    (Decides-eqb (dest_rank a) (dest_rank b))

abbrev origin_back : ℕ → Origin
origin_back zero = Igp
origin_back (suc zero) = Egp
origin_back _ = Incomplete

origin_there : (o : Origin) → origin_back (origin_rank o) ≡ o
origin_there Igp = refl
origin_there Egp = refl
origin_there Incomplete = refl

origin_decides : (a b : Origin) → Decides (origin_rank a == origin_rank b) (a ≡ b)
origin_decides a b =
    Decides-like _
    (λ h. sym (origin_there a) ∙ ap origin_back h ∙ origin_there b)
    (λ h. ap origin_rank h)
    (Decides-eqb (origin_rank a) (origin_rank b))

pub equal_same : (v w : Val) → compared (sort_of v) (sort_of w) ≡ true → (equal_of v w ≡ says true) ↔ (v ≡ w)
equal_same (VInt a) (VInt b) c = same VInt a b _ (λ h. cc) (Decides-eqb a b)
equal_same (VBool a) (VBool b) c = same VBool a b _ (λ h. cc) (bool_decides a b)
equal_same (VIp a) (VIp b) c = same VIp a b _ (λ h. cc) (addr_decides a b)
equal_same (VPrefix a) (VPrefix b) c = same VPrefix a b _ (λ h. cc) (net_same a b)
equal_same (VPair a) (VPair b) c = same VPair a b _ (λ h. cc) (same_pair_decides a b)
equal_same (VString a) (VString b) c = same VString a b _ (λ h. cc) (list_decides Decides-eqb a b)
equal_same (VPath a) (VPath b) c = same VPath a b _ (λ h. cc) (list_decides Decides-eqb a b)
equal_same (VClist a) (VClist b) c = same VClist a b _ (λ h. cc) (list_decides same_pair_decides a b)
equal_same (VSource a) (VSource b) c = same VSource a b _ (λ h. cc) (source_decides a b)
equal_same (VDest a) (VDest b) c = same VDest a b _ (λ h. cc) (dest_decides a b)
equal_same (VOrigin a) (VOrigin b) c = same VOrigin a b _ (λ h. cc) (origin_decides a b)
equal_same _ _ c = absurd (cc)
