-- What the items of sets and masks come to.
use Rattle.std.proofs.Common.{◌≡◌, ◌≢◌, ◌↔◌, ℕ, ◌<◌, ◌≤◌, ◌-◌, ◌*◌, ◌/◌, ◌%◌, ◌^◌, min, true, false, List, [], ◌∷◌, ◌++◌, length, All, refl, sym, ap, ◌∙◌, arith, append-nil, append_assoc}
use Rattle.std.specs.List.{concat}
use Rattle.std.proofs.lemmas.List.Elements.{All-cons, All-head, All-nil, All-tail}
use Rattle.std.proofs.lemmas.Nat.{pow_pos}
use Rattle.bits_ip.specs.declared.address.Addr.{Addr}
use Rattle.bits_ip.specs.declared.address.Addr.TheVariants.{V4, V6}
use Rattle.bits_ip.specs.Address.{family_of, width_of}
use Rattle.bits_ip.specs.Prefix.{Net, IsPrefix, Covers, front_bits}
use Rattle.filt_sets.specs.declared.mask.Atom.TheVariants.{Range, Any}
use Rattle.filt_sets.specs.declared.mask.MaskItem.{MaskItem}
use Rattle.filt_sets.specs.declared.prefixes.PrefixItem.{PrefixItem}
use Rattle.filt_sets.specs.Mask.{IsElement, AreElements, IsCut, IsPiece}
use Rattle.filt_sets.specs.Sets.{TakesNet}
use Rattle.filt_sets.proofs.Cuts.{elements_one, elements_more}

-- a number is its front bits with the zeros behind them
from_front : (m n unit : ℕ) → m / unit ≡ n / unit → m % unit ≡ 0 → n % unit ≡ 0 → 0 < unit → m ≡ n
from_front m n unit same one other some =
    let h : unit * (m / unit) ≡ unit * (n / unit) = ap (λ q. unit * q) same in omega arith

same_address : (a b : Addr) (len : ℕ) → family_of a ≡ family_of b → front_bits a len ≡ front_bits b len → IsPrefix a len → IsPrefix b len → a ≡ b
same_address (V4 m) (V4 n) len family bits one other = ap (λ k. V4 k) (from_front m n (2 ^ (32 - len)) bits one.host_bits other.host_bits (pow_pos (32 - len)))
same_address (V6 m) (V6 n) len family bits one other = ap (λ k. V6 k) (from_front m n (2 ^ (128 - len)) bits one.host_bits other.host_bits (pow_pos (128 - len)))
same_address (V4 m) (V6 n) len family bits one other = absurd (cc)
same_address (V6 m) (V4 n) len family bits one other = absurd (cc)

pub exact_item_takes_one : (item : PrefixItem) (net : Net) → IsPrefix item.net.addr item.net.len → IsPrefix net.addr net.len → item.lo ≡ item.net.len → item.hi ≡ item.net.len → TakesNet item net ↔ (net ≡ item.net)
exact_item_takes_one item net one other lo hi = (
  λ takes.
      let len : net.len ≡ item.net.len = omega arith in
      let both : min net.len item.net.len ≡ net.len = omega arith in
      let bits : front_bits item.net.addr net.len ≡ front_bits net.addr net.len = rw both at takes.bits in
      let addr : net.addr ≡ item.net.addr = sym (same_address item.net.addr net.addr net.len takes.family bits (rw len one) other) in
      λ i. record { addr = addr i; len = len i },
  λ same. record {
    family = ap (λ (n : Net). family_of n.addr) (sym same);
    lo = let len = ap (λ (n : Net). n.len) same in omega arith;
    hi = let len = ap (λ (n : Net). n.len) same in omega arith;
    bits = ap (λ (n : Net). front_bits n.addr (min net.len item.net.len)) (sym same);
  },
)

within_family : (a b : Addr) (len : ℕ) → family_of a ≡ family_of b → len ≤ width_of b → len ≤ width_of a
within_family (V4 m) (V4 n) len family h = h
within_family (V6 m) (V6 n) len family h = h
within_family (V4 m) (V6 n) len family h = absurd (cc)
within_family (V6 m) (V4 n) len family h = absurd (cc)

pub plus_item_takes_the_covered : (item : PrefixItem) (net : Net) → IsPrefix net.addr net.len → item.lo ≡ item.net.len → item.hi ≡ width_of item.net.addr → TakesNet item net ↔ Covers item.net net
plus_item_takes_the_covered item net is lo hi = (
  λ takes.
      let both : min net.len item.net.len ≡ item.net.len = omega (arith, takes.lo) in
      record { family = takes.family; len = omega (arith, takes.lo); bits = rw both at takes.bits },
  λ covers.
      let both : min net.len item.net.len ≡ item.net.len = omega (arith, covers.len) in
      record {
        family = covers.family;
        lo = omega (arith, covers.len);
        hi = let h = within_family item.net.addr net.addr net.len covers.family is.within in omega arith;
        bits = rw both covers.bits;
      },
)

pub minus_item_takes_the_covering : (item : PrefixItem) (net : Net) → item.lo ≡ 0 → item.hi ≡ item.net.len → TakesNet item net ↔ Covers net item.net
minus_item_takes_the_covering item net lo hi = (
  λ takes.
      let both : min net.len item.net.len ≡ net.len = omega (arith, takes.hi) in
      record { family = sym takes.family; len = omega (arith, takes.hi); bits = sym (rw both at takes.bits) },
  λ covers.
      let both : min net.len item.net.len ≡ net.len = omega (arith, covers.len) in
      record { family = sym covers.family; lo = omega arith; hi = omega (arith, covers.len); bits = rw both (sym covers.bits) },
)

pub run_matches_each_path : (path : List ℕ) → IsCut (record { atom = Any; many = false } ∷ []) path
run_matches_each_path path = (path, [], sym (append-nil path), tt, refl)

elements_in_range : (lo hi : ℕ) (elements : List (List ℕ)) → All (IsElement (Range lo hi)) elements → All (λ n. (lo ≤ n) × (n ≤ hi)) (concat elements)
elements_in_range lo hi [] each = All-nil (λ n. (lo ≤ n) × (n ≤ hi))
elements_in_range lo hi (first ∷ others) each =
    let (n, is, low, high) = All-head (IsElement (Range lo hi)) first others each in
    let rest = elements_in_range lo hi others (All-tail (IsElement (Range lo hi)) first others each) in
    rw is (All-cons (λ n. (lo ≤ n) × (n ≤ hi)) n (concat others) (low, high) rest)

elements_some : (lo hi : ℕ) (elements : List (List ℕ)) → 0 < length elements → All (IsElement (Range lo hi)) elements → concat elements ≢ []
elements_some lo hi [] some each e = omega arith
elements_some lo hi (first ∷ others) some each e =
    let (n, is, low, high) = All-head (IsElement (Range lo hi)) first others each in
    let wrong : n ∷ concat others ≡ [] = sym (ap (λ f. f ++ concat others) is) ∙ e in
    absurd (cc)

in_range : (lo hi n : ℕ) → (lo ≤ n) × (n ≤ hi) → IsElement (Range lo hi) (n ∷ [])
in_range lo hi n (low, high) = (n, refl, low, high)

elements_from_range : (lo hi : ℕ) (n : ℕ) (piece : List ℕ) → All (λ n. (lo ≤ n) × (n ≤ hi)) (n ∷ piece) → AreElements (Range lo hi) (n ∷ piece)
elements_from_range lo hi n [] each = elements_one (Range lo hi) (n ∷ []) (in_range lo hi n (All-head (λ n. (lo ≤ n) × (n ≤ hi)) n [] each))
elements_from_range lo hi n (m ∷ piece) each =
    elements_more (Range lo hi) (n ∷ []) (m ∷ piece) (in_range lo hi n (All-head (λ n. (lo ≤ n) × (n ≤ hi)) n (m ∷ piece) each))
    (elements_from_range lo hi m piece (All-tail (λ n. (lo ≤ n) × (n ≤ hi)) n (m ∷ piece) each))

many_from_range : (lo hi : ℕ) (piece : List ℕ) → piece ≢ [] → All (λ n. (lo ≤ n) × (n ≤ hi)) piece → AreElements (Range lo hi) piece
many_from_range lo hi [] some each = absurd (some refl)
many_from_range lo hi (n ∷ piece) some each = elements_from_range lo hi n piece each

pub many_of_a_range : (lo hi : ℕ) (piece : List ℕ) → IsPiece (record { atom = Range lo hi; many = true }) piece ↔ ((piece ≢ []) × All (λ n. (lo ≤ n) × (n ≤ hi)) piece)
many_of_a_range lo hi piece = (
  λ is. (λ e. elements_some lo hi is.elements is.some is.each (sym is.joined ∙ e), rw is.joined (elements_in_range lo hi is.elements is.each)),
  λ all. many_from_range lo hi piece all.0 all.1,
)

joined : (first later : List MaskItem) (front back : List ℕ) → IsCut first front → IsCut later back → IsCut (first ++ later) (front ++ back)
joined [] later front back one other = rw one other
joined (item ∷ items) later front back (piece, rest, same, is, cut) other =
    (piece, rest ++ back, ap (λ f. f ++ back) same ∙ append_assoc piece rest back, is, joined items later rest back cut other)

apart : (first later : List MaskItem) (path : List ℕ) → IsCut (first ++ later) path → (front : List ℕ) × (back : List ℕ) × (path ≡ front ++ back) × IsCut first front × IsCut later back
apart [] later path cut = ([], path, refl, refl, cut)
apart (item ∷ items) later path (piece, rest, same, is, cut) =
    let (front, back, parts, one, other) = apart items later rest cut in
    (piece ++ front, back, same ∙ ap (λ r. piece ++ r) parts ∙ sym (append_assoc piece front back), (piece, front, refl, is, one), other)

pub masks_join : (first later : List MaskItem) (path : List ℕ) → IsCut (first ++ later) path ↔ ((front : List ℕ) × (back : List ℕ) × (path ≡ front ++ back) × IsCut first front × IsCut later back)
masks_join first later path = (
  apart first later path,
  λ parts. let (front, back, same, one, other) = parts in rw same (joined first later front back one other),
)
