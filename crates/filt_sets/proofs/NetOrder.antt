-- Nets in their order: where those stand that cover a net, and those that it covers.
use Rattle.std.proofs.Common.{◌≡◌, ℕ, ◌<◌, ◌≤◌, ◌+◌, ◌-◌, ◌*◌, ◌/◌, ◌%◌, ◌^◌, ◌↔◌, ⊎_elim, suc, min, Option, Result, Ok, Err, IfOk, OnErr, IsSomeAnd, Bool, true, false, not, IsTrue, List, length, get_or, take, drop, All, refl, sym, ap, ◌∙◌, subst, arith}
use Rattle.std.specs.Prelude.{Any, ◌&&◌, ◌==◌, nat_le}
use Rattle.std.specs.Result.{result_ok}
use Rattle.std.specs.Ordering.{is_lt, nat_cmp, ordering_then}
use Rattle.std.specs.List.Sorted.{IsPartitionedBy, IsPartitionPoint, IsSortedBy}
use Rattle.std.proofs.lemmas.Bool.{cases_lt, cases_eq}
use Rattle.std.proofs.lemmas.Bool.Decides.{nat_tests}
use Rattle.std.proofs.lemmas.List.{get_or-drop, get_or-take, get_or_default, length-drop, length-take, take-take, take_all}
use Rattle.std.proofs.lemmas.List.Elements.{All-take}
use Rattle.std.proofs.lemmas.List.Sorted.{ranks_by, sorted_far}
use Rattle.bits_ip.proofs.Nets.{net_cmp_total}
use Rattle.std.proofs.Math.Nat.{div-eq_of_lt, min-eq_left, min-eq_right, pow-suc}
use Rattle.std.proofs.Math.Pow.{pow_mono, shr_mono}
use Rattle.std.proofs.lemmas.Nat.{and_le_l, and_le_r, leading_length, mod_low, mod-pow-add, pow_pos, shr_high, shr_split, shr-shr, xor_lt, xor_shr}
use lib.Bits.{bit_xor, xor_add_and, xor_self}
use lib.Count.{count_leading_zeros}
use Rattle.bits_ip.specs.declared.address.Addr.{Addr}
use Rattle.bits_ip.specs.declared.address.Addr.TheVariants.{V4, V6}
use Rattle.bits_ip.specs.Address.{family_of, family_rank, number_of, width_of}
use Rattle.bits_ip.specs.Prefix.{Net, IsPrefix, Covers, front_bits, precedes}
use Rattle.filt_sets.specs.declared.prefixes.PrefixItem.{PrefixItem}
use Rattle.filt_sets.specs.Search.{AreBehind, AreLeft, AreRising, HoldCovering, IsNet, IsShared, TakesCovered, TakesCovering, TakesLength, is_covered}
use Rattle.filt_sets.specs.Sets.{TakesNet}

-- ---- families

ranks : (a b : Addr) → family_of a ≡ family_of b → family_rank a ≡ family_rank b
ranks (V4 m) (V4 n) e = refl
ranks (V6 m) (V6 n) e = refl
ranks (V4 m) (V6 n) e = absurd (cc)
ranks (V6 m) (V4 n) e = absurd (cc)

families : (a b : Addr) → family_rank a ≡ family_rank b → family_of a ≡ family_of b
families (V4 m) (V4 n) e = refl
families (V6 m) (V6 n) e = refl
families (V4 m) (V6 n) e = absurd (omega arith)
families (V6 m) (V4 n) e = absurd (omega arith)

widths : (a b : Addr) → family_of a ≡ family_of b → width_of a ≡ width_of b
widths (V4 m) (V4 n) e = refl
widths (V6 m) (V6 n) e = refl
widths (V4 m) (V6 n) e = absurd (cc)
widths (V6 m) (V4 n) e = absurd (cc)

-- ---- the order in numbers: one net doesn't come behind the other

record Upto (a b : Net) : Type 0 where
  rank : family_rank a.addr ≤ family_rank b.addr
  number : family_rank a.addr ≡ family_rank b.addr → number_of a.addr ≤ number_of b.addr
  len : family_rank a.addr ≡ family_rank b.addr → number_of a.addr ≡ number_of b.addr → a.len ≤ b.len

in_numbers : (p q m n k l : ℕ) → is_lt (ordering_then (nat_cmp p q) (ordering_then (nat_cmp m n) (nat_cmp k l))) ≡ false
    → (q ≤ p) × (q ≡ p → n ≤ m) × (q ≡ p → n ≡ m → l ≤ k)
in_numbers p q m n k l e = (grind (arith, nat_tests), λ f. grind (arith, nat_tests), λ f g. grind (arith, nat_tests))

from_numbers : (p q m n k l : ℕ) → q ≤ p → (q ≡ p → n ≤ m) → (q ≡ p → n ≡ m → l ≤ k)
    → is_lt (ordering_then (nat_cmp p q) (ordering_then (nat_cmp m n) (nat_cmp k l))) ≡ false
from_numbers p q m n k l e f g = grind (arith, nat_tests)

upto : (a b : Net) → precedes b a ≡ false → Upto a b
upto a b e =
    let found = in_numbers (family_rank b.addr) (family_rank a.addr) (number_of b.addr) (number_of a.addr) b.len a.len e in
    record { rank = found.0; number = found.1; len = found.2 }

from_upto : (a b : Net) → Upto a b → precedes b a ≡ false
from_upto a b u = from_numbers (family_rank b.addr) (family_rank a.addr) (number_of b.addr) (number_of a.addr) b.len a.len u.rank u.number u.len

-- ---- quotients

-- a number that begins like a later one, between which another stands
between : (m q n k : ℕ) → m ≤ q → q ≤ n → m / 2 ^ k ≡ n / 2 ^ k → q / 2 ^ k ≡ n / 2 ^ k
between m q n k low high e = omega (arith, shr_mono k low, shr_mono k high)

-- with zeros behind its front, a number isn't above one with the same front
with_zeros : (m n unit : ℕ) → 0 < unit → m % unit ≡ 0 → m / unit ≡ n / unit → m ≤ n
with_zeros m n unit some zeros same =
    let h : unit * (m / unit) ≡ unit * (n / unit) = ap (λ q. unit * q) same in omega arith

fewer_zeros : (n j k : ℕ) → n % 2 ^ (j + k) ≡ 0 → n % 2 ^ k ≡ 0
fewer_zeros n j k e = omega (arith, mod-pow-add n j k)

-- numbers that begin alike in more bits do so in fewer
fewer_bits : (m n j k : ℕ) → j ≤ k → m / 2 ^ j ≡ n / 2 ^ j → m / 2 ^ k ≡ n / 2 ^ k
fewer_bits m n j k h e =
    let more : j + (k - j) ≡ k = omega arith in
    ap (λ i. m / 2 ^ i) (sym more) ∙ sym (shr-shr m j (k - j)) ∙ ap (λ q. q / 2 ^ (k - j)) e ∙ shr-shr n j (k - j) ∙ ap (λ i. n / 2 ^ i) more

-- ---- nets

-- a net doesn't come behind one that it covers
pub covers_upto : (a b : Net) → IsPrefix a.addr a.len → Covers a b → precedes b a ≡ false
covers_upto a b is covers =
    let wide = widths a.addr b.addr covers.family in
    let bits : number_of a.addr / 2 ^ (width_of a.addr - a.len) ≡ number_of b.addr / 2 ^ (width_of a.addr - a.len) =
    covers.bits ∙ ap (λ w. number_of b.addr / 2 ^ (w - a.len)) (sym wide) in
    let number = with_zeros (number_of a.addr) (number_of b.addr) (2 ^ (width_of a.addr - a.len)) (pow_pos (width_of a.addr - a.len)) is.host_bits bits in
    let rank = ranks a.addr b.addr covers.family in
    from_upto a b (record { rank = omega arith; number = λ _. number; len = λ _ _. covers.len })

-- What covers a net and doesn't come behind an earlier one begins like that one too.
pub between_alike : (a q b : Net) → Covers a b → precedes q a ≡ false → precedes b q ≡ false → (family_of q.addr ≡ family_of b.addr) × (front_bits q.addr a.len ≡ front_bits b.addr a.len)
between_alike a q b covers low high =
    let first = upto a q low in
    let second = upto q b high in
    let rank = ranks a.addr b.addr covers.family in
    let same : family_rank q.addr ≡ family_rank b.addr = omega (arith, first.rank, second.rank) in
    let family = families q.addr b.addr same in
    let wide = widths a.addr b.addr covers.family in
    let wider = widths q.addr b.addr family in
    let m≤q = first.number (rank ∙ sym same) in
    let q≤n = second.number same in
    let bits : number_of a.addr / 2 ^ (width_of b.addr - a.len) ≡ number_of b.addr / 2 ^ (width_of b.addr - a.len) =
    ap (λ w. number_of a.addr / 2 ^ (w - a.len)) (sym wide) ∙ covers.bits in
    (family, ap (λ w. number_of q.addr / 2 ^ (w - a.len)) wider ∙ between (number_of a.addr) (number_of q.addr) (number_of b.addr) (width_of b.addr - a.len) m≤q q≤n bits)

-- So it covers the net of the bits that both begin with.
pub covers_shared : (a q b both : Net) → IsPrefix a.addr a.len → Covers a b → precedes q a ≡ false → precedes b q ≡ false → IsShared q.addr b.addr both → Covers a both
covers_shared a q b both is covers low high shared =
    let alike = between_alike a q b covers low high in
    let wide = widths a.addr b.addr covers.family in
    let same = widths both.addr b.addr shared.family in
    let len : a.len ≤ both.len = shared.longest a.len (omega (arith, is.within, wide)) alike.1 in
    let long = shared.prefix.within in
    let more = fewer_bits (number_of both.addr) (number_of b.addr) (width_of b.addr - both.len) (width_of b.addr - a.len) (omega arith)
    (ap (λ w. number_of both.addr / 2 ^ (w - both.len)) (sym same) ∙ shared.bits) in
    record {
      family = covers.family ∙ sym shared.family;
      len = len;
      bits = covers.bits ∙ sym more ∙ ap (λ w. number_of both.addr / 2 ^ (w - a.len)) (sym same);
    }

-- A net between this one and one that it covers is covered too.
pub covered_between : (net b c : Net) → IsPrefix net.addr net.len → IsPrefix b.addr b.len → Covers net c → precedes b net ≡ false → precedes c b ≡ false → Covers net b
covered_between net b c one is covers low high =
    let first = upto net b low in
    let second = upto b c high in
    let rank = ranks net.addr c.addr covers.family in
    let same : family_rank net.addr ≡ family_rank b.addr = omega (arith, first.rank, second.rank) in
    let family = families net.addr b.addr same in
    let wide = widths net.addr b.addr family in
    let wider = widths net.addr c.addr covers.family in
    let m≤q = first.number same in
    let q≤n = second.number (sym same ∙ rank) in
    let k = width_of b.addr - net.len in
    let bits : number_of net.addr / 2 ^ k ≡ number_of c.addr / 2 ^ k =
    ap (λ w. number_of net.addr / 2 ^ (w - net.len)) (sym wide) ∙ covers.bits ∙ ap (λ w. number_of c.addr / 2 ^ (w - net.len)) (sym wider ∙ wide) in
    let front : number_of b.addr / 2 ^ k ≡ number_of c.addr / 2 ^ k = between (number_of net.addr) (number_of b.addr) (number_of c.addr) k m≤q q≤n bits in
    let alike : number_of b.addr / 2 ^ k ≡ number_of net.addr / 2 ^ k = front ∙ sym bits in
    record {
      family = family;
      len = ⊎_elim
          (λ short.
          let gap : (net.len - b.len) + k ≡ width_of b.addr - b.len = omega (arith, one.within, wide) in
          let zeros : number_of b.addr % 2 ^ k ≡ 0 = fewer_zeros (number_of b.addr) (net.len - b.len) k (ap (λ i. number_of b.addr % 2 ^ i) gap ∙ is.host_bits) in
          let back = with_zeros (number_of b.addr) (number_of net.addr) (2 ^ k) (pow_pos k) zeros alike in
          first.len same (omega arith))
          (λ long. long)
          (cases_lt b.len net.len);
      bits = ap (λ w. number_of net.addr / 2 ^ (w - net.len)) wide ∙ sym alike;
    }

-- ---- the bits that two numbers share

same_from_xor : (m n : ℕ) → bit_xor m n ≡ 0 → m ≡ n
same_from_xor m n e = omega (arith, xor_add_and m n, and_le_l m n, and_le_r m n)

below_from_quotient : (x k : ℕ) → x / 2 ^ k ≡ 0 → x < 2 ^ k
below_from_quotient x k e = let h : 2 ^ k * (x / 2 ^ k) ≡ 2 ^ k * 0 = ap (λ q. 2 ^ k * q) e in omega (arith, pow_pos k)

pub unlike_same : (a b : ℕ) → a < 2 ^ 128 → b < 2 ^ 128 → let k = 128 - count_leading_zeros 128 (bit_xor a b) in a / 2 ^ k ≡ b / 2 ^ k
unlike_same a b small other =
    let x = bit_xor a b in
    let (m, all, below, top) = leading_length 128 x (xor_lt 128 a b small other) in
    let is : m ≡ 128 - count_leading_zeros 128 x = omega arith in
    let none : x / 2 ^ m ≡ 0 = div-eq_of_lt below in
    let same : a / 2 ^ m ≡ b / 2 ^ m = same_from_xor (a / 2 ^ m) (b / 2 ^ m) (sym (xor_shr a b m) ∙ none) in
    subst (λ k. a / 2 ^ k ≡ b / 2 ^ k) is same

pub unlike_least : (a b j : ℕ) → a < 2 ^ 128 → b < 2 ^ 128 → a / 2 ^ j ≡ b / 2 ^ j → 128 - count_leading_zeros 128 (bit_xor a b) ≤ j
unlike_least a b j small other same =
    let x = bit_xor a b in
    let (m, all, below, top) = leading_length 128 x (xor_lt 128 a b small other) in
    let none : x / 2 ^ j ≡ 0 = xor_shr a b j ∙ ap (λ q. bit_xor q (b / 2 ^ j)) same ∙ xor_self (b / 2 ^ j) in
    let less : x < 2 ^ j = below_from_quotient x j none in
    ⊎_elim
    (λ long. let more : suc j ≤ m = omega arith in absurd (omega (arith, pow_mono more, pow-suc 2 j, top, less)))
    (λ short. omega arith)
    (cases_lt j m)

-- with zeros for its last bits a number has the same front
without_last : (b k : ℕ) → ((b - b % 2 ^ k) % 2 ^ k ≡ 0) × ((b - b % 2 ^ k) / 2 ^ k ≡ b / 2 ^ k)
without_last b k =
    let is : b - b % 2 ^ k ≡ b / 2 ^ k * 2 ^ k + 0 = omega (arith, shr_split b k) in
    (ap (λ n. n % 2 ^ k) is ∙ mod_low (b / 2 ^ k) k 0 (pow_pos k), ap (λ n. n / 2 ^ k) is ∙ shr_high (b / 2 ^ k) k 0 (pow_pos k))

abbrev pub cut : ℕ → ℕ → ℕ
cut b k = b - b % 2 ^ k

pub shared_four : (a b k : ℕ) → k ≤ 32 → a / 2 ^ k ≡ b / 2 ^ k → ((bits : ℕ) → a / 2 ^ bits ≡ b / 2 ^ bits → k ≤ bits)
    → IsShared (V4 a) (V4 b) (record { addr = V4 (cut b k); len = 32 - k })
shared_four a b k few same least =
    let back : k ≡ 32 - (32 - k) = omega arith in
    let whole = without_last b k in
    record {
      prefix = record { within = omega arith; host_bits = subst (λ i. cut b k % 2 ^ i ≡ 0) back whole.0 };
      family = refl;
      bits = subst (λ i. cut b k / 2 ^ i ≡ b / 2 ^ i) back whole.1;
      longest = λ len within alike. omega (arith, least (32 - len) alike);
    }

pub shared_six : (a b k : ℕ) → k ≤ 128 → a / 2 ^ k ≡ b / 2 ^ k → ((bits : ℕ) → a / 2 ^ bits ≡ b / 2 ^ bits → k ≤ bits)
    → IsShared (V6 a) (V6 b) (record { addr = V6 (cut b k); len = 128 - k })
shared_six a b k few same least =
    let back : k ≡ 128 - (128 - k) = omega arith in
    let whole = without_last b k in
    record {
      prefix = record { within = omega arith; host_bits = subst (λ i. cut b k % 2 ^ i ≡ 0) back whole.0 };
      family = refl;
      bits = subst (λ i. cut b k / 2 ^ i ≡ b / 2 ^ i) back whole.1;
      longest = λ len within alike. omega (arith, least (128 - len) alike);
    }

-- both numbers have 32 bits, so at most those differ
pub four_alike : (a b : ℕ) → a < 2 ^ 32 → b < 2 ^ 32 → a / 2 ^ 32 ≡ b / 2 ^ 32
four_alike a b small other = omega arith

-- what the two parts of a prefix make
net_of : Addr → ℕ → Net
net_of addr len = record { addr = addr; len = len }

pub made : {E : Type 0} (r : Result Net E) (o : Option Net) (a b addr : Addr) (len : ℕ) → IsShared a b (record { addr = addr; len = len })
    → IfOk r (λ net. (net.addr ≡ addr) × (net.len ≡ len)) → OnErr r (IsPrefix addr len → ⊥) → o ≡ result_ok r → IsSomeAnd o (IsShared a b)
unfolding net_of
made (Ok net) o a b addr len shared is refused value =
    let same : net ≡ net_of addr len = ap (λ x. net_of x net.len) is.0 ∙ ap (λ k. net_of addr k) is.1 in
    rw value (subst (IsShared a b) (sym same) shared)
made (Err e) o a b addr len shared is refused value = absurd (refused shared.prefix)

-- ---- lists in the order of their nets

pub upto_trans : (a q b : Net) → precedes q a ≡ false → precedes b q ≡ false → precedes b a ≡ false
upto_trans a q b low high =
    let u = upto a q low in
    let v = upto q b high in
    from_upto a b (record {
      rank = omega (arith, u.rank, v.rank);
      number = λ e.
          let one : family_rank a.addr ≡ family_rank q.addr = omega (arith, u.rank, v.rank, e) in
          let two : family_rank q.addr ≡ family_rank b.addr = omega (arith, u.rank, v.rank, e) in
          omega (arith, u.number one, v.number two);
      len = λ e f.
          let one : family_rank a.addr ≡ family_rank q.addr = omega (arith, u.rank, v.rank, e) in
          let two : family_rank q.addr ≡ family_rank b.addr = omega (arith, u.rank, v.rank, e) in
          let low' = u.number one in
          let high' = v.number two in
          omega (arith, u.len one (omega (arith, low', high', f)), v.len two (omega (arith, low', high', f)));
    })

pub rises : (items : List PrefixItem) → IsSortedBy (λ a b. precedes a.net b.net) items → (i j : ℕ) (d : PrefixItem) → i ≤ j → j < length items → precedes (get_or items j d).net (get_or items i d).net ≡ false
rises items up i j d h within = sorted_far (λ a b. precedes a.net b.net) (ranks_by net_cmp_total (λ (item : PrefixItem). item.net)) items up i j d h within

not_true : (b : Bool) → not b ≡ true → b ≡ false
not_true true e = absurd (cc)
not_true false e = refl

not_false : (b : Bool) → not b ≡ false → b ≡ true
not_false true e = refl
not_false false e = absurd (cc)

from_false : (b : Bool) → b ≡ false → not b ≡ true
from_false b e = ap not e

-- the test that divides items in their order at a net
pub parts_at : (net : Net) (items : List PrefixItem) → AreRising items → IsPartitionedBy (λ item. not (precedes net item.net)) items
parts_at net items rising i j d h within e =
    from_false (precedes net (get_or items i d).net) (upto_trans (get_or items i d).net (get_or items j d).net net (rises items rising.rising i j d h within) (not_true (precedes net (get_or items j d).net) e))

pub parted : (net : Net) (items : List PrefixItem) (n : ℕ) → n ≤ length items
    → IsPartitionPoint (λ item. not (precedes net item.net) ≡ true) (λ item. not (precedes net item.net) ≡ false) items n
    → IsPartitionPoint (λ item. precedes net item.net ≡ false) (λ item. precedes net item.net ≡ true) items (length (take n items))
parted net items n within parts =
    let long : length (take n items) ≡ n = length-take n items ∙ min-eq_left within in
    rw long (λ k d low high. not_true (precedes net (get_or items k d).net) (parts.0 k d low high), λ k d low high. not_false (precedes net (get_or items k d).net) (parts.1 k d low high))

taken_rises : (items : List PrefixItem) (n : ℕ) → AreRising items → AreRising (take n items)
taken_rises items n rising = record {
  each = All-take IsNet n items rising.each;
  rising = λ k d low h.
      let long : length (take n items) ≤ n = omega (arith, length-take n items) in
      let inside : length (take n items) ≤ length items = omega (arith, length-take n items) in
      rw (get_or-take n items (k + 1) d (omega arith), get_or-take n items k d (omega arith)) (rising.rising k d low (omega arith));
}

-- an element of a list is there whatever stands behind its end
default_last : {X : Type 0} (xs : List X) (i : ℕ) (x d : X) → x ≡ get_or xs i x → i < length xs → get_or xs i d ≡ x
default_last xs i x d at within = get_or_default xs i d x within ∙ sym at

pub left_next : (net : Net) (items front before : List PrefixItem) (item : PrefixItem) (rest : List PrefixItem) → AreRising items → AreLeft net items front → 0 < length front
    → before ≡ take (length front - 1) front → item ≡ get_or front (length front - 1) item → (TakesCovered net item → ⊥) → rest ≡ take (length rest) before
    → (AreRising before → AreBehind before item net → HoldCovering net before (length rest)) → AreLeft net items rest
left_next net items front before item rest rising left some is at misses part held =
    let n = length front in
    let short : length before ≡ n - 1 = ap length is ∙ length-take (n - 1) front ∙ min-eq_left (omega arith) in
    let inside : length rest ≤ n - 1 = omega (arith, ap length part, length-take (length rest) before) in
    let same : before ≡ take (n - 1) items = is ∙ ap (λ l. take (n - 1) l) left.part ∙ take-take (n - 1) n items (omega arith) in
    let last : item ≡ get_or items (n - 1) item = at ∙ ap (λ l. get_or l (n - 1) item) left.part ∙ get_or-take n items (n - 1) item (omega arith) in
    let up = subst AreRising (sym same) (taken_rises items (n - 1) rising) in
    let behind : AreBehind before item net = record {
      before = subst (λ l. All (λ a. precedes item.net a.net ≡ false) l) (sym same)
          (λ k d h.
          let low : k < n - 1 = omega (arith, length-take (n - 1) items) in
          rw (get_or-take (n - 1) items k d low)
          (subst (λ x. precedes x.net (get_or items k d).net ≡ false) (default_last items (n - 1) item d last (omega (arith, left.within))) (rises items rising.rising k (n - 1) d (omega arith) (omega (arith, left.within)))));
      upto = subst (λ x. precedes net x.net ≡ false) (sym last) (left.upto (n - 1) item (omega arith));
    } in
    record {
      part = part ∙ ap (λ l. take (length rest) l) same ∙ take-take (length rest) (n - 1) items inside;
      within = omega (arith, inside, left.within);
      upto = λ k d h. left.upto k d (omega (arith, inside));
      held = λ k d h takes.
          let old = left.held k d h takes in
          ⊎_elim
          (λ e. absurd (misses (subst (TakesCovered net) (ap (λ j. get_or items j d) e ∙ default_last items (n - 1) item d last (omega (arith, left.within))) takes)))
          (λ other.
          let low : k < n - 1 = omega (arith, old, other) in
          let here : get_or before k d ≡ get_or items k d = ap (λ l. get_or l k d) same ∙ get_or-take (n - 1) items k d low in
          held up behind k d (omega (arith, short, low)) (subst (λ x. Covers x.net net) (sym here) takes.covers))
          (cases_eq k (n - 1));
    }

-- ---- the nets that a net covers stand together

tests_hold : (p q m n k l : ℕ) → ((p == q) && nat_le m n && (k == l)) ≡ true → (p ≡ q) × (m ≤ n) × (k ≡ l)
tests_hold p q m n k l e = (grind (arith, nat_tests), grind (arith, nat_tests), grind (arith, nat_tests))

tests_from : (p q m n k l : ℕ) → p ≡ q → m ≤ n → k ≡ l → ((p == q) && nat_le m n && (k == l)) ≡ true
tests_from p q m n k l e f g = grind (arith, nat_tests)

pub covered_is : (net : Net) (item : PrefixItem) → (is_covered net item ≡ true) ↔ Covers net item.net
covered_is net item = (
  λ e.
      let parts = tests_hold (family_rank net.addr) (family_rank item.net.addr) net.len item.net.len (front_bits net.addr net.len) (front_bits item.net.addr net.len) e in
      record { family = families net.addr item.net.addr parts.0; len = parts.1; bits = parts.2 },
  λ covers. tests_from _ _ _ _ _ _ (ranks net.addr item.net.addr covers.family) covers.len covers.bits,
)

pub same_test : {P : Type 0} (b t : Bool) → IsTrue b ↔ P → (t ≡ true) ↔ P → b ≡ t
same_test true t one other = sym (other.1 (one.0 refl))
same_test false true one other = one.1 (other.0 refl)
same_test false false one other = refl

by_test : (P : Type 0) (b : Bool) → (b ≡ true → P) → (b ≡ false → P) → P
by_test P true when other = when refl
by_test P false when other = other refl

-- the test that divides items in their order before a net
pub parts_before : (net : Net) (items : List PrefixItem) → AreRising items → IsPartitionedBy (λ item. precedes item.net net) items
parts_before net items rising i j d h within e =
    by_test (precedes (get_or items i d).net net ≡ true) (precedes (get_or items i d).net net) (λ holds. holds)
    (λ fails.
    let wrong : true ≡ false = sym e ∙ upto_trans net (get_or items i d).net (get_or items j d).net fails (rises items rising.rising i j d h within) in
    absurd (cc))

pub parts_covered : (net : Net) (items : List PrefixItem) (p : ℕ) → IsPrefix net.addr net.len → AreRising items
    → IsPartitionPoint (λ item. precedes item.net net ≡ true) (λ item. precedes item.net net ≡ false) items p
    → IsPartitionedBy (is_covered net) (drop p items)
parts_covered net items p is rising parts i j d h within e =
    let low : p + i < length items = omega (arith, length-drop p items) in
    let high : p + j < length items = omega (arith, length-drop p items) in
    let first = get_or-drop p items i d in
    let second = get_or-drop p items j d in
    let covers : Covers net (get_or items (p + j) d).net = (covered_is net (get_or items (p + j) d)).0 (subst (λ x. is_covered net x ≡ true) second e) in
    subst (λ x. is_covered net x ≡ true) (sym first)
    ((covered_is net (get_or items (p + i) d)).1
    (covered_between net (get_or items (p + i) d).net (get_or items (p + j) d).net is (rising.each (p + i) d low) covers (parts.1 (p + i) d (omega arith) low)
    (rises items rising.rising (p + i) (p + j) d (omega arith) high)))

pub from_place : (items : List PrefixItem) (p : ℕ) → p ≤ length items → take (length items - p) (drop p items) ≡ drop p items
from_place items p within = take_all (length items - p) (drop p items) (omega (arith, length-drop p items))

pub covered_any : (net : Net) (items : List PrefixItem) (p n : ℕ) (r : Bool) → IsPrefix net.addr net.len → n ≤ length (drop p items)
    → IsPartitionPoint (λ item. precedes item.net net ≡ true) (λ item. precedes item.net net ≡ false) items p
    → IsPartitionPoint (λ item. is_covered net item ≡ true) (λ item. is_covered net item ≡ false) (drop p items) n
    → IsTrue r ↔ Any (λ item. TakesLength item net.len) (take n (drop p items)) → IsTrue r ↔ Any (TakesCovering net) items
covered_any net items p n r is inside first second answer = (
  λ found.
      let (k, x, within, at, takes) = answer.0 found in
      let low : k < n = omega (arith, length-take n (drop p items)) in
      let here : get_or (drop p items) k x ≡ x = sym (get_or-take n (drop p items) k x low) ∙ at in
      let covers = (covered_is net x).0 (subst (λ y. is_covered net y ≡ true) here (second.0 k x (omega arith) low)) in
      (p + k, x, omega (arith, length-drop p items, inside), sym (get_or-drop p items k x) ∙ here, record { length = takes; covers = covers }),
  λ any.
      let (k, x, within, at, takes) = any in
      ⊎_elim
      (λ low.
      let wrong : true ≡ false = sym (subst (λ y. precedes y.net net ≡ true) at (first.0 k x (omega arith) low)) ∙ covers_upto net x.net is takes.covers in
      absurd (cc))
      (λ high.
      let j = k - p in
      let sum : p + j ≡ k = omega arith in
      let here : get_or (drop p items) j x ≡ x = get_or-drop p items j x ∙ ap (λ i. get_or items i x) sum ∙ at in
      let inner : j < length (drop p items) = omega (arith, length-drop p items) in
      ⊎_elim
      (λ few. answer.1 (j, x, omega (arith, length-take n (drop p items), inside), get_or-take n (drop p items) j x few ∙ here, takes.length))
      (λ many.
      let wrong : true ≡ false = sym ((covered_is net x).1 takes.covers) ∙ subst (λ y. is_covered net y ≡ false) here (second.1 j x many inner) in
      absurd (cc))
      (cases_lt j n))
      (cases_lt k p),
)

-- ---- both together

takes_covered : (item : PrefixItem) (net : Net) → TakesCovered net item → TakesNet item net
takes_covered item net takes =
    let both : min net.len item.net.len ≡ item.net.len = min-eq_right takes.covers.len in
    record {
      family = takes.covers.family;
      lo = takes.length.0;
      hi = takes.length.1;
      bits = subst (λ k. front_bits item.net.addr k ≡ front_bits net.addr k) (sym both) takes.covers.bits;
    }
