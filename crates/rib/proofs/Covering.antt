-- Prefixes that cover one prefix, and those that one prefix covers.
use Rattle.std.proofs.Common.{◌≡◌, ℕ, suc, ◌<◌, ◌≤◌, ◌+◌, ◌-◌, ◌*◌, ◌/◌, ◌%◌, ◌^◌, true, not, nat_le, ◌⊎◌, inl, inr, refl, sym, ap, ◌∙◌, subst, arith}
use Rattle.std.specs.BTreeMap.Range.{IsLeBy, IsLtBy, range_contains}
use Rattle.std.specs.Ordering.{is_le, is_lt}
use Rattle.std.specs.Range.Bound.{IsForward}
use Rattle.std.specs.declared.ops.Bound.TheVariants.{Included}
use Rattle.std.proofs.Math.Nat.{mod-eq-sub-div-mul, mul-mod_left, mul-le-mul_right, one-le-pow, pow-le-pow_right, pow-suc, mod-eq_of_lt, mod-lt, div-mul-le_self}
use Rattle.std.proofs.lemmas.Bool.{and_from, cases_Bool, leb-true}
use Rattle.std.proofs.lemmas.Bool.Decides.{nat_tests}
use Rattle.std.proofs.lemmas.Nat.{pow-add, div-mul-add}
use Rattle.bits_ip.specs.declared.address.Addr.{Addr}
use Rattle.bits_ip.specs.declared.address.Addr.TheVariants.{V4, V6}
use Rattle.bits_ip.specs.Address.{width_of}
use Rattle.bits_ip.specs.Prefix.{Covers, IsPrefix, Net, net_cmp}
use Rattle.attrs.specs.Select.{covers}
use Rattle.attrs.proofs.Covering.{covers_tells}
use Rattle.rib.specs.Picks.{front, front_addr, last_addr, last_within}
use Rattle.rib.proofs.NetRows.{net_of}

-- ---- numbers and their last bits

power : (b : ℕ) → 0 < 2 ^ b
power b = omega (arith, one-le-pow b 2 (omega arith))

whole : (n m : ℕ) → n - n % m ≡ n / m * m
whole n m = omega (arith, mod-eq-sub-div-mul n m, div-mul-le_self n m)

cleared : (n m : ℕ) → (n - n % m) % m ≡ 0
cleared n m = ap (λ (k : ℕ). k % m) (whole n m) ∙ mul-mod_left (n / m) m

-- a number without last bits stays in its range where they are set
pub room : (n b w : ℕ) → n % 2 ^ b ≡ 0 → b ≤ w → n < 2 ^ w → n + (2 ^ b - 1) < 2 ^ w
room n b w clear within small =
    let parts : 2 ^ w ≡ 2 ^ (w - b) * 2 ^ b = ap (λ (k : ℕ). 2 ^ k) (omega (arith, within)) ∙ pow-add 2 (w - b) b in
    let step : (n / 2 ^ b + 1) * 2 ^ b ≡ n / 2 ^ b * 2 ^ b + 2 ^ b = omega arith in
    elim (less_or (n / 2 ^ b) (2 ^ (w - b))) [
      | inl less ↦ omega (arith, whole n (2 ^ b), clear, mul-le-mul_right {m = n / 2 ^ b + 1} {n = 2 ^ (w - b)} (2 ^ b) less, step, parts, power b)
      | inr more ↦ absurd (omega (arith, whole n (2 ^ b), clear, mul-le-mul_right {m = 2 ^ (w - b)} {n = n / 2 ^ b} (2 ^ b) more, parts, small))
    ]
  where
    less_or : (a c : ℕ) → (a + 1 ≤ c) ⊎ (c ≤ a)
    less_or a c = elim (cases_Bool (nat_le (a + 1) c)) [
      | inl t ↦ inl (leb-true (a + 1) c t)
      | inr f ↦ inr (grind (arith, nat_tests, f))
    ]

less-power : (b w : ℕ) → b < w → 2 ^ b < 2 ^ w
less-power b w below = omega (arith, pow-le-pow_right {n = 2} (omega arith) {i = suc b} {j = w} below, pow-suc 2 b, power b)

unit_is : (u b w : ℕ) → b < w → u ≡ (1 * 2 ^ b) % 2 ^ w → u ≡ 2 ^ b
unit_is u b w below is = is ∙ ap (λ (k : ℕ). k % 2 ^ w) (omega arith) ∙ mod-eq_of_lt (less-power b w below)

pub room-unit : (n u b w : ℕ) → n % 2 ^ b ≡ 0 → b < w → u ≡ (1 * 2 ^ b) % 2 ^ w → n < 2 ^ w → n + (u - 1) < 2 ^ w
room-unit n u b w clear below is small =
    subst (λ (k : ℕ). n + (k - 1) < 2 ^ w) (sym (unit_is u b w below is)) (room n b w clear (omega (arith, below)) small)

-- ---- the prefixes that cover one

pub front-prefix : (addr : Addr) (len : ℕ) → len ≤ width_of addr → IsPrefix (front_addr addr len) len
front-prefix (V4 n) len within = record { within = within; host_bits = cleared n (2 ^ (32 - len)) }
front-prefix (V6 n) len within = record { within = within; host_bits = cleared n (2 ^ (128 - len)) }

pub last-prefix : (addr : Addr) (len : ℕ) → IsPrefix (last_addr addr len) (width_of addr)
last-prefix (V4 n) len = record { within = omega arith; host_bits = omega arith }
last-prefix (V6 n) len = record { within = omega arith; host_bits = omega arith }

same_front : (x y m : ℕ) → x % m ≡ 0 → x / m ≡ y / m → x ≡ y - y % m
same_front x y m clear bits =
    let e : x / m * m ≡ y / m * m = ap (λ (q : ℕ). q * m) bits in
    omega (arith, clear, whole x m, whole y m, e)

-- what covers a prefix is its front
pub cover-front : (n asked : Net) → covers n asked ≡ true → IsPrefix n.addr n.len → n ≡ front asked n.len
cover-front n asked is prefix = on n.addr asked.addr n.len asked.len prefix ((covers_tells n asked).0 is) where
  on : (a b : Addr) (m k : ℕ) → IsPrefix a m → Covers (net_of a m) (net_of b k) → net_of a m ≡ front (net_of b k) m
  on (V4 x) (V4 y) m k prefix over = ap (λ (z : ℕ). net_of (V4 z) m) (same_front x y (2 ^ (32 - m)) prefix.host_bits over.bits)
  on (V6 x) (V6 y) m k prefix over = ap (λ (z : ℕ). net_of (V6 z) m) (same_front x y (2 ^ (128 - m)) prefix.host_bits over.bits)
  on (V4 x) (V6 y) m k prefix over = absurd (let e = over.family in cc)
  on (V6 x) (V4 y) m k prefix over = absurd (let e = over.family in cc)

pub cover-len : (n asked : Net) → covers n asked ≡ true → n.len ≤ asked.len
cover-len n asked is = ((covers_tells n asked).0 is).len

front_bits_of : (y k : ℕ) → (y - y % 2 ^ k) / 2 ^ k ≡ y / 2 ^ k
front_bits_of y k =
    ap (λ (n : ℕ). n / 2 ^ k) (whole y (2 ^ k) ∙ plus (y / 2 ^ k * 2 ^ k)) ∙ div-mul-add (y / 2 ^ k) (2 ^ k) 0 (power k)
  where
    plus : (n : ℕ) → n ≡ n + 0
    plus n = omega arith

pub front-covers : (asked : Net) (len : ℕ) → len ≤ asked.len → covers (front asked len) asked ≡ true
front-covers asked len short = on asked.addr asked.len short where
  on : (b : Addr) (k : ℕ) → len ≤ k → covers (front (net_of b k) len) (net_of b k) ≡ true
  on (V4 y) k short = (covers_tells (front (net_of (V4 y) k) len) (net_of (V4 y) k)).1 (record { family = refl; len = short; bits = front_bits_of y (32 - len) })
  on (V6 y) k short = (covers_tells (front (net_of (V6 y) k) len) (net_of (V6 y) k)).1 (record { family = refl; len = short; bits = front_bits_of y (128 - len) })

-- ---- the prefixes that one covers

between : (x y m : ℕ) → 0 < m → x % m ≡ 0 → x / m ≡ y / m → (x ≤ y) × (y ≤ x + (m - 1))
between x y m some clear bits =
    let e : x / m * m ≡ y / m * m = ap (λ (q : ℕ). q * m) bits in
    let less = mod-lt y some in (
      omega (arith, clear, whole x m, whole y m, e, less),
      omega (arith, clear, whole x m, whole y m, e, less),
    )

from_v4 : (x y m n : ℕ) → x ≤ y → m ≤ n → is_le (net_cmp (net_of (V4 x) m) (net_of (V4 y) n)) ≡ true
from_v4 x y m n h k = grind (arith, nat_tests)

from_v6 : (x y m n : ℕ) → x ≤ y → m ≤ n → is_le (net_cmp (net_of (V6 x) m) (net_of (V6 y) n)) ≡ true
from_v6 x y m n h k = grind (arith, nat_tests)

upto_v4 : (x y m n : ℕ) → x ≤ y → m ≤ n → not (is_lt (net_cmp (net_of (V4 y) n) (net_of (V4 x) m))) ≡ true
upto_v4 x y m n h k = grind (arith, nat_tests)

upto_v6 : (x y m n : ℕ) → x ≤ y → m ≤ n → not (is_lt (net_cmp (net_of (V6 y) n) (net_of (V6 x) m))) ≡ true
upto_v6 x y m n h k = grind (arith, nat_tests)

-- what a prefix covers stands from itself to the longest prefix of its last address
pub covered-between : (asked n : Net) → covers asked n ≡ true → IsPrefix asked.addr asked.len → IsPrefix n.addr n.len
    → range_contains net_cmp (Included asked) (Included (last_within asked)) n ≡ true
covered-between asked n is prefix also = on asked.addr n.addr asked.len n.len prefix also ((covers_tells asked n).0 is) where
  on : (a b : Addr) (m k : ℕ) → IsPrefix a m → IsPrefix b k → Covers (net_of a m) (net_of b k)
      → range_contains net_cmp (Included (net_of a m)) (Included (last_within (net_of a m))) (net_of b k) ≡ true
  on (V4 x) (V4 y) m k prefix also over =
      let in_it = between x y (2 ^ (32 - m)) (power (32 - m)) prefix.host_bits over.bits in
      and_from _ _ (from_v4 x y m k in_it.0 over.len) (upto_v4 y (x + (2 ^ (32 - m) - 1)) k 32 in_it.1 also.within)
  on (V6 x) (V6 y) m k prefix also over =
      let in_it = between x y (2 ^ (128 - m)) (power (128 - m)) prefix.host_bits over.bits in
      and_from _ _ (from_v6 x y m k in_it.0 over.len) (upto_v6 y (x + (2 ^ (128 - m) - 1)) k 128 in_it.1 also.within)
  on (V4 x) (V6 y) m k prefix also over = absurd (let e = over.family in cc)
  on (V6 x) (V4 y) m k prefix also over = absurd (let e = over.family in cc)

not_past_v4 : (x y m n : ℕ) → x ≤ y → m ≤ n → IsLeBy net_cmp (net_of (V4 x) m) (net_of (V4 y) n)
not_past_v4 x y m n h k = grind (arith, nat_tests)

not_past_v6 : (x y m n : ℕ) → x ≤ y → m ≤ n → IsLeBy net_cmp (net_of (V6 x) m) (net_of (V6 y) n)
not_past_v6 x y m n h k = grind (arith, nat_tests)

pub within-forward : (asked : Net) → IsPrefix asked.addr asked.len → IsForward (IsLeBy net_cmp) (IsLtBy net_cmp) (Included asked) (Included (last_within asked))
within-forward asked prefix = on asked.addr asked.len prefix where
  on : (a : Addr) (m : ℕ) → IsPrefix a m → IsForward (IsLeBy net_cmp) (IsLtBy net_cmp) (Included (net_of a m)) (Included (last_within (net_of a m)))
  on (V4 x) m prefix = not_past_v4 x (x + (2 ^ (32 - m) - 1)) m 32 (omega arith) prefix.within
  on (V6 x) m prefix = not_past_v6 x (x + (2 ^ (128 - m) - 1)) m 128 (omega arith) prefix.within
