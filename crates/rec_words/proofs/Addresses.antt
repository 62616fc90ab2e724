-- Addresses and nets in words.
use Rattle.std.proofs.Common.{◌≡◌, ℕ, ◌+◌, ◌*◌, ◌/◌, ◌%◌, ◌<◌, ◌≤◌, ◌^◌, Bool, true, false, ◌==◌, cond, List, [], ◌∷◌, ◌++◌, Option, Some, None, refl, sym, ap, subst, ◌∙◌, arith}
use Rattle.std.specs.Prelude.{IfSome}
use Rattle.std.proofs.lemmas.Bool.{eqb-true}
use Rattle.std.proofs.lemmas.Bool.Decides.{nat_tests}
use Rattle.bits_ip.specs.Address.{number_of, width_of}
use Rattle.bits_ip.specs.Prefix.{Net, IsPrefix}
use Rattle.bits_ip.specs.declared.address.Addr.{Addr}
use Rattle.bits_ip.specs.declared.address.Addr.TheVariants.{V4, V6}
use Rattle.rec_words.specs.Spelling.{addr_words, at_bit, family_number, net_words}
use Rattle.rec_words.specs.Entries.{IsAddr, IsNet}
use Rattle.rec_words.specs.Reading.{addr_at, family_addr_at, is_prefix, net_at, number_at, v4_at, v6_at}
use Rattle.rec_words.proofs.Takes.{IsWords, IsWords-rest, bind_some, guard_some, map_some, some_is, Takes}
use Rattle.rec_words.proofs.Halves.{number_again, number_takes}

pub addr_again : (addr : Option Addr) (rest : List ℕ) → IfSome addr IsAddr → addr_at (addr_words addr ++ rest) ≡ Some (addr, rest)
unfolding addr_at v4_at v6_at
addr_again None rest is = refl
addr_again (Some (V4 n)) rest is = rw (number_again n is) refl
addr_again (Some (V6 n)) rest is =
    let whole : n / 2 ^ 64 * 2 ^ 64 + n % 2 ^ 64 ≡ n = omega arith in
    rw whole refl

v4_takes : (ws : List ℕ) (addr : Option Addr) (rest : List ℕ) → IsWords (4 ∷ ws) → v4_at ws ≡ Some (addr, rest) → Takes (4 ∷ ws) (addr_words addr) rest × IfSome addr IsAddr
unfolding v4_at
v4_takes [] addr rest fits e = absurd cc
v4_takes (word ∷ ws) addr rest fits e =
    let b = bind_some (number_at word) (λ n. Some (Some (V4 n), ws)) (addr, rest) e in
    let n = number_takes word b.0 b.1 in
    subst
    (λ (x : Option Addr × List ℕ). Takes (4 ∷ word ∷ ws) (addr_words x.0) x.1 × IfSome x.0 IsAddr)
    (some_is (Some (V4 b.0), ws) (addr, rest) b.2)
    (record { parts = ap (λ (m : ℕ). 4 ∷ m ∷ ws) n.0; rest_fits = IsWords-rest word ws (IsWords-rest 4 (word ∷ ws) fits) }, n.1)

v6_takes : (ws : List ℕ) (addr : Option Addr) (rest : List ℕ) → IsWords (6 ∷ ws) → v6_at ws ≡ Some (addr, rest) → Takes (6 ∷ ws) (addr_words addr) rest × IfSome addr IsAddr
unfolding v6_at
v6_takes [] addr rest fits e = absurd cc
v6_takes (high ∷ []) addr rest fits e = absurd cc
v6_takes (high ∷ low ∷ ws) addr rest fits e =
    let n = high * 2 ^ 64 + low in
    let one : n / 2 ^ 64 ≡ high = omega (arith, fits 2) in
    let other : n % 2 ^ 64 ≡ low = omega (arith, fits 2) in
    let small : n < 2 ^ 128 = omega (arith, fits 1, fits 2) in
    let parts : 6 ∷ high ∷ low ∷ ws ≡ 6 ∷ (n / 2 ^ 64) ∷ (n % 2 ^ 64) ∷ ws = ap (λ (m : ℕ). 6 ∷ m ∷ low ∷ ws) (sym one) ∙ ap (λ (m : ℕ). 6 ∷ (n / 2 ^ 64) ∷ m ∷ ws) (sym other) in
    subst
    (λ (x : Option Addr × List ℕ). Takes (6 ∷ high ∷ low ∷ ws) (addr_words x.0) x.1 × IfSome x.0 IsAddr)
    (some_is (Some (V6 n), ws) (addr, rest) e)
    (record { parts = parts; rest_fits = IsWords-rest low ws (IsWords-rest high (low ∷ ws) (IsWords-rest 6 (high ∷ low ∷ ws) fits)) }, small)

-- by the number of the family
by_family : (family : ℕ) (ws : List ℕ) (addr : Option Addr) (rest : List ℕ) → IsWords (family ∷ ws) → addr_at (family ∷ ws) ≡ Some (addr, rest) → (b0 b4 b6 : Bool) → (family == 0) ≡ b0 → (family == 4) ≡ b4 → (family == 6) ≡ b6 → Takes (family ∷ ws) (addr_words addr) rest × IfSome addr IsAddr
unfolding addr_at
by_family family ws addr rest fits e true b4 b6 e0 e4 e6 =
    let zero_is : family ≡ 0 = eqb-true family 0 e0 in
    let e' = rw e0 at e in
    let start : Takes (family ∷ ws) (0 ∷ []) ws = record { parts = ap (λ (f : ℕ). f ∷ ws) zero_is; rest_fits = IsWords-rest family ws fits } in
    subst (λ (x : Option Addr × List ℕ). Takes (family ∷ ws) (addr_words x.0) x.1 × IfSome x.0 IsAddr) (some_is (None, ws) (addr, rest) e') (start, tt)
by_family family ws addr rest fits e false true b6 e0 e4 e6 =
    let four : family ≡ 4 = eqb-true family 4 e4 in
    let e' = rw (e0, e4) at e in
    subst (λ (f : ℕ). Takes (f ∷ ws) (addr_words addr) rest × IfSome addr IsAddr) (sym four) (v4_takes ws addr rest (subst (λ (f : ℕ). IsWords (f ∷ ws)) four fits) e')
by_family family ws addr rest fits e false false true e0 e4 e6 =
    let six : family ≡ 6 = eqb-true family 6 e6 in
    let e' = rw (e0, e4, e6) at e in
    subst (λ (f : ℕ). Takes (f ∷ ws) (addr_words addr) rest × IfSome addr IsAddr) (sym six) (v6_takes ws addr rest (subst (λ (f : ℕ). IsWords (f ∷ ws)) six fits) e')
by_family family ws addr rest fits e false false false e0 e4 e6 = let e' = rw (e0, e4, e6) at e in absurd cc

pub addr_takes : (ws : List ℕ) (addr : Option Addr) (rest : List ℕ) → IsWords ws → addr_at ws ≡ Some (addr, rest) → Takes ws (addr_words addr) rest × IfSome addr IsAddr
unfolding addr_at
addr_takes [] addr rest fits e = absurd cc
addr_takes (family ∷ ws) addr rest fits e = by_family family ws addr rest fits e (family == 0) (family == 4) (family == 6) refl refl refl

-- nets

pub family_addr_again : (addr : Addr) → IsAddr addr → family_addr_at (family_number addr) (number_of addr / 2 ^ 64) (number_of addr % 2 ^ 64) ≡ Some addr
unfolding family_addr_at
family_addr_again (V4 n) is =
    let high : n / 2 ^ 64 ≡ 0 = omega (arith, is) in
    let low : n % 2 ^ 64 ≡ n = omega (arith, is) in
    rw (high, low, number_again n is) refl
family_addr_again (V6 n) is =
    let whole : n / 2 ^ 64 * 2 ^ 64 + n % 2 ^ 64 ≡ n = omega arith in
    rw whole refl

pub record IsFamilyAddr (family high low : ℕ) (addr : Addr) : Type 0 where
  pub family_is : family_number addr ≡ family
  pub high_is : number_of addr / 2 ^ 64 ≡ high
  pub low_is : number_of addr % 2 ^ 64 ≡ low
  pub is : IsAddr addr

by_version : (family high low : ℕ) (addr : Addr) → high < 2 ^ 64 → low < 2 ^ 64 → family_addr_at family high low ≡ Some addr → (b4 b6 bh : Bool) → (family == 4) ≡ b4 → (family == 6) ≡ b6 → (high == 0) ≡ bh → IsFamilyAddr family high low addr
unfolding family_addr_at
by_version family high low addr small other e true b6 true e4 e6 eh =
    let four : family ≡ 4 = eqb-true family 4 e4 in
    let none : high ≡ 0 = eqb-true high 0 eh in
    let e' = rw (e4, eh) at e in
    let b = map_some (number_at low) (λ n. V4 n) addr e' in
    let n = number_takes low b.0 b.1 in
    subst
    (λ (a : Addr). IsFamilyAddr family high low a)
    b.2
    (record { family_is = sym four; high_is = omega (arith, n.1, none); low_is = omega (arith, n.0, n.1); is = n.1 })
by_version family high low addr small other e true b6 false e4 e6 eh = let e' = rw (e4, eh) at e in absurd cc
by_version family high low addr small other e false true bh e4 e6 eh =
    let six : family ≡ 6 = eqb-true family 6 e6 in
    let e' = rw (e4, e6) at e in
    let n = high * 2 ^ 64 + low in
    let one : n / 2 ^ 64 ≡ high = omega (arith, other) in
    let two : n % 2 ^ 64 ≡ low = omega (arith, other) in
    let whole : n < 2 ^ 128 = omega (arith, small, other) in
    subst (λ (a : Addr). IsFamilyAddr family high low a) (some_is (V6 n) addr e') (record { family_is = sym six; high_is = one; low_is = two; is = whole })
by_version family high low addr small other e false false bh e4 e6 eh = let e' = rw (e4, e6) at e in absurd cc

family_addr_takes : (family high low : ℕ) (addr : Addr) → high < 2 ^ 64 → low < 2 ^ 64 → family_addr_at family high low ≡ Some addr → IsFamilyAddr family high low addr
family_addr_takes family high low addr small other e = by_version family high low addr small other e (family == 4) (family == 6) (high == 0) refl refl refl

is_prefix_again : (addr : Addr) (len : ℕ) → IsPrefix addr len → is_prefix addr len ≡ true
is_prefix_again addr len is = grind (arith, nat_tests, is.within, is.host_bits)

is_prefix_takes : (addr : Addr) (len : ℕ) → is_prefix addr len ≡ true → IsPrefix addr len
is_prefix_takes addr len e = record { within = grind (arith, nat_tests, e); host_bits = grind (arith, nat_tests, e) }

short : (addr : Addr) (len : ℕ) → len ≤ width_of addr → len < 256
short (V4 n) len within = omega (arith, within)
short (V6 n) len within = omega (arith, within)

pub net_again : (net : Net) → IsNet net → net_at (net.len + at_bit 8 (family_number net.addr)) (number_of net.addr / 2 ^ 64) (number_of net.addr % 2 ^ 64) ≡ Some net
unfolding net_at
net_again net is =
    let form = net.len + at_bit 8 (family_number net.addr) in
    let len : form % 256 ≡ net.len = omega (arith, short net.addr net.len is.prefix.within) in
    let family : form / 256 ≡ family_number net.addr = omega (arith, short net.addr net.len is.prefix.within) in
    rw (len, family, family_addr_again net.addr is.addr, is_prefix_again net.addr net.len is.prefix) refl

pub record IsFormOf (form high low : ℕ) (net : Net) : Type 0 where
  pub words : form ∷ high ∷ low ∷ [] ≡ net_words net
  pub is : IsNet net

pub net_takes : (form high low : ℕ) (net : Net) → high < 2 ^ 64 → low < 2 ^ 64 → net_at form high low ≡ Some net → IsFormOf form high low net
unfolding net_at
net_takes form high low net small other e =
    let b = bind_some (family_addr_at (form / 256) high low) (λ addr. cond (is_prefix addr (form % 256)) (Some record { addr = addr; len = form % 256 }) None) net e in
    let addr = b.0 in
    let f = family_addr_takes (form / 256) high low addr small other b.1 in
    let g = guard_some (is_prefix addr (form % 256)) (Some record { addr = addr; len = form % 256 }) net b.2 in
    let whole : form ≡ form % 256 + at_bit 8 (family_number addr) = omega (arith, f.family_is) in
    let made : Net = record { addr = addr; len = form % 256 } in
    let words : form ∷ high ∷ low ∷ [] ≡ net_words made =
    ap (λ (n : ℕ). n ∷ high ∷ low ∷ []) whole ∙ ap (λ (n : ℕ). (form % 256 + at_bit 8 (family_number addr)) ∷ n ∷ low ∷ []) (sym f.high_is)
    ∙ ap (λ (n : ℕ). (form % 256 + at_bit 8 (family_number addr)) ∷ (number_of addr / 2 ^ 64) ∷ n ∷ []) (sym f.low_is) in
    subst (λ (n : Net). IsFormOf form high low n) (some_is made net g.1) (record { words = words; is = record { addr = f.is; prefix = is_prefix_takes addr (form % 256) g.0 } })
