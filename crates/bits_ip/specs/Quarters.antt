-- For private contracts alone: a number of 128 bits in four parts, as it stands in a prefix.
use Rattle.std.specs.Prelude.{◌≡◌, ℕ, ◌+◌, ◌*◌, ◌/◌, ◌%◌, ◌^◌, ◌<◌}
use Rattle.std.proofs.Common.{ap, ◌∙◌, arith, refl}
use Rattle.bits_ip.specs.Address.{family_of, number_of}
use Rattle.bits_ip.specs.Prefix.{Net}
use Rattle.bits_ip.specs.declared.address.Addr.{Addr}
use Rattle.bits_ip.specs.declared.address.Addr.TheVariants.{V4, V6}
use Rattle.bits_ip.specs.declared.address.Family.{Family}
use Rattle.bits_ip.specs.declared.address.Family.TheVariants as families
use Rattle.bits_ip.specs.declared.prefix.Prefix.TheInside.{Inside}

abbrev pub joined : ℕ → ℕ → ℕ → ℕ → ℕ
joined a b c d = a * 2 ^ 96 + b * 2 ^ 64 + c * 2 ^ 32 + d

-- the address of a family with this number
abbrev pub addr_of : Family → ℕ → Addr
addr_of families.V4 n = V4 n
addr_of families.V6 n = V6 n

abbrev pub net_in : Inside → Net
net_in p = record { addr = addr_of p.family (joined p.first p.second p.third p.fourth); len = p.len }

-- each part has 32 bits, and an address of IPv4 one part
pub record AreParts (p : Inside) : Type 0 where
  pub first : p.first < 2 ^ 32
  pub second : p.second < 2 ^ 32
  pub third : p.third < 2 ^ 32
  pub fourth : p.fourth < 2 ^ 32
  pub short : p.family ≡ families.V4 → joined p.first p.second p.third p.fourth < 2 ^ 32

abbrev pub parts_of : Net → Inside
parts_of n = record {
  first = number_of n.addr / 2 ^ 96;
  second = number_of n.addr / 2 ^ 64 % 2 ^ 32;
  third = number_of n.addr / 2 ^ 32 % 2 ^ 32;
  fourth = number_of n.addr % 2 ^ 32;
  family = family_of n.addr;
  len = n.len;
}

number_is : (f : Family) (n : ℕ) → number_of (addr_of f n) ≡ n
number_is families.V4 n = refl
number_is families.V6 n = refl

family_is : (f : Family) (n : ℕ) → family_of (addr_of f n) ≡ f
family_is families.V4 n = refl
family_is families.V6 n = refl

-- the parts of a net that is made of parts
pub parts_are : (p : Inside) → AreParts p → parts_of (net_in p) ≡ p
parts_are p is =
    let n = number_of (addr_of p.family (joined p.first p.second p.third p.fourth)) in
    let whole : n ≡ joined p.first p.second p.third p.fourth = number_is p.family _ in
    let first : n / 2 ^ 96 ≡ p.first = omega (arith, whole, is.first, is.second, is.third, is.fourth) in
    let second : n / 2 ^ 64 % 2 ^ 32 ≡ p.second = omega (arith, whole, is.first, is.second, is.third, is.fourth) in
    let third : n / 2 ^ 32 % 2 ^ 32 ≡ p.third = omega (arith, whole, is.first, is.second, is.third, is.fourth) in
    let fourth : n % 2 ^ 32 ≡ p.fourth = omega (arith, whole, is.first, is.second, is.third, is.fourth) in
    λ i. record { first = first i; second = second i; third = third i; fourth = fourth i; family = family_is p.family (joined p.first p.second p.third p.fourth) i; len = p.len }
