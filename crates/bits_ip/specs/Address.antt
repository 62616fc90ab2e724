-- Addresses as numbers with a family, of 32 or of 128 bits (`family_of`, `number_of`, `width_of`).
-- From: RFC 791; RFC 4291, section 2.
-- Example: 10.0.0.0 is V4 with 167772160.
use Rattle.std.specs.Prelude.{ℕ}
use Rattle.bits_ip.specs.declared.address.Addr.{Addr}
use Rattle.bits_ip.specs.declared.address.Addr.TheVariants.{V4, V6}
use Rattle.bits_ip.specs.declared.address.Family.{Family}
use Rattle.bits_ip.specs.declared.address.Family.TheVariants as families

abbrev pub family_of : Addr → Family
family_of (V4 n) = families.V4
family_of (V6 n) = families.V6

-- the address as a number, the first bit the greatest
abbrev pub number_of : Addr → ℕ
number_of (V4 n) = n
number_of (V6 n) = n

-- how many bits an address of this family has
abbrev pub width_of : Addr → ℕ
width_of (V4 n) = 32
width_of (V6 n) = 128

-- IPv4 comes before IPv6
abbrev pub family_rank : Addr → ℕ
family_rank (V4 n) = 0
family_rank (V6 n) = 1
