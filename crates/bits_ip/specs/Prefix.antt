-- Prefixes: which there are (`IsPrefix`: a length within the family's, host bits zero), which
-- covers which (`Covers`), their order (`net_cmp`: by family, address, length), and a bit of an
-- address (`bit_at`, the first at 0).
-- From: RFC 4632, section 3.1; RFC 4291, section 2.3; the order and the numbers of bits are own.
-- Example: 10.0.0.1/8 and 0.0.0.0/33 are none; 10.0.0.0/8 comes before 10.0.0.0/16, that before
-- 10.1.0.0/16; bit 0 of 128.0.0.0/1 is 1.
use Rattle.std.specs.Prelude.{◌≡◌, ℕ, ◌-◌, ◌/◌, ◌%◌, ◌^◌, ◌≤◌, Bool, false, ◌&&◌, ◌==◌}
use Rattle.std.specs.Ordering.{is_lt, nat_cmp, on, then_cmp}
use Rattle.std.specs.declared.cmp.Ordering.{Ordering}
use Rattle.bits_ip.specs.declared.address.Addr.{Addr}
use Rattle.bits_ip.specs.declared.address.Addr.TheVariants.{V4, V6}
use Rattle.bits_ip.specs.Address.{family_of, family_rank, number_of, width_of}

-- an address and how many of its bits count
pub record Net : Type 0 where
  pub addr : Addr
  pub len : ℕ

-- The length is within the family's, and each bit behind it is zero.
pub record IsPrefix (addr : Addr) (len : ℕ) : Type 0 where
  pub within : len ≤ width_of addr
  pub host_bits : number_of addr % 2 ^ (width_of addr - len) ≡ 0

-- the first bits of an address, as many as the length says
abbrev pub front_bits : Addr → ℕ → ℕ
front_bits addr len = number_of addr / 2 ^ (width_of addr - len)

-- the bit at this place, the first at 0
abbrev pub bit_at : Addr → ℕ → ℕ
bit_at addr i = number_of addr / 2 ^ (width_of addr - 1 - i) % 2

-- a covers b: one family, a isn't longer, and the bits of a agree
pub record Covers (a b : Net) : Type 0 where
  pub family : family_of a.addr ≡ family_of b.addr
  pub len : a.len ≤ b.len
  pub bits : front_bits a.addr a.len ≡ front_bits b.addr a.len

-- the order of nets: by family, then by address, then by length
abbrev pub net_cmp : Net → Net → Ordering
net_cmp =
    then_cmp (on (λ n. family_rank n.addr) nat_cmp)
    (then_cmp (on (λ n. number_of n.addr) nat_cmp) (on (λ n. n.len) nat_cmp))

abbrev pub precedes : Net → Net → Bool
precedes a b = is_lt (net_cmp a b)

abbrev pub same_addr : Addr → Addr → Bool
same_addr (V4 a) (V4 b) = a == b
same_addr (V6 a) (V6 b) = a == b
same_addr _ _ = false

-- the same net
abbrev pub same_net : Net → Net → Bool
same_net a b = same_addr a.addr b.addr && (a.len == b.len)
