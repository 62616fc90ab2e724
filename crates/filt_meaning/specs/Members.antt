-- Tests of plain values: which elements sets, paths and lists have (`in_ints`, `in_pairs`,
-- `in_nets`, `in_path`), which net is within which (`covers`), the order of pairs and of addresses
-- (`pair_cmp`, `addr_cmp`), and the numbers of attributes' words.
-- From: as of filt_sets, bits_ip and attrs, to whose relations laws join them; the order of
-- addresses is own.
-- Example: (1, 9) before (2, 0); 255.255.255.255 before `::`.
use Rattle.std.specs.Prelude.{ℕ, ◌==◌, Bool, true, false, ◌&&◌, not, nat_le, min, List}
use Rattle.std.specs.List.{list_any}
use Rattle.std.specs.Ordering.{nat_cmp, on, then_cmp}
use Rattle.std.specs.declared.cmp.Ordering.{Ordering}
use Rattle.bits_ip.specs.declared.address.Addr.{Addr}
use Rattle.bits_ip.specs.Address.{family_rank, number_of, width_of}
use Rattle.bits_ip.specs.Prefix.{Net, front_bits}
use Rattle.filt_sets.specs.declared.ints.IntItem.{IntItem}
use Rattle.filt_sets.specs.declared.pairs.PairItem.{PairItem}
use Rattle.filt_sets.specs.declared.prefixes.PrefixItem.{PrefixItem}
use Rattle.attrs.specs.declared.attributes.Kind.{Kind}
use Rattle.attrs.specs.declared.attributes.Kind.TheVariants as kinds
use Rattle.attrs.specs.declared.attributes.Dest.{Dest}
use Rattle.attrs.specs.declared.attributes.Dest.TheVariants as dests
use Rattle.attrs.specs.declared.attributes.Origin.{Origin}
use Rattle.attrs.specs.declared.attributes.Origin.TheVariants as origins

-- ---- sets

-- the number is in the range, whose ends belong to it
abbrev pub takes_int : IntItem → ℕ → Bool
takes_int item n = nat_le item.lo n && nat_le n item.hi

abbrev pub takes_pair : PairItem → (ℕ × ℕ) → Bool
takes_pair item p = takes_int item.a p.0 && takes_int item.b p.1

-- one family, a length in the range, and the same first bits, as many as both have
abbrev pub takes_net : PrefixItem → Net → Bool
takes_net item net =
    (family_rank item.net.addr == family_rank net.addr)
    && (nat_le item.lo net.len && (nat_le net.len item.hi
    && (front_bits item.net.addr (min net.len item.net.len)
    == front_bits net.addr (min net.len item.net.len))))

abbrev pub in_ints : List IntItem → ℕ → Bool
in_ints items n = list_any (λ item. takes_int item n) items

abbrev pub in_pairs : List PairItem → (ℕ × ℕ) → Bool
in_pairs items p = list_any (λ item. takes_pair item p) items

abbrev pub in_nets : List PrefixItem → Net → Bool
in_nets items net = list_any (λ item. takes_net item net) items

-- the number is in the path
abbrev pub in_path : List ℕ → ℕ → Bool
in_path path n = list_any (λ m. m == n) path

-- ---- addresses and prefixes

-- the second is within the first, or is equal to it
abbrev pub covers : Net → Net → Bool
covers a b =
    (family_rank a.addr == family_rank b.addr)
    && (nat_le a.len b.len && (front_bits a.addr a.len == front_bits b.addr a.len))

-- the prefix that has this address alone
abbrev pub host_of : Addr → Net
host_of a = record { addr = a; len = width_of a }

-- IPv4 first, then by number
abbrev pub addr_cmp : Addr → Addr → Ordering
addr_cmp = then_cmp (on family_rank nat_cmp) (on number_of nat_cmp)

-- the first part first
abbrev pub pair_cmp : ℕ × ℕ → ℕ × ℕ → Ordering
pair_cmp = then_cmp (on (λ (p : ℕ × ℕ). p.0) nat_cmp) (on (λ (p : ℕ × ℕ). p.1) nat_cmp)

-- ---- words

abbrev pub same_bool : Bool → Bool → Bool
same_bool true b = b
same_bool false b = not b

abbrev pub source_rank : Kind → ℕ
source_rank kinds.Static = 0
source_rank kinds.Bgp = 1

abbrev pub dest_rank : Dest → ℕ
dest_rank dests.Unicast = 0
dest_rank dests.Blackhole = 1
dest_rank dests.Unreachable = 2
dest_rank dests.Prohibit = 3

abbrev pub origin_rank : Origin → ℕ
origin_rank origins.Igp = 0
origin_rank origins.Egp = 1
origin_rank origins.Incomplete = 2
