-- Which numbers, pairs and prefixes an item of a set takes (`TakesInt`, `TakesPair`, `TakesNet`); a
-- set has what some item takes (std's `Any`).
-- From: BIRD User's Guide, "Filters", "Data types", `prefix set`.
-- Example: `[0.0.0.0/0{20,24}]` has 198.18.32.0/20 and 198.18.48.0/24, not 198.18.0.0/19 and
-- 198.18.49.0/25; `[1.0.0.0/8-]` hasn't 1.0.0.0/16.
use Rattle.std.specs.Prelude.{◌≡◌, ℕ, ◌≤◌, min}
use Rattle.bits_ip.specs.Address.{family_of}
use Rattle.bits_ip.specs.Prefix.{Net, front_bits}
use Rattle.filt_sets.specs.declared.ints.IntItem.{IntItem}
use Rattle.filt_sets.specs.declared.pairs.PairItem.{PairItem}
use Rattle.filt_sets.specs.declared.prefixes.PrefixItem.{PrefixItem}

-- the number is in the range, whose ends belong to it
abbrev pub TakesInt : IntItem → ℕ → Type 0
TakesInt item n = (item.lo ≤ n) × (n ≤ item.hi)

-- each part of the pair is in the range of its part
abbrev pub TakesPair : PairItem → ℕ → ℕ → Type 0
TakesPair item a b = TakesInt item.a a × TakesInt item.b b

-- A net of the item's family, with a length in the item's range. Its first bits are those of the
-- item's net: as many bits as both have.
pub record TakesNet (item : PrefixItem) (net : Net) : Type 0 where
  pub family : family_of item.net.addr ≡ family_of net.addr
  pub lo : item.lo ≤ net.len
  pub hi : net.len ≤ item.hi
  pub bits : let both = min net.len item.net.len in
      front_bits item.net.addr both ≡ front_bits net.addr both
