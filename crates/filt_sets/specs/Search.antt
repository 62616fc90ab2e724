-- How the code searches sets and masks: nothing that is promised. Of `cuts`, which filt_values
-- names, a law says that it is `IsCut` of Mask.
use Rattle.std.specs.Prelude.{◌≡◌, ℕ, ◌<◌, ◌≤◌, ◌==◌, nat_le, nat_lt, if◌then◌else◌, IsTrue}
use Rattle.std.specs.Prelude.{Bool, true, false, ◌&&◌, ◌||◌}
use Rattle.std.specs.Prelude.{List, [], ◌∷◌, length, take, drop, slice_index_or, All}
use Rattle.std.specs.List.{AllAdjacentBelow}
use Rattle.std.specs.List.Sorted.{IsPermutation, IsSortedBy}
use Rattle.std.specs.declared.cmp.Ordering.{Ordering}
use Rattle.std.specs.declared.cmp.Ordering.TheVariants.{Less, Equal, Greater}
use Rattle.bits_ip.specs.declared.address.Addr.{Addr}
use Rattle.bits_ip.specs.Address.{family_of, family_rank, width_of}
use Rattle.bits_ip.specs.Prefix.{Net, IsPrefix, Covers, front_bits, precedes}
use Rattle.filt_sets.specs.declared.ints.IntItem.{IntItem}
use Rattle.filt_sets.specs.declared.prefixes.PrefixItem.{PrefixItem}
use Rattle.filt_sets.specs.declared.prefixes.Search.{Search}
use Rattle.filt_sets.specs.declared.prefixes.Search.TheVariants.{Exact, InOrder}
use Rattle.filt_sets.specs.declared.mask.Atom.{Atom}
use Rattle.filt_sets.specs.declared.mask.Atom.TheVariants.{Range, One, Any}
use Rattle.filt_sets.specs.declared.mask.MaskItem.{MaskItem}

abbrev pub is_run : Atom → Bool
is_run (Range lo hi) = false
is_run One = false
is_run Any = true

-- the AS may stand in a piece
abbrev pub accepts : Atom → ℕ → Bool
accepts (Range lo hi) n = nat_le lo n && nat_le n hi
accepts One n = true
accepts Any n = true

abbrev pub is_empty : List ℕ → Bool
is_empty [] = true
is_empty (n ∷ path) = false

-- The item and the later ones match from a place on. `here` and `behind` tell of the later ones
-- alone, at the place and behind its AS, and `again` of the item and the later ones behind it.
abbrev pub matches_at : MaskItem → ℕ → Bool → Bool → Bool → Bool
matches_at item n here behind again =
    if is_run item.atom then here || again
    else accepts item.atom n && (behind || (item.many && again))

-- the item matches a path with what the later ones match
abbrev pub before : MaskItem → (List ℕ → Bool) → List ℕ → Bool
before item later [] = is_run item.atom && later []
before item later (n ∷ path) =
    matches_at item n (later (n ∷ path)) (later path) (before item later path)

abbrev pub cuts : List MaskItem → List ℕ → Bool
cuts [] path = is_empty path
cuts (item ∷ items) path = before item (cuts items) path

-- the marks tell the answer from each place of the path on
abbrev pub Tells : (List ℕ → Bool) → List ℕ → List Bool → Type 0
Tells answer path marks =
    (k : ℕ) → k ≤ length path → slice_index_or marks k false ≡ answer (drop k path)

-- where an item's range lies, seen from a number
abbrev pub side_of : ℕ → IntItem → Ordering
side_of n item = if nat_lt item.hi n then Less else (if nat_lt n item.lo then Greater else Equal)

-- ranges with a number each, in rising order and apart
pub record AreApart (items : List IntItem) : Type 0 where
  pub filled : All (λ item. item.lo ≤ item.hi) items
  pub rising : AllAdjacentBelow (λ a b. a.hi < b.lo) items (length items)

-- These are the items that were given, in order and apart where `are_apart` says so.
pub record HoldsInts (are_apart : Bool) (given items : List IntItem) : Type 0 where
  pub fits : IsTrue are_apart → AreApart items
  pub permutation : IsPermutation given items

-- an item that takes its own net alone
pub record IsExact (item : PrefixItem) : Type 0 where
  pub prefix : IsPrefix item.net.addr item.net.len
  pub lo : item.lo ≡ item.net.len
  pub hi : item.hi ≡ item.net.len

-- such items in the order of nets
pub record AreExact (items : List PrefixItem) : Type 0 where
  pub each : All IsExact items
  pub rising : IsSortedBy (λ a b. precedes a.net b.net) items

-- the length is among those that the item takes
abbrev pub TakesLength : PrefixItem → ℕ → Type 0
TakesLength item len = (item.lo ≤ len) × (len ≤ item.hi)

-- its net is a prefix
abbrev pub IsNet : PrefixItem → Type 0
IsNet item = IsPrefix item.net.addr item.net.len

-- items in the order of their nets
pub record AreRising (items : List PrefixItem) : Type 0 where
  pub each : All IsNet items
  pub rising : IsSortedBy (λ a b. precedes a.net b.net) items

-- an item takes nets shorter than its own from this length on at most
abbrev pub Reaches : ℕ → PrefixItem → Type 0
Reaches shortest item = item.lo < item.net.len → shortest ≤ item.lo

pub record AreInOrder (shortest : ℕ) (items : List PrefixItem) : Type 0 where
  pub nets : AreRising items
  pub least : All (Reaches shortest) items

-- the items may be searched so
abbrev pub IsSearchOf : Search → List PrefixItem → Type 0
IsSearchOf Exact items = AreExact items
IsSearchOf (InOrder shortest) items = AreInOrder shortest items

-- These are the items that were given, in an order by which they may be searched.
pub record HoldsNets (way : Search) (given items : List PrefixItem) : Type 0 where
  pub fits : IsSearchOf way items
  pub permutation : IsPermutation given items

-- the item's net covers this one, whose length it takes
pub record TakesCovered (net : Net) (item : PrefixItem) : Type 0 where
  pub length : TakesLength item net.len
  pub covers : Covers item.net net

-- the item's net is covered by this one, whose length it takes
pub record TakesCovering (net : Net) (item : PrefixItem) : Type 0 where
  pub length : TakesLength item net.len
  pub covers : Covers net item.net

abbrev pub is_covered : Net → PrefixItem → Bool
is_covered net item =
    (family_rank net.addr == family_rank item.net.addr) && nat_le net.len item.net.len
    && (front_bits net.addr net.len == front_bits item.net.addr net.len)

-- the net of the bits that both addresses begin with
pub record IsShared (a b : Addr) (both : Net) : Type 0 where
  pub prefix : IsPrefix both.addr both.len
  pub family : family_of both.addr ≡ family_of b
  pub bits : front_bits both.addr both.len ≡ front_bits b both.len
  pub longest : (len : ℕ) → len ≤ width_of b
      → front_bits a len ≡ front_bits b len → len ≤ both.len

-- none of these comes behind the item, which doesn't come behind the net
pub record AreBehind (items : List PrefixItem) (item : PrefixItem) (net : Net) : Type 0 where
  pub before : All (λ a. precedes item.net a.net ≡ false) items
  pub upto : precedes net item.net ≡ false

-- each item whose net covers this one is among the first so many
abbrev pub HoldCovering : Net → List PrefixItem → ℕ → Type 0
HoldCovering net items n =
    (k : ℕ) (d : PrefixItem) → k < length items → Covers (slice_index_or items k d).net net → k < n

-- a front of the items, none behind the net, which has each item that is looked for
pub record AreLeft (net : Net) (items front : List PrefixItem) : Type 0 where
  pub part : front ≡ take (length front) items
  pub within : length front ≤ length items
  pub upto : (k : ℕ) (d : PrefixItem) → k < length front
      → precedes net (slice_index_or items k d).net ≡ false
  pub held : (k : ℕ) (d : PrefixItem) → k < length items
      → TakesCovered net (slice_index_or items k d) → k < length front
