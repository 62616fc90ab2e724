-- The values of the filter language as plain data (`Val`), their sorts (`sort_of`), and what a
-- variable without a value holds (`default_of`).
-- Not modelled: where values lie in memory.
-- From: BIRD User's Guide, "Filters", "Data types"; the defaults are own.
-- Example: 0, false, 0.0.0.0, 0.0.0.0/0, (0,0), and what is empty: a `bgpmask` without a value
-- matches the empty path alone.
use Rattle.std.specs.Prelude.{ℕ, Bool, false, List, []}
use Rattle.bits_ip.specs.declared.address.Addr.{Addr}
use Rattle.bits_ip.specs.declared.address.Addr.TheVariants.{V4}
use Rattle.bits_ip.specs.Prefix.{Net}
use Rattle.filt_sets.specs.declared.ints.IntItem.{IntItem}
use Rattle.filt_sets.specs.declared.pairs.PairItem.{PairItem}
use Rattle.filt_sets.specs.declared.prefixes.PrefixItem.{PrefixItem}
use Rattle.filt_sets.specs.declared.mask.MaskItem.{MaskItem}
use Rattle.attrs.specs.declared.attributes.Kind.{Kind}
use Rattle.attrs.specs.declared.attributes.Kind.TheVariants as kinds
use Rattle.attrs.specs.declared.attributes.Dest.{Dest}
use Rattle.attrs.specs.declared.attributes.Dest.TheVariants as dests
use Rattle.attrs.specs.declared.attributes.Origin.{Origin}
use Rattle.attrs.specs.declared.attributes.Origin.TheVariants as origins
use Rattle.filt_meaning.specs.declared.value.Sort.{Sort}
use Rattle.filt_meaning.specs.declared.value.Sort.TheVariants as sorts

-- A value. Numbers have 32 bits, the parts of a pair 16; a string is its bytes; sets and masks are
-- their items.
pub data Val : Type 0 where
  VInt : ℕ → Val
  VBool : Bool → Val
  VIp : Addr → Val
  VPrefix : Net → Val
  VPair : (ℕ × ℕ) → Val
  VString : List ℕ → Val
  VPath : List ℕ → Val
  VMask : List MaskItem → Val
  VClist : List (ℕ × ℕ) → Val
  VIntSet : List IntItem → Val
  VPairSet : List PairItem → Val
  VPrefixSet : List PrefixItem → Val
  VSource : Kind → Val
  VDest : Dest → Val
  VOrigin : Origin → Val

abbrev pub sort_of : Val → Sort
sort_of (VInt n) = sorts.Int
sort_of (VBool b) = sorts.Bool
sort_of (VIp a) = sorts.Ip
sort_of (VPrefix net) = sorts.Prefix
sort_of (VPair p) = sorts.Pair
sort_of (VString s) = sorts.String
sort_of (VPath p) = sorts.Path
sort_of (VMask m) = sorts.Mask
sort_of (VClist l) = sorts.Clist
sort_of (VIntSet s) = sorts.IntSet
sort_of (VPairSet s) = sorts.PairSet
sort_of (VPrefixSet s) = sorts.PrefixSet
sort_of (VSource k) = sorts.Source
sort_of (VDest d) = sorts.Dest
sort_of (VOrigin o) = sorts.Origin

-- What a variable without a value holds. No variable is of the last three sorts; the first of their
-- values stands here for them.
abbrev pub default_of : Sort → Val
default_of sorts.Int = VInt 0
default_of sorts.Bool = VBool false
default_of sorts.Ip = VIp (V4 0)
default_of sorts.Prefix = VPrefix (record { addr = V4 0; len = 0 })
default_of sorts.Pair = VPair (0, 0)
default_of sorts.String = VString []
default_of sorts.Path = VPath []
default_of sorts.Mask = VMask []
default_of sorts.Clist = VClist []
default_of sorts.IntSet = VIntSet []
default_of sorts.PairSet = VPairSet []
default_of sorts.PrefixSet = VPrefixSet []
default_of sorts.Source = VSource kinds.Static
default_of sorts.Dest = VDest dests.Unicast
default_of sorts.Origin = VOrigin origins.Igp
