-- What written sets, masks and labels are (`set_of`, `mask_of`, `has_label`), whose numbers may be
-- the names of constants.
-- From: BIRD User's Guide, "Filters", "Data types"; where the guide is silent, own.
-- Example: `10.0.0.0/8+` has the lengths 8 to 32, `10.0.0.0/8-` 0 to 8; `(1,*)` the second parts 0
-- to 65535.
use Rattle.std.specs.Prelude.{ℕ, ◌-◌, ◌^◌, nat_lt, if◌then◌else◌, List, [], ◌∷◌, Bool, Option, Some, None, Result, Ok, Err}
use Rattle.bits_ip.specs.Address.{width_of}
use Rattle.bits_ip.specs.Prefix.{Net}
use Rattle.filt_sets.specs.declared.ints.IntItem.{IntItem}
use Rattle.filt_sets.specs.declared.pairs.PairItem.{PairItem}
use Rattle.filt_sets.specs.declared.prefixes.PrefixItem.{PrefixItem}
use Rattle.filt_sets.specs.declared.mask.Atom.{Atom}
use Rattle.filt_sets.specs.declared.mask.Atom.TheVariants as atoms
use Rattle.filt_sets.specs.declared.mask.MaskItem as set
use Rattle.conf_ast.specs.declared.filters.Item.{Item}
use Rattle.conf_ast.specs.declared.filters.Item.TheVariants as items
use Rattle.conf_ast.specs.declared.filters.Lengths.{Lengths}
use Rattle.conf_ast.specs.declared.filters.Lengths.TheVariants as lengths
use Rattle.conf_ast.specs.declared.filters.MaskAtom.{MaskAtom}
use Rattle.conf_ast.specs.declared.filters.MaskAtom.TheVariants as mask_atoms
use Rattle.conf_ast.specs.declared.filters.MaskItem.{MaskItem}
use Rattle.conf_ast.specs.declared.filters.Num.{Num}
use Rattle.conf_ast.specs.declared.filters.Num.TheVariants as nums
use Rattle.conf_ast.specs.declared.filters.PairPart.{PairPart}
use Rattle.conf_ast.specs.declared.filters.PairPart.TheVariants as parts
use Rattle.conf_ast.specs.declared.filters.NumRange.{NumRange}
use Rattle.filt_meaning.specs.declared.value.Failure.{Failure}
use Rattle.filt_meaning.specs.declared.value.Failure.TheVariants.{Stuck}
use Rattle.filt_meaning.specs.Members.{in_ints, in_pairs, in_nets}
use Rattle.filt_meaning.specs.Operators.{and_then, int_in}
use Rattle.filt_meaning.specs.Values.{Val, VInt, VPair, VPrefix, VMask, VIntSet, VPairSet, VPrefixSet}
use Rattle.filt_meaning.specs.Names.{Context, constant_of, there}

-- a number, or the constant of that name, which is one
abbrev pub number : Context → Num → Result ℕ Failure
number c (nums.Number at n) = Ok n
number c (nums.Name name) = and_then (there (constant_of c name)) int_in

-- the last number of a range: the first, where there is one alone
abbrev pub last_number : Context → ℕ → Option Num → Result ℕ Failure
last_number c lo None = Ok lo
last_number c lo (Some n) = number c n

-- `n`, `n..m`
abbrev pub int_item : Context → NumRange → Result IntItem Failure
int_item c p =
    and_then (number c p.low) (λ lo. and_then (last_number c lo p.high)
    (λ hi. Ok (record { lo = lo; hi = hi })))

-- a part of a pair: `*` takes each number of 16 bits
abbrev pub pair_part : Context → PairPart → Result IntItem Failure
pair_part c parts.Any = Ok (record { lo = 0; hi = 2 ^ 16 - 1 })
pair_part c (parts.Range p) = int_item c p

abbrev pub pair_item : Context → PairPart → PairPart → Result PairItem Failure
pair_item c first second =
    and_then (pair_part c first) (λ a. and_then (pair_part c second)
    (λ b. Ok (record { a = a; b = b })))

-- a length in braces: what has more than 8 bits is none
abbrev pub in_8_bits : ℕ → Result ℕ Failure
in_8_bits n = if nat_lt n (2 ^ 8) then Ok n else Err Stuck

abbrev pub prefix_length : Context → Num → Result ℕ Failure
prefix_length c n = and_then (number c n) in_8_bits

abbrev pub between : Context → Net → Num → Num → Result PrefixItem Failure
between c net low high =
    and_then (prefix_length c low) (λ lo. and_then (prefix_length c high)
    (λ hi. Ok (record { net = net; lo = lo; hi = hi })))

-- `net`, `net+`, `net-`, `net{lo,hi}`
abbrev pub prefix_item : Context → Net → Option Lengths → Result PrefixItem Failure
prefix_item c net None = Ok (record { net = net; lo = net.len; hi = net.len })
prefix_item c net (Some lengths.AndLonger) =
    Ok (record { net = net; lo = net.len; hi = width_of net.addr })
prefix_item c net (Some lengths.AndShorter) = Ok (record { net = net; lo = 0; hi = net.len })
prefix_item c net (Some (lengths.Between low high)) = between c net low high

-- an item more before those of a set, which are of its sort
abbrev pub with_int_item : IntItem → Val → Result Val Failure
with_int_item item (VIntSet more) = Ok (VIntSet (item ∷ more))
with_int_item item _ = Err Stuck

abbrev pub with_pair_item : PairItem → Val → Result Val Failure
with_pair_item item (VPairSet more) = Ok (VPairSet (item ∷ more))
with_pair_item item _ = Err Stuck

abbrev pub with_prefix_item : PrefixItem → Val → Result Val Failure
with_prefix_item item (VPrefixSet more) = Ok (VPrefixSet (item ∷ more))
with_prefix_item item _ = Err Stuck

-- the set of one item
abbrev pub set_of_one : Context → Item → Result Val Failure
set_of_one c (items.Range p) = and_then (int_item c p) (λ item. Ok (VIntSet (item ∷ [])))
set_of_one c (items.Pair at a b) = and_then (pair_item c a b) (λ item. Ok (VPairSet (item ∷ [])))
set_of_one c (items.Prefix at net l) =
    and_then (prefix_item c net l) (λ item. Ok (VPrefixSet (item ∷ [])))

-- that item before those of a set
abbrev pub before_set : Context → Item → Val → Result Val Failure
before_set c (items.Range p) more = and_then (int_item c p) (λ item. with_int_item item more)
before_set c (items.Pair at a b) more =
    and_then (pair_item c a b) (λ item. with_pair_item item more)
before_set c (items.Prefix at net l) more =
    and_then (prefix_item c net l) (λ item. with_prefix_item item more)

-- `[ .. ]`: items of one sort, one at least, in their order
abbrev pub set_of : Context → List Item → Result Val Failure
set_of c [] = Err Stuck
set_of c (item ∷ []) = set_of_one c item
set_of c (item ∷ next ∷ more) =
    and_then (set_of c (next ∷ more)) (λ set. before_set c item set)

-- ---- masks

abbrev pub atom_of : Context → MaskAtom → Result Atom Failure
atom_of c mask_atoms.One = Ok atoms.One
atom_of c mask_atoms.Any = Ok atoms.Any
atom_of c (mask_atoms.Range p) = and_then (int_item c p) (λ item. Ok (atoms.Range item.lo item.hi))

abbrev pub mask_item : Context → MaskItem → Result set.MaskItem Failure
mask_item c item =
    and_then (atom_of c item.atom) (λ atom. Ok (record { atom = atom; many = item.many }))

abbrev pub mask_items : Context → List MaskItem → Result (List set.MaskItem) Failure
mask_items c [] = Ok []
mask_items c (item ∷ more) =
    and_then (mask_item c item) (λ first. and_then (mask_items c more) (λ rest. Ok (first ∷ rest)))

-- `[= .. =]`
abbrev pub mask_of : Context → List MaskItem → Result Val Failure
mask_of c more = and_then (mask_items c more) (λ mask. Ok (VMask mask))

-- ---- labels

-- the value is one of these: numbers, pairs and prefixes alone are asked for
abbrev pub among : Val → Val → Result Bool Failure
among (VIntSet s) (VInt n) = Ok (in_ints s n)
among (VPairSet s) (VPair p) = Ok (in_pairs s p)
among (VPrefixSet s) (VPrefix net) = Ok (in_nets s net)
among _ _ = Err Stuck

-- one of the labels has the value
abbrev pub has_label : Context → List Item → Val → Result Bool Failure
has_label c labels v = and_then (set_of c labels) (λ set. among set v)
