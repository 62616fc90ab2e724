-- Sets, masks and labels as they are written: the sort of each item, and what is refused of it
-- (`item`, `common`). An item that names no constant that is a number is refused there, and has no
-- sort.
-- From: BIRD User's Guide, "Filters", "Data types"; where the guide is silent, own.
-- Example: `[1, (2,3)]` is of two sorts, `5..2` backwards, `10.0.0.0/8{8,40}` past the family.
use Rattle.std.specs.Prelude.{ℕ, Bool, true, false, ◌||◌, nat_lt, if◌then◌else◌, List, [], ◌∷◌}
use Rattle.std.specs.Prelude.{◌++◌, Option, Some, None}
use Rattle.bits_ip.specs.Address.{width_of}
use Rattle.bits_ip.specs.Prefix.{Net}
use Rattle.conf_ast.specs.declared.filters.Item.{Item}
use Rattle.conf_ast.specs.declared.filters.Item.TheVariants as items
use Rattle.conf_ast.specs.declared.filters.Lengths.{Lengths}
use Rattle.conf_ast.specs.declared.filters.Lengths.TheVariants as lengths
use Rattle.conf_ast.specs.declared.filters.MaskAtom.{MaskAtom}
use Rattle.conf_ast.specs.declared.filters.MaskAtom.TheVariants as mask_atoms
use Rattle.conf_ast.specs.declared.filters.MaskItem.{MaskItem}
use Rattle.conf_ast.specs.declared.filters.Num.{Num}
use Rattle.conf_ast.specs.declared.filters.Num.TheVariants as nums
use Rattle.conf_ast.specs.declared.filters.PairPart.{PairPart}
use Rattle.conf_ast.specs.declared.filters.PairPart.TheVariants as parts
use Rattle.conf_ast.specs.declared.filters.NumRange.{NumRange}
use Rattle.filt_meaning.specs.declared.value.Sort.{Sort}
use Rattle.filt_meaning.specs.declared.value.Sort.TheVariants as sorts
use Rattle.filt_meaning.specs.Values.{Val, VInt}
use Rattle.filt_types.specs.declared.refusal.Cause.TheVariants as causes
use Rattle.filt_types.specs.declared.refusal.Refusal.{Refusal}
use Rattle.filt_types.specs.Refusals.{refused_if}
use Rattle.filt_meaning.specs.Rules.{same_sort}
use Rattle.filt_types.specs.Scenes.{Scene, constant_of}

-- ---- numbers

abbrev pub is_none : {A : Type 0} → Option A → Bool
is_none None = true
is_none (Some a) = false

abbrev pub number_in : Option Val → Option ℕ
number_in (Some (VInt n)) = Some n
number_in _ = None

-- the number, where the name is one of a constant that is a number
abbrev pub value_of : Scene → Num → Option ℕ
value_of scene (nums.Number at n) = Some n
value_of scene (nums.Name name) = number_in (constant_of scene name)

abbrev pub place_of : Num → ℕ
place_of (nums.Number at n) = at
place_of (nums.Name name) = name.at

abbrev pub number : Scene → Num → List Refusal
number scene n = refused_if (is_none (value_of scene n)) (place_of n) causes.UnknownName

-- it is known and over a limit
abbrev pub is_over : ℕ → Option ℕ → Bool
is_over limit None = false
is_over limit (Some n) = nat_lt limit n

-- both are known, and the first is over the second
abbrev pub is_backwards : Option ℕ → Option ℕ → Bool
is_backwards (Some lo) (Some hi) = nat_lt hi lo
is_backwards _ _ = false

-- ---- ranges

-- the last number of a range, where it has one of its own
abbrev pub last_of : Scene → Option Num → Option ℕ
last_of scene None = None
last_of scene (Some n) = value_of scene n

abbrev pub last_number : Scene → Option Num → List Refusal
last_number scene None = []
last_number scene (Some n) = number scene n

-- the numbers of a range
abbrev pub numbers : Scene → NumRange → List Refusal
numbers scene p = number scene p.low ++ last_number scene p.high

-- a range whose first number is over its last, refused at this place
abbrev pub backwards : Scene → NumRange → (at : ℕ) → List Refusal
backwards scene p at =
    refused_if (is_backwards (value_of scene p.low) (last_of scene p.high)) at causes.Limit

abbrev pub range : Scene → NumRange → List Refusal
range scene p = numbers scene p ++ backwards scene p (place_of p.low)

-- its numbers are known
abbrev pub is_known : {A : Type 0} → List A → Bool
is_known [] = true
is_known (r ∷ rs) = false

-- ---- pairs

abbrev pub over_16_bits : Scene → Num → List Refusal
over_16_bits scene n = refused_if (is_over 65535 (value_of scene n)) (place_of n) causes.Limit

abbrev pub last_over_16_bits : Scene → Option Num → List Refusal
last_over_16_bits scene None = []
last_over_16_bits scene (Some n) = over_16_bits scene n

abbrev pub names_in_part : Scene → PairPart → List Refusal
names_in_part scene parts.Any = []
names_in_part scene (parts.Range p) = numbers scene p

-- the limits of a part of a pair whose parenthesis stands at this place
abbrev pub limits_of_part : Scene → (at : ℕ) → PairPart → List Refusal
limits_of_part scene at parts.Any = []
limits_of_part scene at (parts.Range p) =
    over_16_bits scene p.low ++ last_over_16_bits scene p.high ++ backwards scene p at

-- ---- prefixes

abbrev pub names_in_lengths : Scene → Option Lengths → List Refusal
names_in_lengths scene (Some (lengths.Between lo hi)) = number scene lo ++ number scene hi
names_in_lengths scene _ = []

abbrev pub are_lengths_wrong : Net → Option ℕ → Option ℕ → Bool
are_lengths_wrong net lo hi =
    is_backwards lo hi || is_over (width_of net.addr) lo || is_over (width_of net.addr) hi

-- the lengths of a prefix that begins at this place: in their order, and within the family's
abbrev pub limits_of_lengths : Scene → (at : ℕ) → Net → Option Lengths → List Refusal
limits_of_lengths scene at net (Some (lengths.Between lo hi)) =
    refused_if (are_lengths_wrong net (value_of scene lo) (value_of scene hi)) at causes.Limit
limits_of_lengths scene at net _ = []

-- ---- items

-- what is refused of the names in an item, and of its limits
abbrev pub names_in_item : Scene → Item → List Refusal
names_in_item scene (items.Range p) = numbers scene p
names_in_item scene (items.Pair at a b) = names_in_part scene a ++ names_in_part scene b
names_in_item scene (items.Prefix at net l) = names_in_lengths scene l

abbrev pub limits_of_item : Scene → Item → List Refusal
limits_of_item scene (items.Range p) = backwards scene p (place_of p.low)
limits_of_item scene (items.Pair at a b) =
    limits_of_part scene at a ++ limits_of_part scene at b
limits_of_item scene (items.Prefix at net l) = limits_of_lengths scene at net l

abbrev pub item : Scene → Item → List Refusal
item scene i = names_in_item scene i ++ limits_of_item scene i

abbrev pub sort_of_elements : Item → Sort
sort_of_elements (items.Range p) = sorts.Int
sort_of_elements (items.Pair at a b) = sorts.Pair
sort_of_elements (items.Prefix at net l) = sorts.Prefix

abbrev pub sort_where : Bool → Sort → Option Sort
sort_where true sort = Some sort
sort_where false sort = None

-- the sort of its elements, where its names are known
abbrev pub sort_of_item : Scene → Item → Option Sort
sort_of_item scene i = sort_where (is_known (names_in_item scene i)) (sort_of_elements i)

abbrev pub all_items : Scene → List Item → List Refusal
all_items scene [] = []
all_items scene (i ∷ more) = item scene i ++ all_items scene more

abbrev pub sorts_of_items : Scene → List Item → List (Option Sort)
sorts_of_items scene [] = []
sorts_of_items scene (i ∷ more) = sort_of_item scene i ∷ sorts_of_items scene more

-- ---- one sort for all

-- the sorts of some parts so far: none is known, one is, or two differ
pub data Common : Type 0 where
  NoneYet : Common
  One : Sort → Common
  Many : Common

abbrev pub with_sort : Common → Option Sort → Common
with_sort c None = c
with_sort NoneYet (Some sort) = One sort
with_sort (One first) (Some sort) = if same_sort first sort then One first else Many
with_sort Many (Some sort) = Many

abbrev pub common : Common → List (Option Sort) → Common
common c [] = c
common c (s ∷ more) = common (with_sort c s) more

abbrev pub differ : Common → Bool
differ NoneYet = false
differ (One sort) = false
differ Many = true

abbrev pub all_known : List (Option Sort) → Bool
all_known [] = true
all_known (None ∷ more) = false
all_known (Some sort ∷ more) = all_known more

abbrev pub is_empty : {A : Type 0} → List A → Bool
is_empty [] = true
is_empty (a ∷ more) = false

-- the set of elements of such a sort
abbrev pub set_of_sort : Sort → Option Sort
set_of_sort sorts.Int = Some sorts.IntSet
set_of_sort sorts.Pair = Some sorts.PairSet
set_of_sort sorts.Prefix = Some sorts.PrefixSet
set_of_sort _ = None

-- ---- masks

abbrev pub atom : Scene → MaskAtom → List Refusal
atom scene mask_atoms.One = []
atom scene mask_atoms.Any = []
atom scene (mask_atoms.Range p) = range scene p

abbrev pub names_in_atom : Scene → MaskAtom → List Refusal
names_in_atom scene mask_atoms.One = []
names_in_atom scene mask_atoms.Any = []
names_in_atom scene (mask_atoms.Range p) = numbers scene p

abbrev pub all_atoms : Scene → List MaskItem → List Refusal
all_atoms scene [] = []
all_atoms scene (i ∷ more) = atom scene i.atom ++ all_atoms scene more

abbrev pub names_in_mask : Scene → List MaskItem → List Refusal
names_in_mask scene [] = []
names_in_mask scene (i ∷ more) = names_in_atom scene i.atom ++ names_in_mask scene more
