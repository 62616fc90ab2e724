-- Sets, masks and labels in which nothing is refused are values of the sorts that are seen.
use Rattle.std.proofs.lemmas.Bool.{ltb-false}
use Rattle.std.specs.Prelude.{nat_lt}
use Rattle.bits_ip.specs.declared.address.Addr.{Addr}
use Rattle.bits_ip.specs.declared.address.Addr.TheVariants.{V4, V6}
use Rattle.bits_ip.specs.Address.{width_of}
use Rattle.filt_meaning.specs.declared.value.Failure.TheVariants as failures
use Rattle.std.proofs.Common.{◌≡◌, ℕ, ◌≤◌, ◌^◌, ◌||◌, Ok, Err, arith, Bool, true, false, if◌then◌else◌, List, [], ◌∷◌, ◌++◌, Option, Some, None, refl, sym, ◌∙◌, subst}
use Rattle.std.specs.Bool.{⊤}
use Rattle.bits_ip.specs.Prefix.{Net}
use Rattle.filt_sets.specs.declared.ints.IntItem.{IntItem}
use Rattle.filt_sets.specs.declared.mask.Atom.{Atom}
use Rattle.filt_sets.specs.declared.mask.MaskItem as set
use Rattle.filt_sets.specs.declared.pairs.PairItem.{PairItem}
use Rattle.filt_sets.specs.declared.prefixes.PrefixItem.{PrefixItem}
use Rattle.conf_ast.specs.declared.filters.Item.{Item}
use Rattle.conf_ast.specs.declared.filters.Item.TheVariants as items
use Rattle.conf_ast.specs.declared.filters.Lengths.{Lengths}
use Rattle.conf_ast.specs.declared.filters.Lengths.TheVariants as lengths
use Rattle.conf_ast.specs.declared.filters.MaskAtom.{MaskAtom}
use Rattle.conf_ast.specs.declared.filters.MaskAtom.TheVariants as mask_atoms
use Rattle.conf_ast.specs.declared.filters.MaskItem.{MaskItem}
use Rattle.conf_ast.specs.declared.filters.Num.{Num}
use Rattle.conf_ast.specs.declared.filters.Num.TheVariants as nums
use Rattle.conf_ast.specs.declared.filters.PairPart.{PairPart}
use Rattle.conf_ast.specs.declared.filters.PairPart.TheVariants as parts
use Rattle.conf_ast.specs.declared.filters.NumRange.{NumRange}
use Rattle.filt_meaning.specs.declared.value.Sort.{Sort}
use Rattle.filt_meaning.specs.declared.value.Sort.TheVariants as sorts
use Rattle.filt_meaning.specs.Operators.{and_then, int_in}
use Rattle.filt_meaning.specs.Values.{Val, VInt, VPrefix, VPair, VIntSet, VPairSet, VPrefixSet, sort_of}
use Rattle.filt_meaning.specs.Items as run
use Rattle.filt_meaning.specs.Items.{set_of, mask_of, has_label, among}
use Rattle.filt_meaning.specs.Names.{Around, Context, Doing, there}
use Rattle.filt_types.specs.declared.refusal.Cause.TheVariants as causes
use Rattle.filt_types.specs.Expressions.{set_sort, and_known}
use Rattle.filt_types.specs.Items as seen
use Rattle.filt_types.specs.Items.{Common, NoneYet, One, Many, common, with_sort, differ, all_known, all_items, sorts_of_items, sort_of_item, sort_of_elements, is_empty, set_of_sort, names_in_item, is_none, number_in, names_in_mask, all_atoms}
use Rattle.filt_meaning.specs.Rules.{same_sort}
use Rattle.filt_types.specs.Scenes.{Scene, constant_of}
use Rattle.filt_laws.proofs.Flows.{IsGood, OfSort, Anything, good_then}
use Rattle.filt_laws.proofs.Refused.{left_nil, right_nil, not_refused, same_is}

-- the set of such elements
abbrev pub set_sort_of : Item → Sort
set_sort_of (items.Range p) = sorts.IntSet
set_sort_of (items.Pair at a b) = sorts.PairSet
set_sort_of (items.Prefix at net l) = sorts.PrefixSet

-- items in which nothing is refused, of elements of one sort
abbrev pub AreOf : Scene → Sort → List Item → Type 0
AreOf scene k [] = ⊤
AreOf scene k (i ∷ more) =
    (seen.item scene i ≡ []) × (sort_of_elements i ≡ k) × AreOf scene k more

pub are_front : (scene : Scene) (k : Sort) (xs ys : List Item) → AreOf scene k (xs ++ ys)
    → AreOf scene k xs
are_front scene k [] ys h = tt
are_front scene k (x ∷ xs) ys h = (h.0, h.1, are_front scene k xs ys h.2)

pub are_back : (scene : Scene) (k : Sort) (xs ys : List Item) → AreOf scene k (xs ++ ys)
    → AreOf scene k ys
are_back scene k [] ys h = h
are_back scene k (x ∷ xs) ys h = are_back scene k xs ys h.2

-- ---- one sort for all

many_stay : (xs : List (Option Sort)) → common Many xs ≡ Many
many_stay [] = refl
many_stay (None ∷ xs) = many_stay xs
many_stay (Some k ∷ xs) = many_stay xs

item_known : (scene : Scene) (i : Item) → names_in_item scene i ≡ []
    → sort_of_item scene i ≡ Some (sort_of_elements i)
item_known scene i e = rw e refl

pub all_are_known : (scene : Scene) (xs : List Item) → all_items scene xs ≡ []
    → all_known (sorts_of_items scene xs) ≡ true
all_are_known scene [] e = refl
all_are_known scene (i ∷ more) e =
    let names : names_in_item scene i ≡ [] =
    left_nil (names_in_item scene i) (seen.limits_of_item scene i)
    (left_nil (seen.item scene i) (all_items scene more) e) in
    rw (item_known scene i names)
    (all_are_known scene more (right_nil (seen.item scene i) (all_items scene more) e))

pub common_is : (scene : Scene) (k : Sort) (xs : List Item) → AreOf scene k xs
    → ((l : Sort) → same_sort l l ≡ true) → common (One k) (sorts_of_items scene xs) ≡ One k
common_is scene k [] h s = refl
common_is scene k (i ∷ more) h s =
    let names : names_in_item scene i ≡ [] =
    left_nil (names_in_item scene i) (seen.limits_of_item scene i) h.0 in
    rw (item_known scene i names, h.1, s k) (common_is scene k more h.2 s)

pub same_self : (l : Sort) → same_sort l l ≡ true
same_self sorts.Int = refl
same_self _ = refl

pub all_are : (scene : Scene) (k : Sort) (xs : List Item) → all_items scene xs ≡ []
    → differ (common (One k) (sorts_of_items scene xs)) ≡ false → AreOf scene k xs
all_are scene k [] e d = tt
all_are scene k (i ∷ more) e d =
    let names : names_in_item scene i ≡ [] =
    left_nil (names_in_item scene i) (seen.limits_of_item scene i)
    (left_nil (seen.item scene i) (all_items scene more) e) in
    let rest : all_items scene more ≡ [] =
    right_nil (seen.item scene i) (all_items scene more) e in
    go (left_nil (seen.item scene i) (all_items scene more) e) (same_sort k (sort_of_elements i)) refl
    (subst
    (λ (o : Option Sort).
    differ (common (with_sort (One k) o) (sorts_of_items scene more)) ≡ false)
    (item_known scene i names) d)
    (all_are scene k more rest)
  where
    go : seen.item scene i ≡ [] → (b : Bool) → same_sort k (sort_of_elements i) ≡ b
        → differ (common (if b then One k else Many) (sorts_of_items scene more)) ≡ false
        → (differ (common (One k) (sorts_of_items scene more)) ≡ false → AreOf scene k more)
        → AreOf scene k (i ∷ more)
    go names true eb d h = (names, sym (same_is k (sort_of_elements i) eb), h d)
    go names false eb d h =
        absurd
        (subst (λ (c : Common). differ c ≡ false → ⊥) (sym (many_stay (sorts_of_items scene more)))
        (λ (e : true ≡ false). cc) d)

-- ---- numbers

-- what runs, over what is seen
abbrev pub ctx : Scene → Around → List (List ℕ × Doing) → List (List ℕ) → Context
ctx scene around functions variables = record {
  text = scene.text;
  around = around;
  constants = scene.constants;
  functions = functions;
  variables = variables;
}

int_good : (o : Option Val) → is_none (number_in o) ≡ false
    → IsGood {A = ℕ} Anything (and_then (there o) int_in)
int_good None e = absurd (cc)
int_good (Some (VInt n)) e = tt
int_good (Some _) e = absurd (cc)

bits_good : (limit n : ℕ) → limit ≤ 128 → nat_lt limit n ≡ false
    → IsGood {A = ℕ} Anything (run.in_8_bits n)
bits_good limit n small e = go (nat_lt n (2 ^ 8)) refl
  where
    go : (b : Bool) → nat_lt n (2 ^ 8) ≡ b
        → IsGood {A = ℕ} Anything (if b then Ok n else Err failures.Stuck)
    go true eb = tt
    go false eb =
        let p : n ≤ limit = ltb-false limit n e in
        let q : 256 ≤ n = ltb-false n 256 eb in
        absurd (omega arith)

named_length : (limit : ℕ) → limit ≤ 128 → (o : Option Val) → is_none (number_in o) ≡ false
    → seen.is_over limit (number_in o) ≡ false
    → IsGood {A = ℕ} Anything (and_then (and_then (there o) int_in) run.in_8_bits)
named_length limit small None e w = absurd (cc)
named_length limit small (Some (VInt n)) e w = bits_good limit n small w
named_length limit small (Some _) e w = absurd (cc)

width_small : (a : Addr) → width_of a ≤ 128
width_small (V4 n) = omega arith
width_small (V6 n) = omega arith

both_false : (a b c : Bool) → (a || b || c) ≡ false → (b ≡ false) × (c ≡ false)
both_false false false false e = (refl, refl)
both_false false false true e = absurd (cc)
both_false false true c e = absurd (cc)
both_false true b c e = absurd (cc)

set_good : (item : IntItem) (v : Val) → sort_of v ≡ sorts.IntSet
    → IsGood (OfSort sorts.IntSet) (run.with_int_item item v)
set_good item (VIntSet more) e = refl
set_good item _ e = absurd (cc)

pair_set_good : (item : PairItem) (v : Val) → sort_of v ≡ sorts.PairSet
    → IsGood (OfSort sorts.PairSet) (run.with_pair_item item v)
pair_set_good item (VPairSet more) e = refl
pair_set_good item _ e = absurd (cc)

prefix_set_good : (item : PrefixItem) (v : Val) → sort_of v ≡ sorts.PrefixSet
    → IsGood (OfSort sorts.PrefixSet) (run.with_prefix_item item v)
prefix_set_good item (VPrefixSet more) e = refl
prefix_set_good item _ e = absurd (cc)

among_ints : (w v : Val) → sort_of w ≡ sorts.IntSet → sort_of v ≡ sorts.Int
    → IsGood {A = Bool} Anything (among w v)
among_ints (VIntSet s) (VInt n) e f = tt
among_ints (VIntSet s) _ e f = absurd (cc)
among_ints _ v e f = absurd (cc)

among_pairs : (w v : Val) → sort_of w ≡ sorts.PairSet → sort_of v ≡ sorts.Pair
    → IsGood {A = Bool} Anything (among w v)
among_pairs (VPairSet s) (VPair p) e f = tt
among_pairs (VPairSet s) _ e f = absurd (cc)
among_pairs _ v e f = absurd (cc)

among_nets : (w v : Val) → sort_of w ≡ sorts.PrefixSet → sort_of v ≡ sorts.Prefix
    → IsGood {A = Bool} Anything (among w v)
among_nets (VPrefixSet s) (VPrefix net) e f = tt
among_nets (VPrefixSet s) _ e f = absurd (cc)
among_nets _ v e f = absurd (cc)

pub element_set : (i : Item) → set_of_sort (sort_of_elements i) ≡ Some (set_sort_of i)
element_set (items.Range p) = refl
element_set (items.Pair at a b) = refl
element_set (items.Prefix at net l) = refl

same_set : (i j : Item) → sort_of_elements i ≡ sort_of_elements j → set_sort_of j ≡ set_sort_of i
same_set (items.Range p) (items.Range q) e = refl
same_set (items.Range p) (items.Pair at a b) e = absurd (cc)
same_set (items.Range p) (items.Prefix at net l) e = absurd (cc)
same_set (items.Pair at a b) (items.Range q) e = absurd (cc)
same_set (items.Pair at a b) (items.Pair bt x y) e = refl
same_set (items.Pair at a b) (items.Prefix bt net l) e = absurd (cc)
same_set (items.Prefix at net l) (items.Range q) e = absurd (cc)
same_set (items.Prefix at net l) (items.Pair bt a b) e = absurd (cc)
same_set (items.Prefix at net l) (items.Prefix bt other m) e = refl

module _ (scene : Scene) (around : Around) (functions : List (List ℕ × Doing))
    (variables : List (List ℕ)) where
  abbrev c : Context
  c = ctx scene around functions variables

  number_good : (n : Num) → seen.number scene n ≡ []
      → IsGood {A = ℕ} Anything (run.number c n)
  number_good (nums.Number at n) e = tt
  number_good (nums.Name name) e =
      int_good (constant_of scene name)
      (not_refused (is_none (number_in (constant_of scene name))) name.at causes.UnknownName e)

  last_good : (lo : ℕ) (n : Option Num) → seen.last_number scene n ≡ []
      → IsGood {A = ℕ} Anything (run.last_number c lo n)
  last_good lo None e = tt
  last_good lo (Some n) e = number_good n e

  range_good : (p : NumRange) → seen.numbers scene p ≡ []
      → IsGood {A = IntItem} Anything (run.int_item c p)
  range_good p e =
      good_then Anything Anything (run.number c p.low) _
      (number_good p.low (left_nil (seen.number scene p.low) (seen.last_number scene p.high) e))
      (λ lo _. good_then Anything Anything (run.last_number c lo p.high) _
      (last_good lo p.high (right_nil (seen.number scene p.low) (seen.last_number scene p.high) e))
      (λ hi _. tt))

  part_good : (p : PairPart) → seen.names_in_part scene p ≡ []
      → IsGood {A = IntItem} Anything (run.pair_part c p)
  part_good parts.Any e = tt
  part_good (parts.Range p) e = range_good p e

  pair_good : (a b : PairPart) → seen.names_in_part scene a ++ seen.names_in_part scene b ≡ []
      → IsGood {A = PairItem} Anything (run.pair_item c a b)
  pair_good a b e =
      good_then Anything Anything (run.pair_part c a) _
      (part_good a (left_nil (seen.names_in_part scene a) (seen.names_in_part scene b) e))
      (λ x _. good_then Anything Anything (run.pair_part c b) _
      (part_good b (right_nil (seen.names_in_part scene a) (seen.names_in_part scene b) e))
      (λ y _. tt))

  length_good : (limit : ℕ) → limit ≤ 128 → (n : Num) → seen.number scene n ≡ []
      → seen.is_over limit (seen.value_of scene n) ≡ false
      → IsGood {A = ℕ} Anything (run.prefix_length c n)
  length_good limit small (nums.Number at n) e w = bits_good limit n small w
  length_good limit small (nums.Name name) e w =
      named_length limit small (constant_of scene name)
      (not_refused (is_none (number_in (constant_of scene name))) name.at causes.UnknownName e) w

  prefix_good : (at : ℕ) (net : Net) (l : Option Lengths) → seen.names_in_lengths scene l ≡ []
      → seen.limits_of_lengths scene at net l ≡ []
      → IsGood {A = PrefixItem} Anything (run.prefix_item c net l)
  prefix_good at net None e w = tt
  prefix_good at net (Some lengths.AndLonger) e w = tt
  prefix_good at net (Some lengths.AndShorter) e w = tt
  prefix_good at net (Some (lengths.Between lo hi)) e w =
      let wrong : seen.are_lengths_wrong net (seen.value_of scene lo) (seen.value_of scene hi) ≡ false =
      not_refused (seen.are_lengths_wrong net (seen.value_of scene lo) (seen.value_of scene hi)) at
      causes.Limit w in
      let within : (seen.is_over (width_of net.addr) (seen.value_of scene lo) ≡ false)
      × (seen.is_over (width_of net.addr) (seen.value_of scene hi) ≡ false) =
      both_false (seen.is_backwards (seen.value_of scene lo) (seen.value_of scene hi))
      (seen.is_over (width_of net.addr) (seen.value_of scene lo))
      (seen.is_over (width_of net.addr) (seen.value_of scene hi)) wrong in
      good_then Anything Anything (run.prefix_length c lo) _
      (length_good (width_of net.addr) (width_small net.addr) lo
      (left_nil (seen.number scene lo) (seen.number scene hi) e) within.0)
      (λ x _. good_then Anything Anything (run.prefix_length c hi) _
      (length_good (width_of net.addr) (width_small net.addr) hi
      (right_nil (seen.number scene lo) (seen.number scene hi) e) within.1)
      (λ y _. tt))

  names_known : (i : Item) → seen.item scene i ≡ [] → names_in_item scene i ≡ []
  names_known i e = left_nil (names_in_item scene i) (seen.limits_of_item scene i) e

  limits_kept : (i : Item) → seen.item scene i ≡ [] → seen.limits_of_item scene i ≡ []
  limits_kept i e = right_nil (names_in_item scene i) (seen.limits_of_item scene i) e

  one_good : (i : Item) → seen.item scene i ≡ []
      → IsGood (OfSort (set_sort_of i)) (run.set_of_one c i)
  one_good (items.Range p) e =
      good_then Anything (OfSort sorts.IntSet) (run.int_item c p) _ (range_good p (names_known (items.Range p) e)) (λ x _. refl)
  one_good (items.Pair at a b) e =
      good_then Anything (OfSort sorts.PairSet) (run.pair_item c a b) _ (pair_good a b (names_known (items.Pair at a b) e))
      (λ x _. refl)
  one_good (items.Prefix at net l) e =
      good_then Anything (OfSort sorts.PrefixSet) (run.prefix_item c net l) _
      (prefix_good at net l (names_known (items.Prefix at net l) e) (limits_kept (items.Prefix at net l) e)) (λ x _. refl)

  before_good : (i : Item) (set : Val) → seen.item scene i ≡ [] → sort_of set ≡ set_sort_of i
      → IsGood (OfSort (set_sort_of i)) (run.before_set c i set)
  before_good (items.Range p) set e s =
      good_then Anything (OfSort sorts.IntSet) (run.int_item c p) _ (range_good p (names_known (items.Range p) e))
      (λ x _. set_good x set s)
  before_good (items.Pair at a b) set e s =
      good_then Anything (OfSort sorts.PairSet) (run.pair_item c a b) _ (pair_good a b (names_known (items.Pair at a b) e))
      (λ x _. pair_set_good x set s)
  before_good (items.Prefix at net l) set e s =
      good_then Anything (OfSort sorts.PrefixSet) (run.prefix_item c net l) _
      (prefix_good at net l (names_known (items.Prefix at net l) e) (limits_kept (items.Prefix at net l) e)) (λ x _. prefix_set_good x set s)

  -- ---- sets

  pub set_is_good : (k : Sort) (i : Item) (more : List Item) → AreOf scene k (i ∷ more)
      → IsGood (OfSort (set_sort_of i)) (set_of c (i ∷ more))
  set_is_good k i [] h = one_good i h.0
  set_is_good k i (j ∷ more) h =
      good_then (OfSort (set_sort_of j)) (OfSort (set_sort_of i)) (set_of c (j ∷ more)) _
      (set_is_good k j more h.2)
      (λ set s. before_good i set h.0 (s ∙ same_set i j (h.1 ∙ sym h.2.1)))

  among_good : (i : Item) (w v : Val) → sort_of w ≡ set_sort_of i
      → sort_of v ≡ sort_of_elements i → IsGood {A = Bool} Anything (among w v)
  among_good (items.Range p) w v e f = among_ints w v e f
  among_good (items.Pair at a b) w v e f = among_pairs w v e f
  among_good (items.Prefix at net l) w v e f = among_nets w v e f

  pub label_good : (k : Sort) (labels : List Item) (v : Val) → is_empty labels ≡ false
      → AreOf scene k labels → sort_of v ≡ k → IsGood {A = Bool} Anything (has_label c labels v)
  label_good k [] v full h e = absurd (cc)
  label_good k (i ∷ more) v full h e =
      good_then (OfSort (set_sort_of i)) Anything (set_of c (i ∷ more)) _
      (set_is_good k i more h) (λ set s. among_good i set v s (e ∙ sym h.1))

  -- ---- masks

  atom_good : (a : MaskAtom) → seen.atom scene a ≡ []
      → IsGood {A = Atom} Anything (run.atom_of c a)
  atom_good mask_atoms.One e = tt
  atom_good mask_atoms.Any e = tt
  atom_good (mask_atoms.Range p) e =
      good_then Anything Anything (run.int_item c p) _
      (range_good p (left_nil (seen.numbers scene p) (seen.backwards scene p (seen.place_of p.low)) e))
      (λ x _. tt)

  atoms_good : (more : List MaskItem) → all_atoms scene more ≡ []
      → IsGood {A = List set.MaskItem} Anything (run.mask_items c more)
  atoms_good [] e = tt
  atoms_good (i ∷ more) e =
      good_then Anything Anything (run.mask_item c i) _
      (good_then Anything Anything (run.atom_of c i.atom) _
      (atom_good i.atom (left_nil (seen.atom scene i.atom) (all_atoms scene more) e)) (λ x _. tt))
      (λ x _. good_then Anything Anything (run.mask_items c more) _
      (atoms_good more (right_nil (seen.atom scene i.atom) (all_atoms scene more) e)) (λ y _. tt))

  pub mask_good : (more : List MaskItem) → all_atoms scene more ≡ []
      → IsGood (OfSort sorts.Mask) (mask_of c more)
  mask_good more e =
      good_then Anything (OfSort sorts.Mask) (run.mask_items c more) _ (atoms_good more e)
      (λ x _. refl)

atom_names : (scene : Scene) (a : MaskAtom) → seen.atom scene a ≡ []
    → seen.names_in_atom scene a ≡ []
atom_names scene mask_atoms.One e = refl
atom_names scene mask_atoms.Any e = refl
atom_names scene (mask_atoms.Range p) e =
    left_nil (seen.numbers scene p) (seen.backwards scene p (seen.place_of p.low)) e

pub mask_names : (scene : Scene) (more : List MaskItem) → all_atoms scene more ≡ []
    → names_in_mask scene more ≡ []
mask_names scene [] e = refl
mask_names scene (i ∷ more) e =
    rw (atom_names scene i.atom (left_nil (seen.atom scene i.atom) (all_atoms scene more) e))
    (mask_names scene more (right_nil (seen.atom scene i.atom) (all_atoms scene more) e))

-- the sort of a set in which nothing is refused
pub set_known : (scene : Scene) (i : Item) (more : List Item) → all_items scene (i ∷ more) ≡ []
    → differ (common NoneYet (sorts_of_items scene (i ∷ more))) ≡ false
    → (AreOf scene (sort_of_elements i) (i ∷ more))
    × (and_known (all_known (sorts_of_items scene (i ∷ more)))
    (set_sort (common NoneYet (sorts_of_items scene (i ∷ more)))) ≡ Some (set_sort_of i))
set_known scene i more e d =
    let names : names_in_item scene i ≡ [] =
    left_nil (names_in_item scene i) (seen.limits_of_item scene i)
    (left_nil (seen.item scene i) (all_items scene more) e) in
    let rest : AreOf scene (sort_of_elements i) more =
    all_are scene (sort_of_elements i) more
    (right_nil (seen.item scene i) (all_items scene more) e)
    (subst
    (λ (o : Option Sort).
    differ (common (with_sort NoneYet o) (sorts_of_items scene more)) ≡ false)
    (item_known scene i names) d) in (
      (left_nil (seen.item scene i) (all_items scene more) e, refl, rest),
      rw (
        all_are_known scene (i ∷ more) e,
        item_known scene i names,
        common_is scene (sort_of_elements i) more rest same_self,
      )
          (element_set i),
    )
