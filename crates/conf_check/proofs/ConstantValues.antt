-- The value of a constant rests on the source and the constants alone.
use Rattle.std.proofs.Common.{◌≡◌, ℕ, List, [], ◌∷◌, Option, Some, None, Result, Ok, Err, refl, sym, ap, ◌∙◌}
use Rattle.std.specs.Result.{result_ok}
use Rattle.std.proofs.lemmas.Option.{none-some, same_Some}
use Rattle.bits_ip.specs.Prefix.{Net}
use Rattle.filt_sets.specs.declared.ints.IntItem.{IntItem}
use Rattle.filt_sets.specs.declared.mask.Atom.{Atom}
use Rattle.filt_sets.specs.declared.mask.Atom.TheVariants as atoms
use Rattle.filt_sets.specs.declared.mask.MaskItem as set
use Rattle.filt_sets.specs.declared.pairs.PairItem.{PairItem}
use Rattle.filt_sets.specs.declared.prefixes.PrefixItem.{PrefixItem}
use Rattle.conf_ast.specs.declared.filters.Item.{Item}
use Rattle.conf_ast.specs.declared.filters.Item.TheVariants as items
use Rattle.conf_ast.specs.declared.filters.Lengths.{Lengths}
use Rattle.conf_ast.specs.declared.filters.Lengths.TheVariants as lengths
use Rattle.conf_ast.specs.declared.filters.MaskAtom.{MaskAtom}
use Rattle.conf_ast.specs.declared.filters.MaskAtom.TheVariants as mask_atoms
use Rattle.conf_ast.specs.declared.filters.MaskItem.{MaskItem}
use Rattle.conf_ast.specs.declared.filters.Num.{Num}
use Rattle.conf_ast.specs.declared.filters.Num.TheVariants as nums
use Rattle.conf_ast.specs.declared.filters.PairPart.{PairPart}
use Rattle.conf_ast.specs.declared.filters.PairPart.TheVariants as parts
use Rattle.conf_ast.specs.declared.filters.NumRange.{NumRange}
use Rattle.conf_ast.specs.Configurations as conf
use Rattle.filt_meaning.specs.declared.value.Failure.{Failure}
use Rattle.filt_meaning.specs.Operators.{and_then, pair_of}
use Rattle.filt_meaning.specs.Values.{Val, VInt, VMask, VIntSet, VPairSet, VPrefixSet}
use Rattle.filt_meaning.specs.Configuration.{constant}
use Rattle.filt_meaning.specs.Items as i
use Rattle.filt_meaning.specs.Names.{Around, Context, Doing}

abbrev pub seen : List ℕ → Around → List (List ℕ × Val) → List (List ℕ × Doing) → Context
seen text around ks ds = record { text = text; around = around; constants = ks; functions = ds; variables = [] }

and_same : {A B : Type 0} (r s : Result A Failure) (f g : A → Result B Failure) → r ≡ s → ((a : A) → f a ≡ g a) → and_then r f ≡ and_then s g
and_same r s f g is same = ap (λ (x : Result _ Failure). and_then x f) is ∙ go s
  where
    go : (s : Result _ Failure) → and_then s f ≡ and_then s g
    go (Ok a) = same a
    go (Err failure) = refl

module _ (text : List ℕ) (ks : List (List ℕ × Val)) (a b : Around) (fs gs : List (List ℕ × Doing)) where
  abbrev one : Context
  one = seen text a ks fs

  abbrev two : Context
  two = seen text b ks gs

  number_same : (n : Num) → i.number one n ≡ i.number two n
  number_same (nums.Number at n) = refl
  number_same (nums.Name name) = refl

  last_same : (lo : ℕ) (n : Option Num) → i.last_number one lo n ≡ i.last_number two lo n
  last_same lo None = refl
  last_same lo (Some n) = number_same n

  int_same : (p : NumRange) → i.int_item one p ≡ i.int_item two p
  int_same p = and_same (i.number one p.low) (i.number two p.low) (λ lo. and_then (i.last_number one lo p.high) (λ hi. Ok (record { lo = lo; hi = hi }))) (λ lo. and_then (i.last_number two lo p.high) (λ hi. Ok (record { lo = lo; hi = hi }))) (number_same p.low)
      (λ lo. ap (λ (r : Result ℕ Failure). and_then r (λ hi. Ok (record { lo = lo; hi = hi }))) (last_same lo p.high))

  part_same : (p : PairPart) → i.pair_part one p ≡ i.pair_part two p
  part_same parts.Any = refl
  part_same (parts.Range p) = int_same p

  pair_same : (p q : PairPart) → i.pair_item one p q ≡ i.pair_item two p q
  pair_same p q = and_same (i.pair_part one p) (i.pair_part two p) (λ x. and_then (i.pair_part one q) (λ y. Ok (record { a = x; b = y }))) (λ x. and_then (i.pair_part two q) (λ y. Ok (record { a = x; b = y }))) (part_same p)
      (λ x. ap (λ (r : Result IntItem Failure). and_then r (λ y. Ok (record { a = x; b = y }))) (part_same q))

  length_same : (n : Num) → i.prefix_length one n ≡ i.prefix_length two n
  length_same n = ap (λ (r : Result ℕ Failure). and_then r i.in_8_bits) (number_same n)

  prefix_same : (net : Net) (l : Option Lengths) → i.prefix_item one net l ≡ i.prefix_item two net l
  prefix_same net None = refl
  prefix_same net (Some lengths.AndLonger) = refl
  prefix_same net (Some lengths.AndShorter) = refl
  prefix_same net (Some (lengths.Between low high)) = and_same (i.prefix_length one low) (i.prefix_length two low) (λ lo. and_then (i.prefix_length one high) (λ hi. Ok (record { net = net; lo = lo; hi = hi }))) (λ lo. and_then (i.prefix_length two high) (λ hi. Ok (record { net = net; lo = lo; hi = hi }))) (length_same low)
      (λ lo. ap (λ (r : Result ℕ Failure). and_then r (λ hi. Ok (record { net = net; lo = lo; hi = hi }))) (length_same high))

  one_same : (x : Item) → i.set_of_one one x ≡ i.set_of_one two x
  one_same (items.Range p) = ap (λ (r : Result IntItem Failure). and_then r (λ item. Ok (VIntSet (item ∷ [])))) (int_same p)
  one_same (items.Pair at p q) = ap (λ (r : Result PairItem Failure). and_then r (λ item. Ok (VPairSet (item ∷ [])))) (pair_same p q)
  one_same (items.Prefix at net l) = ap (λ (r : Result PrefixItem Failure). and_then r (λ item. Ok (VPrefixSet (item ∷ [])))) (prefix_same net l)

  before_same : (x : Item) (v : Val) → i.before_set one x v ≡ i.before_set two x v
  before_same (items.Range p) v = ap (λ (r : Result IntItem Failure). and_then r (λ item. i.with_int_item item v)) (int_same p)
  before_same (items.Pair at p q) v = ap (λ (r : Result PairItem Failure). and_then r (λ item. i.with_pair_item item v)) (pair_same p q)
  before_same (items.Prefix at net l) v = ap (λ (r : Result PrefixItem Failure). and_then r (λ item. i.with_prefix_item item v)) (prefix_same net l)

  set_same : (xs : List Item) → i.set_of one xs ≡ i.set_of two xs
  set_same [] = refl
  set_same (x ∷ []) = one_same x
  set_same (x ∷ y ∷ xs) = and_same (i.set_of one (y ∷ xs)) (i.set_of two (y ∷ xs)) (λ s. i.before_set one x s) (λ s. i.before_set two x s) (set_same (y ∷ xs)) (λ s. before_same x s)

  atom_same : (x : MaskAtom) → i.atom_of one x ≡ i.atom_of two x
  atom_same mask_atoms.One = refl
  atom_same mask_atoms.Any = refl
  atom_same (mask_atoms.Range p) = ap (λ (r : Result IntItem Failure). and_then r (λ item. Ok (atoms.Range item.lo item.hi))) (int_same p)

  mask_item_same : (x : MaskItem) → i.mask_item one x ≡ i.mask_item two x
  mask_item_same x = ap (λ (r : Result Atom Failure). and_then r (λ atom. Ok (record { atom = atom; many = x.many }))) (atom_same x.atom)

  mask_items_same : (xs : List MaskItem) → i.mask_items one xs ≡ i.mask_items two xs
  mask_items_same [] = refl
  mask_items_same (x ∷ xs) = and_same (i.mask_item one x) (i.mask_item two x) (λ first. and_then (i.mask_items one xs) (λ rest. Ok (first ∷ rest))) (λ first. and_then (i.mask_items two xs) (λ rest. Ok (first ∷ rest))) (mask_item_same x)
      (λ first. ap (λ (r : Result (List set.MaskItem) Failure). and_then r (λ rest. Ok (first ∷ rest))) (mask_items_same xs))

  pub constant_same : (v : conf.Value) → constant one v ≡ constant two v
  constant_same (conf.NumberValue at n) = refl
  constant_same (conf.TextValue q) = refl
  constant_same (conf.AddressValue x) = refl
  constant_same (conf.PrefixValue at net) = refl
  constant_same (conf.TrueValue at) = refl
  constant_same (conf.FalseValue at) = refl
  constant_same (conf.ValueOf name) = refl
  constant_same (conf.PairValue at x y) = and_same (i.number one x) (i.number two x) (λ n. and_then (i.number one y) (λ m. pair_of (VInt n) (VInt m))) (λ n. and_then (i.number two y) (λ m. pair_of (VInt n) (VInt m))) (number_same x)
      (λ n. ap (λ (r : Result ℕ Failure). and_then r (λ m. pair_of (VInt n) (VInt m))) (number_same y))
  constant_same (conf.SetValue at xs) = set_same xs
  constant_same (conf.MaskValue at xs) = ap (λ (r : Result (List set.MaskItem) Failure). and_then r (λ mask. Ok (VMask mask))) (mask_items_same xs)

-- ---- what is given

pub given_some : {A : Type 0} (r : Result A Failure) (a : A) → Some a ≡ result_ok r → r ≡ Ok a
given_some (Ok b) a is = ap Ok (sym (same_Some a b is))
given_some (Err failure) a is = absurd (none-some a (sym is))

pub given_none : {A : Type 0} (r : Result A Failure) → None ≡ result_ok r → (failure : Failure) × (r ≡ Err failure)
given_none (Ok b) is = absurd (none-some b is)
given_none (Err failure) is = (failure, refl)
