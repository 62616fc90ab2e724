-- Sets and masks of written items, one item after another.
use Rattle.std.proofs.Common.{◌≡◌, ℕ, suc, ◌+◌, ◌<◌, ◌≤◌, ◌^◌, Bool, true, false, if◌then◌else◌, nat_lt, List, [], ◌∷◌, ◌++◌, length, drop, get_or, Option, Some, None, Result, Ok, Err, refl, sym, ap, ◌∙◌, arith, drop-cons, append_assoc, append-nil, slice_get}
use Rattle.std.specs.Bool.{⊤}
use Rattle.std.proofs.lemmas.List.{drop_all}
use Rattle.std.proofs.lemmas.Option.{none-some}
use Rattle.std.specs.Option.{unwrap_or}
use Rattle.bits_ip.specs.Prefix.{Net}
use Rattle.filt_sets.specs.declared.mask.MaskItem as set
use Rattle.conf_ast.specs.declared.filters.Item.{Item}
use Rattle.conf_ast.specs.declared.filters.Item.TheVariants as items
use Rattle.conf_ast.specs.declared.filters.Lengths.{Lengths}
use Rattle.conf_ast.specs.declared.filters.Lengths.TheVariants as lengths
use Rattle.conf_ast.specs.declared.filters.MaskItem.{MaskItem}
use Rattle.conf_ast.specs.declared.filters.Num.{Num}
use Rattle.conf_ast.specs.declared.filters.Num.TheVariants as nums
use Rattle.conf_ast.specs.declared.filters.PairPart.{PairPart}
use Rattle.conf_ast.specs.declared.filters.PairPart.TheVariants as parts
use Rattle.conf_ast.specs.declared.filters.NumRange.{NumRange}
use Rattle.filt_meaning.specs.declared.value.Failure.{Failure}
use Rattle.filt_meaning.specs.declared.value.Failure.TheVariants.{Stuck}
use Rattle.filt_meaning.specs.Operators.{and_then, int_in}
use Rattle.filt_meaning.specs.Values.{Val, VInt, VIntSet, VPairSet, VPrefixSet}
use Rattle.filt_meaning.specs.Items.{number, last_number, int_item, pair_part, pair_item, in_8_bits, prefix_length, prefix_item, with_int_item, with_pair_item, with_prefix_item, before_set, set_of, mask_item, mask_items}
use Rattle.filt_meaning.specs.Names.{Context, constant_of, there}
use Rattle.filt_items.specs.Seen.{each, int_of, pair_of, prefix_of}

-- ---- a walk over items

abbrev pub rest_of : {X A : Type 0} → (X → Result A Failure) → List A → List X → Result (List A) Failure
rest_of f done xs = and_then (each f xs) (λ more. Ok (done ++ more))

pub next_item : {A : Type 0} (xs : List A) (i : ℕ) (x : A) → i < length xs → x ≡ get_or xs i x → drop i xs ≡ x ∷ drop (i + 1) xs
next_item xs i x within is = let next : suc i ≡ i + 1 = omega arith in drop-cons xs i x within ∙ ap (λ (y : _). y ∷ drop (suc i) xs) (sym is) ∙ ap (λ (n : ℕ). x ∷ drop n xs) next

all_by : {A : Type 0} (r : Result (List A) Failure) → and_then r (λ more. Ok ([] ++ more)) ≡ r
all_by (Ok xs) = refl
all_by (Err failure) = refl

pub at_start : {X A : Type 0} (f : X → Result A Failure) (xs : List X) → rest_of f [] xs ≡ each f xs
at_start f xs = all_by (each f xs)

pub next_at : {A : Type 0} (xs : List A) (i : ℕ) (d : A) → i < length xs → drop i xs ≡ get_or xs i d ∷ drop (i + 1) xs
next_at xs i d within = let next : suc i ≡ i + 1 = omega arith in drop-cons xs i d within ∙ ap (λ (n : ℕ). get_or xs i d ∷ drop n xs) next

pub at_stuck : {X A : Type 0} (f : X → Result A Failure) (done : List A) (xs : List X) (i : ℕ) (x : X) → drop i xs ≡ x ∷ drop (i + 1) xs → Err Stuck ≡ f x → rest_of f done (drop i xs) ≡ each f xs → Err Stuck ≡ each f xs
at_stuck f done xs i x next stuck h =
    ap (λ (r : Result _ Failure). and_then (and_then r (λ a. and_then (each f (drop (i + 1) xs)) (λ more. Ok (a ∷ more)))) (λ more. Ok (done ++ more))) stuck
    ∙ ap (λ (l : List _). rest_of f done l) (sym next) ∙ h

moved_by : {A : Type 0} (r : Result (List A) Failure) (done : List A) (a : A) → and_then r (λ more. Ok ((done ++ a ∷ []) ++ more)) ≡ and_then (and_then r (λ more. Ok (a ∷ more))) (λ more. Ok (done ++ more))
moved_by (Ok more) done a = ap Ok (append_assoc done (a ∷ []) more)
moved_by (Err failure) done a = refl

pub at_turn : {X A : Type 0} (f : X → Result A Failure) (done after : List A) (xs : List X) (i : ℕ) (x : X) (a : A) → drop i xs ≡ x ∷ drop (i + 1) xs → Ok a ≡ f x → after ≡ done ++ a ∷ [] → rest_of f done (drop i xs) ≡ each f xs → rest_of f after (drop (i + 1) xs) ≡ each f xs
at_turn f done after xs i x a next known pushed h =
    ap (λ (l : List _). rest_of f l (drop (i + 1) xs)) pushed ∙ moved_by (each f (drop (i + 1) xs)) done a
    ∙ ap (λ (r : Result _ Failure). and_then (and_then r (λ a. and_then (each f (drop (i + 1) xs)) (λ more. Ok (a ∷ more)))) (λ more. Ok (done ++ more))) known
    ∙ ap (λ (l : List _). rest_of f done l) (sym next) ∙ h

pub at_end : {X A : Type 0} (f : X → Result A Failure) (done : List A) (xs : List X) (i : ℕ) → length xs ≤ i → rest_of f done (drop i xs) ≡ each f xs → Ok done ≡ each f xs
at_end f done xs i over h = ap Ok (sym (append-nil done)) ∙ ap (λ (l : List _). rest_of f done l) (sym (drop_all i xs over)) ∙ h

-- ---- what isn't known is stuck, and nothing else comes

abbrev IsPlain : {A : Type 0} → Result A Failure → Type 0
IsPlain (Ok a) = ⊤
IsPlain (Err failure) = failure ≡ Stuck

then_plain : {A B : Type 0} (r : Result A Failure) (next : A → Result B Failure) → IsPlain r → ((a : A) → IsPlain (next a)) → IsPlain (and_then r next)
then_plain (Ok a) next p q = q a
then_plain (Err failure) next p q = p

there_plain : {A : Type 0} (o : Option A) → IsPlain (there o)
there_plain None = refl
there_plain (Some a) = tt

int_plain : (v : Val) → IsPlain (int_in v)
int_plain (VInt n) = tt
int_plain _ = refl

number_plain : (c : Context) (n : Num) → IsPlain (number c n)
number_plain c (nums.Number at n) = tt
number_plain c (nums.Name name) = then_plain (there (constant_of c name)) int_in (there_plain (constant_of c name)) int_plain

last_plain : (c : Context) (lo : ℕ) (n : Option Num) → IsPlain (last_number c lo n)
last_plain c lo None = tt
last_plain c lo (Some n) = number_plain c n

int_item_plain : (c : Context) (p : NumRange) → IsPlain (int_item c p)
int_item_plain c p = then_plain (number c p.low) _ (number_plain c p.low) (λ lo. then_plain (last_number c lo p.high) _ (last_plain c lo p.high) (λ hi. tt))

part_plain : (c : Context) (p : PairPart) → IsPlain (pair_part c p)
part_plain c parts.Any = tt
part_plain c (parts.Range p) = int_item_plain c p

pair_plain : (c : Context) (a b : PairPart) → IsPlain (pair_item c a b)
pair_plain c a b = then_plain (pair_part c a) _ (part_plain c a) (λ x. then_plain (pair_part c b) _ (part_plain c b) (λ y. tt))

bits_by : (b : Bool) (n : ℕ) → IsPlain (if b then Ok n else Err Stuck)
bits_by true n = tt
bits_by false n = refl

length_plain : (c : Context) (n : Num) → IsPlain (prefix_length c n)
length_plain c n = then_plain (number c n) in_8_bits (number_plain c n) (λ l. bits_by (nat_lt l (2 ^ 8)) l)

prefix_plain : (c : Context) (net : Net) (l : Option Lengths) → IsPlain (prefix_item c net l)
prefix_plain c net None = tt
prefix_plain c net (Some lengths.AndLonger) = tt
prefix_plain c net (Some lengths.AndShorter) = tt
prefix_plain c net (Some (lengths.Between lo hi)) = then_plain (prefix_length c lo) _ (length_plain c lo) (λ x. then_plain (prefix_length c hi) _ (length_plain c hi) (λ y. tt))

int_of_plain : (c : Context) (i : Item) → IsPlain (int_of c i)
int_of_plain c (items.Range p) = int_item_plain c p
int_of_plain c (items.Pair at a b) = refl
int_of_plain c (items.Prefix at net l) = refl

pair_of_plain : (c : Context) (i : Item) → IsPlain (pair_of c i)
pair_of_plain c (items.Range p) = refl
pair_of_plain c (items.Pair at a b) = pair_plain c a b
pair_of_plain c (items.Prefix at net l) = refl

prefix_of_plain : (c : Context) (i : Item) → IsPlain (prefix_of c i)
prefix_of_plain c (items.Range p) = refl
prefix_of_plain c (items.Pair at a b) = refl
prefix_of_plain c (items.Prefix at net l) = prefix_plain c net l

each_plain : {X A : Type 0} (f : X → Result A Failure) → ((x : X) → IsPlain (f x)) → (xs : List X) → IsPlain (each f xs)
each_plain f p [] = tt
each_plain f p (x ∷ xs) = then_plain (f x) _ (p x) (λ a. then_plain (each f xs) _ (each_plain f p xs) (λ more. tt))

-- ---- sets

abbrev pub ints_of : Context → List Item → Result Val Failure
ints_of c l = and_then (each (int_of c) l) (λ more. Ok (VIntSet more))

abbrev pub pairs_of : Context → List Item → Result Val Failure
pairs_of c l = and_then (each (pair_of c) l) (λ more. Ok (VPairSet more))

abbrev pub prefixes_of : Context → List Item → Result Val Failure
prefixes_of c l = and_then (each (prefix_of c) l) (λ more. Ok (VPrefixSet more))

-- by the sort of the first item
abbrev by_first : Context → Item → List Item → Result Val Failure
by_first c (items.Range p) l = ints_of c l
by_first c (items.Pair at a b) l = pairs_of c l
by_first c (items.Prefix at net l) more = prefixes_of c more

one_by : {A : Type 0} (w : List A → Val) (r : Result A Failure) → and_then r (λ a. Ok (w (a ∷ []))) ≡ and_then (and_then r (λ a. Ok (a ∷ []))) (λ more. Ok (w more))
one_by w (Ok a) = refl
one_by w (Err failure) = refl

-- an item of the sort of the others
same_by : {A : Type 0} (w : List A → Val) (with : A → Val → Result Val Failure) → ((a : A) (more : List A) → with a (w more) ≡ Ok (w (a ∷ more))) → (r : Result A Failure) (rs : Result (List A) Failure) → IsPlain r → IsPlain rs
    → and_then (and_then rs (λ more. Ok (w more))) (λ set. and_then r (λ a. with a set)) ≡ and_then (and_then r (λ a. and_then rs (λ more. Ok (a ∷ more)))) (λ more. Ok (w more))
same_by w with h (Ok a) (Ok more) p q = h a more
same_by w with h (Ok a) (Err failure) p q = refl
same_by w with h (Err failure) (Ok more) p q = refl
same_by w with h (Err failure) (Err other) p q = ap Err (q ∙ sym p)

-- an item of another sort than the others
other_by : {A B : Type 0} (w : List A → Val) (v : List B → Val) (with : A → Val → Result Val Failure) → ((a : A) (more : List B) → with a (v more) ≡ Err Stuck) → (r : Result A Failure) (rs : Result (List B) Failure) → IsPlain r → IsPlain rs
    → and_then (and_then rs (λ more. Ok (v more))) (λ set. and_then r (λ a. with a set)) ≡ and_then (and_then r (λ a. Err Stuck)) (λ more. Ok (w more))
other_by w v with h (Ok a) (Ok more) p q = h a more
other_by w v with h (Ok a) (Err failure) p q = ap Err q
other_by w v with h (Err failure) (Ok more) p q = refl
other_by w v with h (Err failure) (Err other) p q = ap Err (q ∙ sym p)

before_by : (c : Context) (i j : Item) (more : List Item) → and_then (by_first c j (j ∷ more)) (λ set. before_set c i set) ≡ by_first c i (i ∷ j ∷ more)
before_by c (items.Range p) (items.Range q) more = same_by VIntSet with_int_item (λ a xs. refl) (int_item c p) (each (int_of c) (items.Range q ∷ more)) (int_item_plain c p) (each_plain (int_of c) (int_of_plain c) (items.Range q ∷ more))
before_by c (items.Range p) (items.Pair at a b) more = other_by VIntSet VPairSet with_int_item (λ a xs. refl) (int_item c p) (each (pair_of c) (items.Pair at a b ∷ more)) (int_item_plain c p) (each_plain (pair_of c) (pair_of_plain c) (items.Pair at a b ∷ more))
before_by c (items.Range p) (items.Prefix at net l) more = other_by VIntSet VPrefixSet with_int_item (λ a xs. refl) (int_item c p) (each (prefix_of c) (items.Prefix at net l ∷ more)) (int_item_plain c p) (each_plain (prefix_of c) (prefix_of_plain c) (items.Prefix at net l ∷ more))
before_by c (items.Pair at a b) (items.Range q) more = other_by VPairSet VIntSet with_pair_item (λ a xs. refl) (pair_item c a b) (each (int_of c) (items.Range q ∷ more)) (pair_plain c a b) (each_plain (int_of c) (int_of_plain c) (items.Range q ∷ more))
before_by c (items.Pair at a b) (items.Pair place x y) more = same_by VPairSet with_pair_item (λ a xs. refl) (pair_item c a b) (each (pair_of c) (items.Pair place x y ∷ more)) (pair_plain c a b) (each_plain (pair_of c) (pair_of_plain c) (items.Pair place x y ∷ more))
before_by c (items.Pair at a b) (items.Prefix place net l) more = other_by VPairSet VPrefixSet with_pair_item (λ a xs. refl) (pair_item c a b) (each (prefix_of c) (items.Prefix place net l ∷ more)) (pair_plain c a b) (each_plain (prefix_of c) (prefix_of_plain c) (items.Prefix place net l ∷ more))
before_by c (items.Prefix at net l) (items.Range q) more = other_by VPrefixSet VIntSet with_prefix_item (λ a xs. refl) (prefix_item c net l) (each (int_of c) (items.Range q ∷ more)) (prefix_plain c net l) (each_plain (int_of c) (int_of_plain c) (items.Range q ∷ more))
before_by c (items.Prefix at net l) (items.Pair place x y) more = other_by VPrefixSet VPairSet with_prefix_item (λ a xs. refl) (prefix_item c net l) (each (pair_of c) (items.Pair place x y ∷ more)) (prefix_plain c net l) (each_plain (pair_of c) (pair_of_plain c) (items.Pair place x y ∷ more))
before_by c (items.Prefix at net l) (items.Prefix place other m) more = same_by VPrefixSet with_prefix_item (λ a xs. refl) (prefix_item c net l) (each (prefix_of c) (items.Prefix place other m ∷ more)) (prefix_plain c net l) (each_plain (prefix_of c) (prefix_of_plain c) (items.Prefix place other m ∷ more))

set_is : (c : Context) (i : Item) (more : List Item) → set_of c (i ∷ more) ≡ by_first c i (i ∷ more)
set_is c (items.Range p) [] = one_by VIntSet (int_item c p)
set_is c (items.Pair at a b) [] = one_by VPairSet (pair_item c a b)
set_is c (items.Prefix at net l) [] = one_by VPrefixSet (prefix_item c net l)
set_is c i (j ∷ more) = ap (λ (r : Result Val Failure). and_then r (λ set. before_set c i set)) (set_is c j more) ∙ before_by c i j more

some_injective : {A : Type 0} {a b : A} → Some a ≡ Some b → a ≡ b
some_injective {a = a} e = ap (λ (o : Option _). unwrap_or o a) e

opened : (l : List Item) (x y : Item) → Some x ≡ slice_get l 0 → x ≡ y → (more : List Item) × (l ≡ y ∷ more)
opened [] x y at is = absurd (none-some x (sym at))
opened (z ∷ more) x y at is = (more, ap (λ (i : Item). i ∷ more) (sym (some_injective at) ∙ is))

set_by : (c : Context) (l : List Item) (x y : Item) → Some x ≡ slice_get l 0 → x ≡ y → by_first c y l ≡ set_of c l
set_by c l x y at is = let whole = opened l x y at is in rw whole.1 (sym (set_is c y whole.0))

-- the items are of the first one's sort
pub ints_are : (c : Context) (l : List Item) (x : Item) (p : NumRange) → Some x ≡ slice_get l 0 → x ≡ items.Range p → ints_of c l ≡ set_of c l
ints_are c l x p at is = set_by c l x (items.Range p) at is

pub pairs_are : (c : Context) (l : List Item) (x : Item) (place : ℕ) (a b : PairPart) → Some x ≡ slice_get l 0 → x ≡ items.Pair place a b → pairs_of c l ≡ set_of c l
pairs_are c l x place a b at is = set_by c l x (items.Pair place a b) at is

pub prefixes_are : (c : Context) (l : List Item) (x : Item) (place : ℕ) (net : Net) (n : Option Lengths) → Some x ≡ slice_get l 0 → x ≡ items.Prefix place net n → prefixes_of c l ≡ set_of c l
prefixes_are c l x place net n at is = set_by c l x (items.Prefix place net n) at is

-- ---- masks

pub masks_are : (c : Context) (l : List MaskItem) → each (mask_item c) l ≡ mask_items c l
masks_are c [] = refl
masks_are c (x ∷ xs) = ap (λ (r : Result (List set.MaskItem) Failure). and_then (mask_item c x) (λ a. and_then r (λ more. Ok (a ∷ more)))) (masks_are c xs)
