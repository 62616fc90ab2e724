-- Operators, attributes, items and defaults keep the limits of lists.
use Rattle.std.proofs.Common.{ℕ, ◌≤◌, ◌^◌, ◌==◌, ◌&&◌, Bool, List, [], ◌∷◌, length, filter, Option, Some, None, Result, Ok, Err, nat_lt, IfOk, ⊎_elim, arith}
use Rattle.std.proofs.lemmas.Bool.{cases_Bool, ltb-true}
use Rattle.std.proofs.lemmas.List.{length-append, length-map}
use Rattle.std.proofs.lemmas.List.Elements.{All-map}
use Rattle.std.proofs.lemmas.List.Sums.{length-filter, count_by-le-length}
use Rattle.attrs.specs.Clist.{has_pair}
use Rattle.attrs.specs.declared.attributes.Attrs.{Attrs}
use Rattle.bits_ip.specs.Prefix.{Net}
use Rattle.filt_sets.specs.declared.ints.IntItem.{IntItem}
use Rattle.filt_sets.specs.declared.pairs.PairItem.{PairItem}
use Rattle.filt_sets.specs.declared.prefixes.PrefixItem.{PrefixItem}
use Rattle.conf_ast.specs.declared.attribute.Attribute.{Attribute}
use Rattle.conf_ast.specs.declared.attribute.Attribute.TheVariants as attributes
use Rattle.conf_ast.specs.declared.filters.CompareOp.{CompareOp}
use Rattle.conf_ast.specs.declared.filters.CompareOp.TheVariants as compare_ops
use Rattle.conf_ast.specs.declared.attribute.Constant.{Constant}
use Rattle.conf_ast.specs.declared.attribute.Constant.TheVariants as constants
use Rattle.conf_ast.specs.declared.filters.MulOp.{MulOp}
use Rattle.conf_ast.specs.declared.filters.MulOp.TheVariants as mul_ops
use Rattle.conf_ast.specs.declared.filters.Item.{Item}
use Rattle.conf_ast.specs.declared.filters.Item.TheVariants as items
use Rattle.conf_ast.specs.declared.filters.MaskItem.{MaskItem}
use Rattle.conf_ast.specs.declared.filters.MethodKind.{MethodKind}
use Rattle.conf_ast.specs.declared.filters.MethodKind.TheVariants as methods
use Rattle.conf_ast.specs.declared.filters.Property.{Property}
use Rattle.conf_ast.specs.declared.filters.Property.TheVariants as properties
use Rattle.conf_ast.specs.declared.filters.AddOp.{AddOp}
use Rattle.conf_ast.specs.declared.filters.AddOp.TheVariants as add_ops
use Rattle.filt_meaning.specs.declared.value.Failure.{Failure}
use Rattle.filt_meaning.specs.declared.value.Sort.{Sort}
use Rattle.filt_meaning.specs.declared.value.Sort.TheVariants as sorts
use Rattle.filt_meaning.specs.Operators.{and_then, int_in, bool_in, ip_in, prefix_in, pair_in, string_in, path_in, clist_in, int_set_in, pair_set_in, source_in, dest_in, origin_in, plus_of, minus_of, times_of, quotient_of, over_of, truth_of, not_of, joined, pair_of, equal_of, not_equal_of, order_of, less_of, less_or_equal_of, greater_of, greater_or_equal_of, has_int, has_one_pair, has_net, takes_path, matches_of, matches_not_of, len_of, longer, prepended_of, with_pair, with_pairs, added_to, added_of, numbers_without, numbers_within, pairs_without, pairs_within, deleted_of, filtered_of, emptied_of}
use Rattle.filt_meaning.specs.Values.{Val, VInt, VBool, VIp, VPrefix, VPair, VString, VPath, VMask, VClist, VIntSet, VPairSet, VPrefixSet, VSource, VDest, VOrigin, default_of}
use Rattle.filt_meaning.specs.Attributes.{defined_as, attribute_of, with_attribute, without_attribute, value_of_constant}
use Rattle.filt_meaning.specs.Flow.{Frame}
use Rattle.filt_meaning.specs.Items.{int_item, pair_item, prefix_item, with_int_item, with_pair_item, with_prefix_item, set_of_one, before_set, set_of, mask_items, mask_of}
use Rattle.filt_meaning.specs.Meaning.{term_of, factor_of, compare_of, property_of, method_of, elements}
use Rattle.filt_meaning.specs.Names.{Around, Context}
use Rattle.filt_steps.specs.Limits.{IsWithin, AreWithin, AttrsAreWithin}

-- a result that keeps limits
abbrev pub Gives : Result Val Failure → Type 0
Gives r = IfOk r IsWithin

pub any_then : {A B : Type 0} (P : B → Type 0) (r : Result A Failure) (f : A → Result B Failure)
    → ((a : A) → IfOk (f a) P) → IfOk (and_then r f) P
any_then P (Ok a) f h = h a
any_then P (Err failure) f h = tt

good_then : {A B : Type 0} (Q : A → Type 0) (P : B → Type 0) (r : Result A Failure)
    (f : A → Result B Failure) → IfOk r Q → ((a : A) → Q a → IfOk (f a) P) → IfOk (and_then r f) P
good_then Q P (Ok a) f q h = h a q
good_then Q P (Err failure) f q h = tt

-- what two operands give, where what they are is never a list
two : {A B : Type 0} (r : Result A Failure) (s : Result B Failure) (f : A → B → Result Val Failure)
    → ((a : A) (b : B) → Gives (f a b)) → Gives (and_then r (λ a. and_then s (λ b. f a b)))
two r s f h = any_then IsWithin r _ (λ a. any_then IsWithin s _ (λ b. h a b))

-- ---- operators

plus_kept : (v w : Val) → Gives (plus_of v w)
plus_kept v w = two (int_in v) (int_in w) _ (λ a b. tt)

minus_kept : (v w : Val) → Gives (minus_of v w)
minus_kept v w = two (int_in v) (int_in w) _ (λ a b. tt)

times_kept : (v w : Val) → Gives (times_of v w)
times_kept v w = two (int_in v) (int_in w) _ (λ a b. tt)

quotient_kept : (a b : ℕ) → Gives (quotient_of a b)
quotient_kept a b = ⊎_elim (λ t. rw t tt) (λ f. rw f tt) (cases_Bool (b == 0))

over_kept : (v w : Val) → Gives (over_of v w)
over_kept v w = two (int_in v) (int_in w) _ quotient_kept

pub truth_kept : (v : Val) → Gives (truth_of v)
truth_kept v = any_then IsWithin (bool_in v) _ (λ b. tt)

pub not_kept : (v : Val) → Gives (not_of v)
not_kept v = any_then IsWithin (bool_in v) _ (λ b. tt)

joined_kept : (a b : ℕ) → Gives (joined a b)
joined_kept a b =
    ⊎_elim (λ t. rw t tt) (λ f. rw f tt) (cases_Bool (nat_lt a (2 ^ 16) && nat_lt b (2 ^ 16)))

pub pair_kept : (v w : Val) → Gives (pair_of v w)
pair_kept v w = two (int_in v) (int_in w) _ joined_kept

equal_kept : (v w : Val) → Gives (equal_of v w)
equal_kept (VInt a) w = any_then IsWithin (int_in w) _ (λ b. tt)
equal_kept (VBool a) w = any_then IsWithin (bool_in w) _ (λ b. tt)
equal_kept (VIp a) w = any_then IsWithin (ip_in w) _ (λ b. tt)
equal_kept (VPrefix a) w = any_then IsWithin (prefix_in w) _ (λ b. tt)
equal_kept (VPair a) w = any_then IsWithin (pair_in w) _ (λ b. tt)
equal_kept (VString a) w = any_then IsWithin (string_in w) _ (λ b. tt)
equal_kept (VPath a) w = any_then IsWithin (path_in w) _ (λ b. tt)
equal_kept (VClist a) w = any_then IsWithin (clist_in w) _ (λ b. tt)
equal_kept (VSource a) w = any_then IsWithin (source_in w) _ (λ b. tt)
equal_kept (VDest a) w = any_then IsWithin (dest_in w) _ (λ b. tt)
equal_kept (VOrigin a) w = any_then IsWithin (origin_in w) _ (λ b. tt)
equal_kept _ w = tt

not_equal_kept : (v w : Val) → Gives (not_equal_of v w)
not_equal_kept v w = any_then IsWithin (equal_of v w) _ not_kept

less_kept : (v w : Val) → Gives (less_of v w)
less_kept v w = any_then IsWithin (order_of v w) _ (λ o. tt)

less_or_equal_kept : (v w : Val) → Gives (less_or_equal_of v w)
less_or_equal_kept v w = any_then IsWithin (order_of v w) _ (λ o. tt)

greater_kept : (v w : Val) → Gives (greater_of v w)
greater_kept v w = any_then IsWithin (order_of v w) _ (λ o. tt)

greater_or_equal_kept : (v w : Val) → Gives (greater_or_equal_of v w)
greater_or_equal_kept v w = any_then IsWithin (order_of v w) _ (λ o. tt)

has_int_kept : (w : Val) (n : ℕ) → Gives (has_int w n)
has_int_kept (VIntSet s) n = tt
has_int_kept (VPath p) n = tt
has_int_kept _ n = tt

has_one_pair_kept : (w : Val) (p : ℕ × ℕ) → Gives (has_one_pair w p)
has_one_pair_kept (VPairSet s) p = tt
has_one_pair_kept (VClist l) p = tt
has_one_pair_kept _ p = tt

has_net_kept : (w : Val) (net : Net) → Gives (has_net w net)
has_net_kept (VPrefixSet s) net = tt
has_net_kept (VPrefix other) net = tt
has_net_kept _ net = tt

takes_path_kept : (w : Val) (p : List ℕ) → Gives (takes_path w p)
takes_path_kept (VIntSet s) p = tt
takes_path_kept (VMask m) p = tt
takes_path_kept _ p = tt

matches_kept : (v w : Val) → Gives (matches_of v w)
matches_kept (VInt n) w = has_int_kept w n
matches_kept (VPair p) w = has_one_pair_kept w p
matches_kept (VPrefix net) w = has_net_kept w net
matches_kept (VIp a) w = any_then IsWithin (prefix_in w) _ (λ net. tt)
matches_kept (VPath p) w = takes_path_kept w p
matches_kept (VClist l) w = any_then IsWithin (pair_set_in w) _ (λ s. tt)
matches_kept _ w = tt

matches_not_kept : (v w : Val) → Gives (matches_not_of v w)
matches_not_kept v w = any_then IsWithin (matches_of v w) _ not_kept

pub term_kept : (op : AddOp) (v w : Val) → Gives (term_of op v w)
term_kept add_ops.Plus = plus_kept
term_kept add_ops.Minus = minus_kept

pub factor_kept : (op : MulOp) (v w : Val) → Gives (factor_of op v w)
factor_kept mul_ops.Times = times_kept
factor_kept mul_ops.Over = over_kept

pub compare_kept : (op : CompareOp) (v w : Val) → Gives (compare_of op v w)
compare_kept compare_ops.Equal = equal_kept
compare_kept compare_ops.NotEqual = not_equal_kept
compare_kept compare_ops.Less = less_kept
compare_kept compare_ops.LessOrEqual = less_or_equal_kept
compare_kept compare_ops.Greater = greater_kept
compare_kept compare_ops.GreaterOrEqual = greater_or_equal_kept
compare_kept compare_ops.Matches = matches_kept
compare_kept compare_ops.MatchesNot = matches_not_kept

len_kept : (v : Val) → Gives (len_of v)
len_kept (VPrefix net) = tt
len_kept (VPath p) = tt
len_kept (VClist l) = tt
len_kept _ = tt

pub property_kept : (p : Property) (v : Val) → Gives (property_of p v)
property_kept properties.Len v = len_kept v
property_kept properties.First v = any_then IsWithin (path_in v) _ (λ p. tt)
property_kept properties.Last v = any_then IsWithin (path_in v) _ (λ p. tt)
property_kept properties.Ip v = any_then IsWithin (prefix_in v) _ (λ net. tt)

-- ---- methods

longer_kept : (p : List ℕ) (n : ℕ) → Gives (longer p n)
longer_kept p n =
    ⊎_elim
    (λ t. let less = ltb-true (length p) 120 t in rw t (omega (arith, less)))
    (λ f. rw f tt)
    (cases_Bool (nat_lt (length p) 120))

prepended_kept : (v w : Val) → Gives (prepended_of v w)
prepended_kept v w = two (path_in v) (int_in w) _ longer_kept

list_kept : (v : Val) → IsWithin v → IfOk (clist_in v) (λ l. length l ≤ 64)
list_kept (VClist l) h = h
list_kept _ h = tt

with_pair_kept : (l : List (ℕ × ℕ)) (p : ℕ × ℕ) → length l ≤ 64
    → IfOk (with_pair l p) (λ more. length more ≤ 64)
with_pair_kept l p h =
    ⊎_elim
    (λ t. rw t h)
    (λ f. ⊎_elim
    (λ t. let less = ltb-true (length l) 64 t in
    rw f (rw t (omega (arith, less, length-append l (p ∷ [])))))
    (λ g. rw f (rw g tt))
    (cases_Bool (nat_lt (length l) 64)))
    (cases_Bool (has_pair l p))

with_pairs_kept : (ps l : List (ℕ × ℕ)) → length l ≤ 64
    → IfOk (with_pairs l ps) (λ more. length more ≤ 64)
with_pairs_kept [] l h = h
with_pairs_kept (p ∷ ps) l h =
    good_then (λ more. length more ≤ 64) (λ more. length more ≤ 64) (with_pair l p) _
    (with_pair_kept l p h) (λ more k. with_pairs_kept ps more k)

added_to_kept : (l : List (ℕ × ℕ)) (w : Val) → length l ≤ 64
    → IfOk (added_to l w) (λ more. length more ≤ 64)
added_to_kept l (VPair p) h = with_pair_kept l p h
added_to_kept l (VClist ps) h = with_pairs_kept ps l h
added_to_kept l _ h = tt

added_kept : (v w : Val) → IsWithin v → Gives (added_of v w)
added_kept v w h =
    good_then (λ l. length l ≤ 64) IsWithin (clist_in v) _ (list_kept v h)
    (λ l k. good_then (λ l. length l ≤ 64) IsWithin (added_to l w) _ (added_to_kept l w k)
    (λ more m. m))

-- what is taken out of a list leaves a shorter one
filtered_short : {A : Type 0} (test : A → Bool) (xs : List A) (n : ℕ) → length xs ≤ n
    → length (filter test xs) ≤ n
filtered_short test xs n h = omega (arith, h, length-filter test xs, count_by-le-length test xs)

numbers_without_kept : (p : List ℕ) (w : Val) → length p ≤ 120
    → IfOk (numbers_without p w) (λ left. length left ≤ 120)
numbers_without_kept p (VInt n) h = filtered_short _ p 120 h
numbers_without_kept p (VIntSet s) h = filtered_short _ p 120 h
numbers_without_kept p _ h = tt

pairs_without_kept : (l : List (ℕ × ℕ)) (w : Val) → length l ≤ 64
    → IfOk (pairs_without l w) (λ left. length left ≤ 64)
pairs_without_kept l (VPair p) h = filtered_short _ l 64 h
pairs_without_kept l (VPairSet s) h = filtered_short _ l 64 h
pairs_without_kept l (VClist ps) h = filtered_short _ l 64 h
pairs_without_kept l _ h = tt

pairs_within_kept : (l : List (ℕ × ℕ)) (w : Val) → length l ≤ 64
    → IfOk (pairs_within l w) (λ left. length left ≤ 64)
pairs_within_kept l (VPairSet s) h = filtered_short _ l 64 h
pairs_within_kept l (VClist ps) h = filtered_short _ l 64 h
pairs_within_kept l _ h = tt

deleted_kept : (v w : Val) → IsWithin v → Gives (deleted_of v w)
deleted_kept (VPath p) w h =
    good_then (λ left. length left ≤ 120) IsWithin (numbers_without p w) _
    (numbers_without_kept p w h) (λ left k. k)
deleted_kept (VClist l) w h =
    good_then (λ left. length left ≤ 64) IsWithin (pairs_without l w) _
    (pairs_without_kept l w h) (λ left k. k)
deleted_kept _ w h = tt

filtered_kept : (v w : Val) → IsWithin v → Gives (filtered_of v w)
filtered_kept (VPath p) w h =
    good_then (λ left. length left ≤ 120) IsWithin (numbers_within p w) _
    (any_then (λ left. length left ≤ 120) (int_set_in w) _ (λ s. filtered_short _ p 120 h))
    (λ left k. k)
filtered_kept (VClist l) w h =
    good_then (λ left. length left ≤ 64) IsWithin (pairs_within l w) _
    (pairs_within_kept l w h) (λ left k. k)
filtered_kept _ w h = tt

pub method_kept : (m : MethodKind) (v w : Val) → IsWithin v → Gives (method_of m v w)
method_kept methods.Prepend v w h = prepended_kept v w
method_kept methods.Add v w h = added_kept v w h
method_kept methods.Delete v w h = deleted_kept v w h
method_kept methods.Filter v w h = filtered_kept v w h

pub emptied_kept : (v : Val) → Gives (emptied_of v)
emptied_kept (VPath p) = omega arith
emptied_kept (VClist l) = omega arith
emptied_kept _ = tt

-- ---- elements of a list: none is one, and they are at most 120

abbrev pub Elements : Frame → Type 0
Elements vs = AreWithin vs × (length vs ≤ 120)

pub elements_kept : (v : Val) → IsWithin v → IfOk (elements v) Elements
elements_kept (VPath path) h =
    (All-map IsWithin VInt path (λ k d lt. tt), omega (arith, h, length-map path VInt))
elements_kept (VClist pairs) h =
    (All-map IsWithin VPair pairs (λ k d lt. tt), omega (arith, h, length-map pairs VPair))
elements_kept _ h = tt

-- ---- constants, defaults, attributes

pub word_kept : (constant : Constant) → IsWithin (value_of_constant constant)
word_kept constants.RtsStatic = tt
word_kept constants.RtsBgp = tt
word_kept constants.RtdUnicast = tt
word_kept constants.RtdRouter = tt
word_kept constants.RtdBlackhole = tt
word_kept constants.RtdUnreachable = tt
word_kept constants.RtdProhibit = tt
word_kept constants.OriginIgp = tt
word_kept constants.OriginEgp = tt
word_kept constants.OriginIncomplete = tt

pub default_kept : (sort : Sort) → IsWithin (default_of sort)
default_kept sorts.Path = omega arith
default_kept sorts.Clist = omega arith
default_kept _ = tt

defined_kept : {A : Type 0} (f : A → Val) (o : Option A) → ((a : A) → IsWithin (f a))
    → Gives (defined_as f o)
defined_kept f None h = tt
defined_kept f (Some a) h = h a

pub attribute_kept : (around : Around) (a : Attribute) (attrs : Attrs) → AttrsAreWithin attrs
    → Gives (attribute_of around a attrs)
attribute_kept around attributes.Net attrs w = tt
attribute_kept around attributes.Preference attrs w = tt
attribute_kept around attributes.Gw attrs w = defined_kept VIp attrs.gw (λ a. tt)
attribute_kept around attributes.From attrs w = defined_kept VIp attrs.sender (λ a. tt)
attribute_kept around attributes.BgpNextHop attrs w = defined_kept VIp attrs.next_hop (λ a. tt)
attribute_kept around attributes.Proto attrs w = tt
attribute_kept around attributes.Source attrs w = tt
attribute_kept around attributes.Dest attrs w = tt
attribute_kept around attributes.BgpPath attrs w = w.path
attribute_kept around attributes.BgpOrigin attrs w = defined_kept VOrigin attrs.origin (λ o. tt)
attribute_kept around attributes.BgpMed attrs w = defined_kept VInt attrs.med (λ n. tt)
attribute_kept around attributes.BgpLocalPref attrs w = defined_kept VInt attrs.lp (λ n. tt)
attribute_kept around attributes.IgpMetric attrs w = defined_kept VInt attrs.igp (λ n. tt)
attribute_kept around attributes.BgpCommunity attrs w = w.coms

path_kept : (v : Val) → IsWithin v → IfOk (path_in v) (λ p. length p ≤ 120)
path_kept (VPath p) h = h
path_kept _ h = tt

pub assigned_kept : (a : Attribute) (v : Val) (attrs : Attrs) → IsWithin v → AttrsAreWithin attrs
    → IfOk (with_attribute a v attrs) AttrsAreWithin
assigned_kept attributes.Net v attrs h w = tt
assigned_kept attributes.Preference v attrs h w =
    any_then AttrsAreWithin (int_in v) _ (λ n. record { path = w.path; coms = w.coms })
assigned_kept attributes.Gw v attrs h w =
    any_then AttrsAreWithin (ip_in v) _ (λ n. record { path = w.path; coms = w.coms })
assigned_kept attributes.From v attrs h w =
    any_then AttrsAreWithin (ip_in v) _ (λ n. record { path = w.path; coms = w.coms })
assigned_kept attributes.BgpNextHop v attrs h w =
    any_then AttrsAreWithin (ip_in v) _ (λ n. record { path = w.path; coms = w.coms })
assigned_kept attributes.Proto v attrs h w = tt
assigned_kept attributes.Source v attrs h w = tt
assigned_kept attributes.Dest v attrs h w =
    any_then AttrsAreWithin (dest_in v) _ (λ n. record { path = w.path; coms = w.coms })
assigned_kept attributes.BgpPath v attrs h w =
    good_then (λ p. length p ≤ 120) AttrsAreWithin (path_in v) _ (path_kept v h)
    (λ p k. record { path = k; coms = w.coms })
assigned_kept attributes.BgpOrigin v attrs h w =
    any_then AttrsAreWithin (origin_in v) _ (λ n. record { path = w.path; coms = w.coms })
assigned_kept attributes.BgpMed v attrs h w =
    any_then AttrsAreWithin (int_in v) _ (λ n. record { path = w.path; coms = w.coms })
assigned_kept attributes.BgpLocalPref v attrs h w =
    any_then AttrsAreWithin (int_in v) _ (λ n. record { path = w.path; coms = w.coms })
assigned_kept attributes.IgpMetric v attrs h w =
    any_then AttrsAreWithin (int_in v) _ (λ n. record { path = w.path; coms = w.coms })
assigned_kept attributes.BgpCommunity v attrs h w =
    good_then (λ l. length l ≤ 64) AttrsAreWithin (clist_in v) _ (list_kept v h)
    (λ l k. record { path = w.path; coms = k })

pub unset_kept : (a : Attribute) (attrs : Attrs) → AttrsAreWithin attrs
    → IfOk (without_attribute a attrs) AttrsAreWithin
unset_kept attributes.Net attrs w = tt
unset_kept attributes.Preference attrs w = tt
unset_kept attributes.Gw attrs w = record { path = w.path; coms = w.coms }
unset_kept attributes.From attrs w = tt
unset_kept attributes.BgpNextHop attrs w = record { path = w.path; coms = w.coms }
unset_kept attributes.Proto attrs w = tt
unset_kept attributes.Source attrs w = tt
unset_kept attributes.Dest attrs w = tt
unset_kept attributes.BgpPath attrs w = record { path = omega arith; coms = w.coms }
unset_kept attributes.BgpOrigin attrs w = record { path = w.path; coms = w.coms }
unset_kept attributes.BgpMed attrs w = record { path = w.path; coms = w.coms }
unset_kept attributes.BgpLocalPref attrs w = record { path = w.path; coms = w.coms }
unset_kept attributes.IgpMetric attrs w = record { path = w.path; coms = w.coms }
unset_kept attributes.BgpCommunity attrs w = record { path = w.path; coms = omega arith }

-- ---- sets and masks

int_item_kept : (item : IntItem) (more : Val) → Gives (with_int_item item more)
int_item_kept item (VIntSet more) = tt
int_item_kept item _ = tt

pair_item_kept : (item : PairItem) (more : Val) → Gives (with_pair_item item more)
pair_item_kept item (VPairSet more) = tt
pair_item_kept item _ = tt

prefix_item_kept : (item : PrefixItem) (more : Val) → Gives (with_prefix_item item more)
prefix_item_kept item (VPrefixSet more) = tt
prefix_item_kept item _ = tt

one_kept : (c : Context) (item : Item) → Gives (set_of_one c item)
one_kept c (items.Range p) = any_then IsWithin (int_item c p) _ (λ item. tt)
one_kept c (items.Pair at a b) = any_then IsWithin (pair_item c a b) _ (λ item. tt)
one_kept c (items.Prefix at net l) = any_then IsWithin (prefix_item c net l) _ (λ item. tt)

before_kept : (c : Context) (item : Item) (more : Val) → Gives (before_set c item more)
before_kept c (items.Range p) more =
    any_then IsWithin (int_item c p) _ (λ item. int_item_kept item more)
before_kept c (items.Pair at a b) more =
    any_then IsWithin (pair_item c a b) _ (λ item. pair_item_kept item more)
before_kept c (items.Prefix at net l) more =
    any_then IsWithin (prefix_item c net l) _ (λ item. prefix_item_kept item more)

pub set_kept : (c : Context) (more : List Item) → Gives (set_of c more)
set_kept c [] = tt
set_kept c (item ∷ []) = one_kept c item
set_kept c (item ∷ next ∷ more) =
    any_then IsWithin (set_of c (next ∷ more)) _ (λ set. before_kept c item set)

pub mask_kept : (c : Context) (more : List MaskItem) → Gives (mask_of c more)
mask_kept c more = any_then IsWithin (mask_items c more) _ (λ mask. tt)
