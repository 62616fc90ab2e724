-- Words with colons between them, and where two colons stand.
use Rattle.std.proofs.Common.{◌≡◌, ◌≢◌, ℕ, ◌<◌, ◌≤◌, ◌+◌, ◌^◌, List, [], ◌∷◌, ◌++◌, length, All, sym, ap, ◌∙◌, refl, subst, eqb, false, ◌⊎◌, ⊎_elim, inl, inr, Option, Some, None, MatchOption, Result, Ok, Err, cond, drop, slice_index, arith, append_assoc}
use Rattle.std.specs.Prelude.{⊤, replicate}
use Rattle.std.specs.Char.{digit_value}
use Rattle.std.specs.List.{slice_split}
use Rattle.std.specs.Str.Parse.{AllDigits, IsNumeral, ParsesUnsigned, digits_value, without_leading_plus}
use Rattle.std.specs.Result.{result_ok}
use Rattle.std.proofs.Math.Nat.{pow-le-pow_right}
use Rattle.std.proofs.lemmas.Int.Digits.{digits_value-lt}
use Rattle.std.proofs.lemmas.Bool.{ne_eqb}
use Rattle.std.proofs.lemmas.List.{append-nil, length-append, length-replicate}
use Rattle.std.proofs.lemmas.List.Elements.{All-append, All-cons, All-head, All-nil, All-tail}
use Rattle.std.proofs.lemmas.List.Splits.{join_with_byte-slice_split, slice_split_at, slice_split_none}
use Rattle.bits_ip.specs.Parts.{group_words, values, AreWords, AreBeside}
use Rattle.std.specs.Str.{IsUtf8}
use Rattle.std.proofs.lemmas.Str.{IsUtf8-from_ascii}
use Rattle.std.proofs.lemmas.Str.Ascii.{IsAscii-from_all}
use Rattle.std.proofs.lemmas.Bool.Decides.{nat_tests}
use Rattle.bits_ip.specs.Text.{groups, IsGroup, AreGroups, joined, IsWhole, IsShortened, IsV6Text}

abbrev first_of : List ℕ → ℕ
first_of [] = 0
first_of (b ∷ bs) = b

abbrev rest_of : List ℕ → List ℕ
rest_of [] = []
rest_of (b ∷ bs) = bs

pub hex_not_colon : (b : ℕ) → digit_value b < 16 → b ≢ 58
hex_not_colon b small e = let wrong = rw e at small in absurd (omega arith)

-- what holds of each digit holds of each byte of a word
pub digits_all : (P : ℕ → Type 0) → ((b : ℕ) → digit_value b < 16 → P b) → (word : List ℕ) → AllDigits 16 word → All P word
digits_all P each [] is = All-nil P
digits_all P each (b ∷ bs) is = All-cons P b bs (each b is.0) (digits_all P each bs is.1)

-- no colon stands at the front
abbrev BeginsElse : List ℕ → Type 0
BeginsElse [] = ⊤
BeginsElse (b ∷ bs) = b ≢ 58

-- no two colons stand one behind the other
abbrev pub NoDouble : List ℕ → Type 0
NoDouble [] = ⊤
NoDouble (b ∷ bs) = (b ≡ 58 → BeginsElse bs) × NoDouble bs

pub no_double_inside : (xs ys : List ℕ) → NoDouble (xs ++ 58 ∷ 58 ∷ ys) → ⊥
no_double_inside [] ys none = none.0 refl refl
no_double_inside (x ∷ xs) ys none = no_double_inside xs ys none.1

-- two colons stand in one place
one_double : (xs ys front back : List ℕ) → NoDouble (front ++ 58 ∷ []) → NoDouble (58 ∷ back) → xs ++ 58 ∷ 58 ∷ ys ≡ front ++ 58 ∷ 58 ∷ back → (xs ≡ front) × (ys ≡ back)
one_double [] ys [] back before behind e = (refl, ap rest_of (ap rest_of e))
one_double [] ys (c ∷ []) back before behind e = absurd (before.0 (sym (ap first_of e)) refl)
one_double [] ys (c ∷ d ∷ front) back before behind e = absurd (before.0 (sym (ap first_of e)) (sym (ap first_of (ap rest_of e))))
one_double (x ∷ xs) ys [] back before behind e =
    let inside : xs ++ 58 ∷ 58 ∷ ys ≡ 58 ∷ back = ap rest_of e in
    absurd (no_double_inside xs ys (subst (λ (t : List ℕ). NoDouble t) (sym inside) behind))
one_double (x ∷ xs) ys (c ∷ front) back before behind e =
    let rest = one_double xs ys front back before.1 behind (ap rest_of e) in
    (ap (λ h. h ∷ xs) (ap first_of e) ∙ ap (λ t. c ∷ t) rest.0, rest.1)

after_word : (word text : List ℕ) → AllDigits 16 word → NoDouble text → NoDouble (word ++ text)
after_word [] text is clear = clear
after_word (b ∷ bs) text is clear = (λ e. absurd (hex_not_colon b is.0 e), after_word bs text is.1 clear)

colon_word : (word text : List ℕ) → IsNumeral 16 word → NoDouble text → NoDouble (58 ∷ (word ++ text))
colon_word [] text is clear = absurd (omega (arith, is.0))
colon_word (b ∷ bs) text is clear = (λ e. hex_not_colon b is.1.0, after_word (b ∷ bs) text is.1 clear)

words_clear : (word : List ℕ) (words : List (List ℕ)) (gs text : List ℕ) → AreGroups (word ∷ words) gs → NoDouble text → NoDouble (58 ∷ (joined (word ∷ words) ++ text))
words_clear word words [] text is clear = absurd is
words_clear word [] (g ∷ gs) text is clear = colon_word word text is.0.0 clear
words_clear word (next ∷ words) (g ∷ gs) text is clear =
    let more = colon_word word (58 ∷ (joined (next ∷ words) ++ text)) is.0.0 (words_clear next words gs text is.1 clear) in
    subst (λ (t : List ℕ). NoDouble (58 ∷ t)) (sym (append_assoc word (58 ∷ joined (next ∷ words)) text)) more

front_clear : (words : List (List ℕ)) (gs : List ℕ) → AreGroups words gs → NoDouble (joined words ++ 58 ∷ [])
front_clear [] gs is = (λ e. tt, tt)
front_clear (word ∷ words) gs is = (words_clear word words gs (58 ∷ []) is (λ e. tt, tt)).1

back_clear : (words : List (List ℕ)) (gs : List ℕ) → AreGroups words gs → NoDouble (58 ∷ joined words)
back_clear [] gs is = (λ e. tt, tt)
back_clear (word ∷ words) gs is =
    subst (λ (t : List ℕ). NoDouble (58 ∷ t)) (append-nil (joined (word ∷ words))) (words_clear word words gs [] is tt)

pub whole_clear : (text gs : List ℕ) → IsWhole text gs → NoDouble text
whole_clear text gs is = subst (λ (t : List ℕ). NoDouble t) (sym is.whole) (back_clear is.words gs is.groups_are).1

word_lacks_colon : (word : List ℕ) → IsNumeral 16 word → All (λ b. eqb b 58 ≡ false) word
word_lacks_colon word is = digits_all (λ b. eqb b 58 ≡ false) (λ b small. ne_eqb b 58 (hex_not_colon b small)) word is.1

split_of_joined : (word : List ℕ) (words : List (List ℕ)) (gs : List ℕ) → AreGroups (word ∷ words) gs → slice_split (λ b. eqb b 58) (joined (word ∷ words)) ≡ word ∷ words
split_of_joined word words [] is = absurd is
split_of_joined word [] (g ∷ gs) is = slice_split_none (λ b. eqb b 58) word (word_lacks_colon word is.0.0)
split_of_joined word (next ∷ words) (g ∷ gs) is =
    slice_split_at (λ b. eqb b 58) word 58 (joined (next ∷ words)) (word_lacks_colon word is.0.0) refl
    ∙ ap (λ r. word ∷ r) (split_of_joined next words gs is.1)

joined_some : (word : List ℕ) (words : List (List ℕ)) (gs : List ℕ) → AreGroups (word ∷ words) gs → 0 < length (joined (word ∷ words))
joined_some word words [] is = absurd is
joined_some word [] (g ∷ gs) is = is.0.0.0
joined_some word (next ∷ words) (g ∷ gs) is = omega (arith, length-append word (58 ∷ joined (next ∷ words)), is.0.0.0)

pub some_words : (text : List ℕ) → 0 < length text → group_words text ≡ slice_split (λ b. eqb b 58) text
some_words [] some = absurd (omega arith)
some_words (b ∷ bs) some = refl

words_of_joined : (words : List (List ℕ)) (gs : List ℕ) → AreGroups words gs → group_words (joined words) ≡ words
words_of_joined [] gs is = refl
words_of_joined (word ∷ words) gs is =
    some_words (joined (word ∷ words)) (joined_some word words gs is) ∙ split_of_joined word words gs is

joined_words : (text : List ℕ) → joined (group_words text) ≡ text
joined_words [] = refl
joined_words (b ∷ bs) = join_with_byte-slice_split 58 (b ∷ bs)

values_are : (words : List (List ℕ)) (gs : List ℕ) → AreGroups words gs → gs ≡ values words
values_are [] [] is = refl
values_are [] (g ∷ gs) is = absurd is
values_are (word ∷ words) [] is = absurd is
values_are (word ∷ words) (g ∷ gs) is =
    ap (λ h. h ∷ gs) (sym is.0.2) ∙ ap (λ t. digits_value 16 word ∷ t) (values_are words gs is.1)

-- groups that a text spells are those of its words
side_is : (text : List ℕ) (words : List (List ℕ)) (gs : List ℕ) → text ≡ joined words → AreGroups words gs → AreWords (group_words text) × (gs ≡ values (group_words text))
side_is text words gs e is =
    let same : group_words text ≡ words = ap group_words e ∙ words_of_joined words gs is in
    let value = values_are words gs is in (
      subst (λ (ws : List (List ℕ)). AreGroups ws (values ws)) (sym same) (subst (λ (l : List ℕ). AreGroups words l) value is),
      value ∙ ap values (sym same),
    )

pub whole_words : (text gs : List ℕ) → IsWhole text gs → AreWords (group_words text) × (gs ≡ values (group_words text))
whole_words text gs is = side_is text is.words gs is.whole is.groups_are

pub whole_from : (text : List ℕ) → AreWords (group_words text) → IsWhole text (values (group_words text))
whole_from text is = record { words = group_words text; whole = sym (joined_words text); groups_are = is }

-- what stands before and behind two colons
pub beside_is : (text front back gs : List ℕ) → text ≡ front ++ 58 ∷ 58 ∷ back → IsShortened text gs → AreBeside front back gs
beside_is text front back gs e is =
    let same = one_double front back (joined is.front) (joined is.back) (front_clear is.front is.before is.front_are) (back_clear is.back is.behind is.back_are) (sym e ∙ is.whole) in
    let one = side_is front is.front is.before same.0 is.front_are in
    let other = side_is back is.back is.behind same.1 is.back_are in
    record {
      front_are = one.0;
      back_are = other.0;
      zeros = is.zeros;
      some = is.some;
      groups_are = is.groups_are ∙ ap (λ b. b ++ replicate is.zeros 0 ++ is.behind) one.1 ∙ ap (λ b. values (group_words front) ++ replicate is.zeros 0 ++ b) other.1;
    }

pub shortened_from : (text front back gs : List ℕ) → text ≡ front ++ 58 ∷ 58 ∷ back → AreBeside front back gs → IsShortened text gs
shortened_from text front back gs e is = record {
  front = group_words front;
  back = group_words back;
  before = values (group_words front);
  behind = values (group_words back);
  zeros = is.zeros;
  whole = e ∙ ap (λ f. f ++ 58 ∷ 58 ∷ back) (sym (joined_words front)) ∙ ap (λ b. joined (group_words front) ++ 58 ∷ 58 ∷ b) (sym (joined_words back));
  front_are = is.front_are;
  back_are = is.back_are;
  some = is.some;
  groups_are = is.groups_are;
}

joined_all : (P : ℕ → Type 0) → ((b : ℕ) → digit_value b < 16 → P b) → P 58 → (words : List (List ℕ)) (gs : List ℕ) → AreGroups words gs → All P (joined words)
joined_all P each colon [] gs is = All-nil P
joined_all P each colon (word ∷ words) [] is = absurd is
joined_all P each colon (word ∷ []) (g ∷ gs) is = digits_all P each word is.0.0.1
joined_all P each colon (word ∷ next ∷ words) (g ∷ gs) is =
    All-append P word (58 ∷ joined (next ∷ words)) (digits_all P each word is.0.0.1)
    (All-cons P 58 (joined (next ∷ words)) colon (joined_all P each colon (next ∷ words) gs is.1))

shortened_all : (P : ℕ → Type 0) → ((b : ℕ) → digit_value b < 16 → P b) → P 58 → (text gs : List ℕ) → IsShortened text gs → All P text
shortened_all P each colon text gs is =
    let back = joined is.back in
    let behind = All-cons P 58 (58 ∷ back) colon (All-cons P 58 back colon (joined_all P each colon is.back is.behind is.back_are)) in
    subst (λ (t : List ℕ). All P t) (sym is.whole) (All-append P (joined is.front) (58 ∷ 58 ∷ back) (joined_all P each colon is.front is.before is.front_are) behind)

-- what holds of digits and colons holds of each byte of an IPv6 address
pub v6_all : (P : ℕ → Type 0) → ((b : ℕ) → digit_value b < 16 → P b) → P 58 → (text : List ℕ) (n : ℕ) → IsV6Text text n → All P text
v6_all P each colon text n is = ⊎_elim
    (λ whole. subst (λ (t : List ℕ). All P t) (sym whole.whole) (joined_all P each colon whole.words (groups n) whole.groups_are))
    (λ short. shortened_all P each colon text (groups n) short)
    is.1

pub hex_not_slash : (b : ℕ) → digit_value b < 16 → b ≢ 47
hex_not_slash b small e = let wrong = rw e at small in absurd (omega arith)

pub hex_not_dot : (b : ℕ) → digit_value b < 16 → b ≢ 46
hex_not_dot b small e = let wrong = rw e at small in absurd (omega arith)

hex_is_ascii : (b : ℕ) → digit_value b < 16 → b < 128
hex_is_ascii b small = grind (arith, nat_tests)

pub v6_is_utf8 : (text : List ℕ) (n : ℕ) → IsV6Text text n → IsUtf8 text
v6_is_utf8 text n is = IsUtf8-from_ascii text (IsAscii-from_all text (v6_all (λ b. b < 128) hex_is_ascii (omega arith) text n is))

pub v6_lacks_slash : (text : List ℕ) (n : ℕ) → IsV6Text text n → All (λ b. b ≢ 47) text
v6_lacks_slash text n is = v6_all (λ b. b ≢ 47) hex_not_slash (λ e. omega arith) text n is

lacks_none : (x : ℕ) (xs ys : List ℕ) → All (λ b. b ≢ x) (xs ++ x ∷ ys) → ⊥
lacks_none x [] ys all = All-head (λ b. b ≢ x) x ys all refl
lacks_none x (y ∷ xs) ys all = lacks_none x xs ys (All-tail (λ b. b ≢ x) y (xs ++ x ∷ ys) all)

-- no IPv6 address has a dot
pub v6_lacks_dot : (text front rest : List ℕ) (n : ℕ) → IsV6Text text n → text ≡ front ++ 46 ∷ rest → ⊥
v6_lacks_dot text front rest n is e =
    lacks_none 46 front rest (subst (λ (t : List ℕ). All (λ b. b ≢ 46) t) e (v6_all (λ b. b ≢ 46) hex_not_dot (λ e. omega arith) text n is))

pub whole_lacks_double : (text gs front back : List ℕ) → IsWhole text gs → text ≡ front ++ 58 ∷ 58 ∷ back → ⊥
whole_lacks_double text gs front back is e = no_double_inside front back (subst (λ (t : List ℕ). NoDouble t) e (whole_clear text gs is))

pub beside_length : (xs : List ℕ) (zeros : ℕ) (ys : List ℕ) → length (xs ++ replicate zeros 0 ++ ys) ≡ length xs + zeros + length ys
beside_length xs zeros ys =
    omega (arith, length-append (xs ++ replicate zeros 0) ys, length-append xs (replicate zeros 0), length-replicate {A = ℕ} zeros 0)

beside_agree : (front back gs hs : List ℕ) → AreBeside front back gs → AreBeside front back hs → length gs ≡ length hs → gs ≡ hs
beside_agree front back gs hs one other long =
    let xs = values (group_words front) in let ys = values (group_words back) in
    let first : length gs ≡ length xs + one.zeros + length ys = ap length one.groups_are ∙ beside_length xs one.zeros ys in
    let second : length hs ≡ length xs + other.zeros + length ys = ap length other.groups_are ∙ beside_length xs other.zeros ys in
    let same : one.zeros ≡ other.zeros = omega (arith, first, second, long) in
    one.groups_are ∙ ap (λ z. xs ++ replicate z 0 ++ ys) same ∙ sym other.groups_are

-- a text spells one list of groups of a length
pub groups_agree : (text gs hs : List ℕ) → IsWhole text gs ⊎ IsShortened text gs → IsWhole text hs ⊎ IsShortened text hs → length gs ≡ length hs → gs ≡ hs
groups_agree text gs hs one other long = ⊎_elim
    (λ whole. ⊎_elim
    (λ whole'. (whole_words text gs whole).1 ∙ sym (whole_words text hs whole').1)
    (λ short'. absurd (whole_lacks_double text gs (joined short'.front) (joined short'.back) whole short'.whole))
    other)
    (λ short. ⊎_elim
    (λ whole'. absurd (whole_lacks_double text hs (joined short.front) (joined short.back) whole' short.whole))
    (λ short'. beside_agree (joined short.front) (joined short.back) gs hs (beside_is text _ _ gs short.whole short) (beside_is text _ _ hs short.whole short') long)
    other)
    one

-- the text is cut at its two colons, and what stands on both sides is read
pub v6_shortened : (text front back : List ℕ) (r : Option ℕ) → text ≡ front ++ 58 ∷ 58 ∷ back → MatchOption r ((n : ℕ) → n < 2 ^ 128 → AreBeside front back (groups n) → ⊥) (λ n. (n < 2 ^ 128) × AreBeside front back (groups n)) → MatchOption r ((n : ℕ) → IsV6Text text n → ⊥) (λ n. IsV6Text text n)
v6_shortened text front back None e none = λ n is. ⊎_elim (λ whole. whole_lacks_double text (groups n) front back whole e) (λ short. none n is.0 (beside_is text front back (groups n) e short)) is.1
v6_shortened text front back (Some n) e is = (is.0, inr (shortened_from text front back (groups n) e is.1))

-- the text has no two colons
pub v6_whole : (text : List ℕ) (r : Option ℕ) → ((front back : List ℕ) → text ≢ front ++ 58 ∷ 58 ∷ back) → MatchOption r ((n : ℕ) → n < 2 ^ 128 → IsWhole text (groups n) → ⊥) (λ n. (n < 2 ^ 128) × IsWhole text (groups n)) → MatchOption r ((n : ℕ) → IsV6Text text n → ⊥) (λ n. IsV6Text text n)
v6_whole text None lacks none = λ n is. ⊎_elim (λ whole. none n is.0 whole) (λ short. lacks (joined short.front) (joined short.back) short.whole) is.1
v6_whole text (Some n) lacks is = (is.0, inl is.1)

-- a word with no plus sign is read as its digits say
pub group_read : {E : Type 0} (word : List ℕ) (r : Result ℕ E) → (slice_index word 0 ≡ 43 → ⊥) → length word ≤ 4 → ParsesUnsigned 16 16 word r → MatchOption (result_ok r) ((g : ℕ) → IsGroup word g → ⊥) (λ g. IsGroup word g)
group_read {E} word (Ok g) plain short parses =
    let same : without_leading_plus word ≡ word = ap (λ t. drop (cond t 1 0) word) (ne_eqb (slice_index word 0) 43 plain) in
    let read = rw same at parses in
    (read.0.0, short, sym read.1)
group_read {E} word (Err e) plain short parses =
    let same : without_leading_plus word ≡ word = ap (λ t. drop (cond t 1 0) word) (ne_eqb (slice_index word 0) 43 plain) in
    let read = rw same at parses in
    λ g is.
    let most : 16 ^ length word ≤ 16 ^ 4 = pow-le-pow_right (omega arith) short in
    let small : digits_value 16 word < 16 ^ length word = digits_value-lt 16 word is.0.1 in
    read (is.0, omega (arith, most, small))
