-- The longest sign by its first byte, and the run of hexadecimal digits and colons byte by byte.
use Rattle.std.proofs.Common.{◌≡◌, ℕ, ◌+◌, ◌<◌, ◌≤◌, Bool, true, false, cond, ◌&&◌, ◌||◌, ◌==◌, not, List, [], ◌∷◌, length, take, drop, get_or, Option, Some, None, refl, sym, ◌∙◌, ap, arith, inl, inr}
use Rattle.std.specs.Prelude.{count_by, nat_le}
use Rattle.std.specs.List.{take_while}
use Rattle.std.proofs.lemmas.Bool.{cases_Bool, and_parts, and_from, false≢true, leb-true, le-leb}
use Rattle.std.proofs.lemmas.List.{length-take}
use Rattle.std.proofs.lemmas.List.Sums.{sum_by-cons}
use Rattle.conf_scan.specs.Shapes.{is_short_sign, is_pair_sign, is_empty_sign, is_sign, is_colons_byte, first_passes}
use Rattle.conf_scan.specs.Fronts.{has_sign, sign_len, sign_at, is_plus_or_minus, begins_empty_sign, begins_pair_sign}
use Rattle.conf_scan.proofs.Runs.{run_yes}
use Rattle.conf_scan.proofs.Reached.{sign_test}
use Rattle.conf_scan.proofs.Turns.{cut_at}

same_truth : (a b : Bool) → (a ≡ true → b ≡ true) → (b ≡ true → a ≡ true) → a ≡ b
same_truth true b to from = sym (to refl)
same_truth false true to from = from refl
same_truth false false to from = refl

or_first : (a b : Bool) → a ≡ true → (a || b) ≡ true
or_first a b is = rw is refl

or_second : (a b : Bool) → b ≡ true → (a || b) ≡ true
or_second true b is = refl
or_second false b is = is

or_left : (a b : Bool) → b ≡ false → (a || b) ≡ true → a ≡ true
or_left true b none is = refl
or_left false b none is = absurd (false≢true (sym none ∙ is))

short_is_sign : (slice : List ℕ) → is_short_sign slice ≡ true → is_sign slice ≡ true
short_is_sign slice is = or_first (is_short_sign slice || is_pair_sign slice) (is_empty_sign slice) (or_first (is_short_sign slice) (is_pair_sign slice) is)

pair_is_sign : (slice : List ℕ) → is_pair_sign slice ≡ true → is_sign slice ≡ true
pair_is_sign slice is = or_first (is_short_sign slice || is_pair_sign slice) (is_empty_sign slice) (or_second (is_short_sign slice) (is_pair_sign slice) is)

empty_is_sign : (slice : List ℕ) → is_empty_sign slice ≡ true → is_sign slice ≡ true
empty_is_sign slice is = or_second (is_short_sign slice || is_pair_sign slice) (is_empty_sign slice) is

-- a sign of so many bytes is one of those of so many bytes

abbrev short_or_longer : List ℕ → Bool
short_or_longer slice = is_short_sign slice || nat_le 2 (length slice)

abbrev pair_or_other : List ℕ → Bool
pair_or_other slice = is_pair_sign slice || not (length slice == 2)

abbrev empty_or_shorter : List ℕ → Bool
empty_or_shorter slice = (first_passes is_plus_or_minus slice && is_empty_sign slice) || nat_le (length slice) 2

one_byte : (b : ℕ) → is_sign (b ∷ []) ≡ is_short_sign (b ∷ [])
one_byte b = same_truth (is_sign (b ∷ [])) (is_short_sign (b ∷ []))
    (λ is. or_left (is_short_sign (b ∷ [])) false refl (sign_test short_or_longer (b ∷ []) refl refl refl is))
    (short_is_sign (b ∷ []))

two_bytes : (b c : ℕ) → is_sign (b ∷ c ∷ []) ≡ is_pair_sign (b ∷ c ∷ [])
two_bytes b c = same_truth (is_sign (b ∷ c ∷ [])) (is_pair_sign (b ∷ c ∷ []))
    (λ is. or_left (is_pair_sign (b ∷ c ∷ [])) false refl (sign_test pair_or_other (b ∷ c ∷ []) refl refl refl is))
    (pair_is_sign (b ∷ c ∷ []))

le_no : (m n : ℕ) → n < m → nat_le m n ≡ false
le_no m n less = elim (cases_Bool (nat_le m n)) [
  | inl is ↦ absurd (omega (arith, leb-true m n is, less))
  | inr fails ↦ fails
]

seven_bytes : (b : ℕ) (bytes : List ℕ) → has_sign 7 (b ∷ bytes) ≡ (is_plus_or_minus b && begins_empty_sign (b ∷ bytes))
seven_bytes b bytes =
    let text = b ∷ bytes in
    same_truth (has_sign 7 text) (is_plus_or_minus b && begins_empty_sign text)
    (λ is.
    let parts = and_parts (nat_le 7 (length text)) (is_sign (take 7 text)) is in
    let seven : length (take 7 text) ≡ 7 = omega (arith, length-take 7 text, leb-true 7 (length text) parts.0) in
    let test = sign_test empty_or_shorter (take 7 text) refl refl refl parts.1 in
    let known = and_parts (is_plus_or_minus b) (is_empty_sign (take 7 text)) (or_left _ (nat_le (length (take 7 text)) 2) (le_no (length (take 7 text)) 2 (omega (arith, seven))) test) in
    and_from (is_plus_or_minus b) (begins_empty_sign text) known.0 (and_from (nat_le 7 (length text)) (is_empty_sign (take 7 text)) parts.0 known.1))
    (λ is.
    let parts = and_parts (is_plus_or_minus b) (begins_empty_sign text) is in
    let more = and_parts (nat_le 7 (length text)) (is_empty_sign (take 7 text)) parts.1 in
    and_from (nat_le 7 (length text)) (is_sign (take 7 text)) more.0 (empty_is_sign (take 7 text) more.1))

has_two : (b : ℕ) (bytes : List ℕ) → has_sign 2 (b ∷ bytes) ≡ begins_pair_sign b bytes
has_two b [] = refl
has_two b (c ∷ bytes) =
    let long : nat_le 2 (length (b ∷ c ∷ bytes)) ≡ true = le-leb 2 _ (omega arith) in
    ap (λ (t : Bool). t && is_sign (b ∷ c ∷ [])) long ∙ two_bytes b c

has_one : (b : ℕ) (bytes : List ℕ) → has_sign 1 (b ∷ bytes) ≡ is_short_sign (b ∷ [])
has_one b bytes =
    let long : nat_le 1 (length (b ∷ bytes)) ≡ true = le-leb 1 _ (omega arith) in
    ap (λ (t : Bool). t && is_sign (b ∷ [])) long ∙ one_byte b

by_lengths : (comment seven two one seven' two' one' : Bool) → seven ≡ seven' → two ≡ two' → one ≡ one'
    → ◌≡◌ {A = Option ℕ} (cond comment None (cond seven (Some 7) (cond two (Some 2) (cond one (Some 1) None)))) (cond comment None (cond seven' (Some 7) (cond two' (Some 2) (cond one' (Some 1) None))))
by_lengths comment seven two one seven' two' one' a b c = rw (a, b, c) refl

pub sign_first : (b : ℕ) (bytes : List ℕ) → sign_len (b ∷ bytes) ≡ sign_at b bytes (b ∷ bytes)
sign_first b bytes =
    by_lengths ((b == 47) && first_passes (λ c. c == 42) bytes) _ _ _ _ _ _ (seven_bytes b bytes) (has_two b bytes) (has_one b bytes)

-- the run of such bytes, from one byte on

abbrev pub colons_of : List ℕ → ℕ
colons_of text = count_by (λ b. b == 58) (take_while is_colons_byte text)

pub colons_more : (text : List ℕ) (i d : ℕ) → i < length text → is_colons_byte (get_or text i d) ≡ true → colons_of (drop i text) ≡ cond (get_or text i d == 58) 1 0 + colons_of (drop (i + 1) text)
colons_more text i d within passes =
    let b = get_or text i d in
    ap colons_of (cut_at text i d within) ∙ ap (count_by (λ c. c == 58)) (run_yes is_colons_byte b (drop (i + 1) text) passes)
    ∙ sum_by-cons (λ c. cond (c == 58) 1 0) b (take_while is_colons_byte (drop (i + 1) text))

pub one_at_most : (t : Bool) → cond t 1 0 ≤ 1
one_at_most true = omega arith
one_at_most false = omega arith
