-- The groups of an IPv6 address and their texts.
use Rattle.std.proofs.Common.{◌≡◌, ◌≢◌, ℕ, zero, suc, ◌<◌, ◌≤◌, ◌+◌, ◌-◌, ◌/◌, ◌%◌, ◌^◌, false, cond, eqb, max, List, [], ◌∷◌, ◌++◌, length, get_or, take, drop, sym, ap, ◌∙◌, refl, ⊎_elim, arith, append_assoc}
use Rattle.std.specs.Fmt.{digits, digits_onto, digit_glyph}
use Rattle.std.specs.List.{flat_map, prefix_len}
use Rattle.std.proofs.Math.Nat.{pow-suc}
use Rattle.std.specs.Ordering.{nat_cmp, ord_max}
use Rattle.std.proofs.lemmas.Fmt.{hex_one_digit}
use Rattle.std.proofs.lemmas.Bool.{cases_eq, eq-eqb, ne_eqb}
use Rattle.std.proofs.lemmas.Bool.Decides.{nat_tests}
use Rattle.std.proofs.lemmas.List.{at_drop_more, append-nil}
use Rattle.std.proofs.lemmas.List.Sums.{prefix_len-le-length}
use Rattle.std.proofs.lemmas.Slice.{first_rest}
use Rattle.bits_ip.specs.Parts.{behind_colon}
use Rattle.bits_ip.specs.Text.{zero_run, longest_run, run_start, colon_text}

pub zero_run_is : (gs : List ℕ) → zero_run gs ≡ prefix_len (λ g. eqb g 0) gs
zero_run_is [] = refl
zero_run_is (g ∷ gs) =
    let more : zero_run gs + 1 ≡ 1 + prefix_len (λ g. eqb g 0) gs = omega (arith, zero_run_is gs) in
    ap (λ k. cond (eqb g 0) k 0) more

longest_more : (gs : List ℕ) (i : ℕ) → i < length gs → longest_run (drop i gs) ≡ max (zero_run (drop i gs)) (longest_run (drop (i + 1) gs))
longest_more gs i h =
    at_drop_more longest_run gs i 0 h ∙ ap (λ r. max r (longest_run (drop (i + 1) gs))) (sym (at_drop_more zero_run gs i 0 h))

-- a step of the search for the longest run
pub longest_step : (gs : List ℕ) (i longest run : ℕ) → i < length gs → max longest (longest_run (drop i gs)) ≡ longest_run gs → run ≡ zero_run (drop i gs) → max (max longest run) (longest_run (drop (i + 1) gs)) ≡ longest_run gs
longest_step gs i longest run h so_far is = omega (arith, longest_more gs i h)

start_more : (run : ℕ) (gs : List ℕ) (i : ℕ) → i < length gs → run_start run (drop i gs) ≡ cond (eqb (zero_run (drop i gs)) run) 0 (run_start run (drop (i + 1) gs) + 1)
start_more run gs i h =
    at_drop_more (run_start run) gs i 0 h ∙ ap (λ r. cond (eqb r run) 0 (run_start run (drop (i + 1) gs) + 1)) (sym (at_drop_more zero_run gs i 0 h))

-- the first run of this length isn't here, or is
pub start_later : (run : ℕ) (gs : List ℕ) (i : ℕ) → i < length gs → (zero_run (drop i gs) ≡ run → ⊥) → run_start run (drop i gs) ≡ run_start run (drop (i + 1) gs) + 1
start_later run gs i h other = start_more run gs i h ∙ ap (λ t. cond t 0 (run_start run (drop (i + 1) gs) + 1)) (ne_eqb (zero_run (drop i gs)) run other)

pub start_here : (run : ℕ) (gs : List ℕ) (i : ℕ) → i < length gs → zero_run (drop i gs) ≡ run → run_start run (drop i gs) ≡ 0
start_here run gs i h same = start_more run gs i h ∙ ap (λ t. cond t 0 (run_start run (drop (i + 1) gs) + 1)) (eq-eqb (zero_run (drop i gs)) run same)

zero_run_within : (gs : List ℕ) → zero_run gs ≤ length gs
zero_run_within gs = omega (arith, zero_run_is gs, prefix_len-le-length (λ g. eqb g 0) gs)

-- the longest run lies within the groups
pub start_within : (run : ℕ) (gs : List ℕ) → run ≡ longest_run gs → run_start run gs + run ≤ length gs
start_within run [] e = omega arith
start_within run (g ∷ gs) e =
    ⊎_elim (λ same. let here : run_start run (g ∷ gs) ≡ 0 = ap (λ t. cond t 0 (run_start run gs + 1)) (eq-eqb (zero_run (g ∷ gs)) run same) in omega (arith, zero_run_within (g ∷ gs)))
    (λ other. let later : run_start run (g ∷ gs) ≡ run_start run gs + 1 = ap (λ t. cond t 0 (run_start run gs + 1)) (ne_eqb (zero_run (g ∷ gs)) run other) in
    omega (arith, start_within run gs (omega arith)))
    (cases_eq (zero_run (g ∷ gs)) run)

-- a group, and the others behind a colon each
colon_text_is : (g : ℕ) (gs : List ℕ) → colon_text (g ∷ gs) ≡ digits 16 false g ++ flat_map behind_colon gs
colon_text_is g [] = sym (append-nil (digits 16 false g))
colon_text_is g (h ∷ gs) = ap (λ x. digits 16 false g ++ 58 ∷ x) (colon_text_is h gs)

colon_text_at : (gs : List ℕ) → 0 < length gs → colon_text gs ≡ digits 16 false (get_or gs 0 0) ++ flat_map behind_colon (take (length gs - 1) (drop 1 gs))
colon_text_at gs some = ap colon_text (first_rest gs 0 some) ∙ colon_text_is (get_or gs 0 0) (take (length gs - 1) (drop 1 gs))

-- the digits are those of the sixteenth and one more
hex_append : (k n : ℕ) (acc : List ℕ) → digits_onto k 16 false n acc ≡ digits_onto k 16 false n [] ++ acc
hex_append zero n acc = refl
hex_append (suc k) n acc =
    let g = digit_glyph false (n % 16) in
    ⊎_elim (λ zero. rw (eq-eqb (n / 16) 0 zero) refl)
    (λ more. rw (ne_eqb (n / 16) 0 more)
    (hex_append k (n / 16) (g ∷ acc) ∙ sym (append_assoc (digits_onto k 16 false (n / 16) []) (g ∷ []) acc) ∙ ap (λ x. x ++ acc) (sym (hex_append k (n / 16) (g ∷ [])))))
    (cases_eq (n / 16) 0)

hex_room : (k n : ℕ) (acc : List ℕ) → n < 16 ^ k → 0 < k → digits_onto k 16 false n acc ≡ digits_onto (suc k) 16 false n acc
hex_room zero n acc small some = absurd (omega arith)
hex_room (suc zero) n acc small some = rw (eq-eqb (n / 16) 0 (omega arith)) refl
hex_room (suc (suc k)) n acc small some =
    let below : n / 16 < 16 ^ suc k = omega (arith, pow-suc 16 (suc k)) in
    ap (λ d. cond (eqb (n / 16) 0) (digit_glyph false (n % 16) ∷ acc) d) (hex_room (suc k) (n / 16) (digit_glyph false (n % 16) ∷ acc) below (omega arith))

hex_onto_step : (k n : ℕ) → 16 ≤ n → n / 16 < 16 ^ k → 0 < k → digits_onto (suc k) 16 false n [] ≡ digits_onto (suc k) 16 false (n / 16) [] ++ digit_glyph false (n % 16) ∷ []
hex_onto_step k n large small some =
    let more : n / 16 ≢ 0 = omega arith in
    ap (λ t. cond t (digit_glyph false (n % 16) ∷ []) (digits_onto k 16 false (n / 16) (digit_glyph false (n % 16) ∷ []))) (ne_eqb (n / 16) 0 more)
    ∙ hex_append k (n / 16) (digit_glyph false (n % 16) ∷ []) ∙ ap (λ d. d ++ digit_glyph false (n % 16) ∷ []) (hex_room k (n / 16) [] small some)

pub hex_step : (n : ℕ) → 16 ≤ n → n < 2 ^ 16 → digits 16 false n ≡ digits 16 false (n / 16) ++ digit_glyph false (n % 16) ∷ []
unfolding digits
hex_step n large small = hex_onto_step 63 n large (omega arith) (omega arith)

pub hex_written_more : (n d : ℕ) (old front : List ℕ) → 16 ≤ n → n < 2 ^ 16 → front ≡ old ++ digits 16 false (n / 16) → d ≡ digit_glyph false (n % 16) → front ++ d ∷ [] ≡ old ++ digits 16 false n
hex_written_more n d old front large small front_is d_is =
    rw (front_is, d_is) (append_assoc old (digits 16 false (n / 16)) (digit_glyph false (n % 16) ∷ []) ∙ ap (λ x. old ++ x) (sym (hex_step n large small)))

pub hex_written_one : (n d : ℕ) (old : List ℕ) → n < 16 → d ≡ digit_glyph false (n % 16) → old ++ d ∷ [] ≡ old ++ digits 16 false n
hex_written_one n d old small d_is =
    let same : n % 16 ≡ n = omega arith in
    ap (λ x. old ++ x ∷ []) d_is ∙ ap (λ x. old ++ digit_glyph false x ∷ []) same ∙ ap (λ x. old ++ x) (sym (hex_one_digit false n small))

pub groups_written : (gs old new : List ℕ) → 0 < length gs → new ≡ old ++ digits 16 false (get_or gs 0 0) → new ++ flat_map behind_colon (take (length gs - 1) (drop 1 gs)) ≡ old ++ colon_text gs
groups_written gs old new some new_is =
    ap (λ x. x ++ flat_map behind_colon (take (length gs - 1) (drop 1 gs))) new_is
    ∙ append_assoc old (digits 16 false (get_or gs 0 0)) (flat_map behind_colon (take (length gs - 1) (drop 1 gs)))
    ∙ ap (λ x. old ++ x) (sym (colon_text_at gs some))

-- what `max` answers
pub larger_is : (m n : ℕ) → ord_max nat_cmp m n ≡ max m n
larger_is m n = grind (arith, nat_tests)
