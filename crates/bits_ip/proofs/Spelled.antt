-- What is written is a spelling.
use Rattle.std.proofs.Common.{◌≡◌, ℕ, zero, suc, ◌<◌, ◌≤◌, ◌+◌, ◌/◌, ◌%◌, ◌^◌, Bool, true, false, cond, nat_le, List, [], ◌∷◌, ◌++◌, ◌⊎◌, length, map, take, drop, inl, inr, sym, ap, ◌∙◌, refl, subst, ⊎_elim, arith}
use Rattle.std.specs.Prelude.{replicate}
use Rattle.std.specs.Fmt.{digits, digit_glyph}
use Rattle.std.specs.Int.Digits.{AllBelowBase}
use Rattle.std.proofs.Math.Nat.{pow-suc}
use Rattle.std.proofs.lemmas.Bool.{cases_eq, eq-eqb, ne_eqb}
use Rattle.std.proofs.lemmas.Bool.Decides.{nat_tests}
use Rattle.std.proofs.lemmas.Fmt.{digits_is_IsNumeral, hex_one_digit}
use Rattle.std.proofs.lemmas.List.{length-append}
use Rattle.bits_ip.specs.Text.{v6_text, groups, colon_text, short_text, zero_run, longest_run, run_start, IsGroup, AreGroups, joined, IsWhole, IsShortened, IsV6Text}
use Rattle.bits_ip.proofs.Groups.{hex_step}

hex_length : (k n : ℕ) → n < 16 ^ suc k → n < 2 ^ 16 → length (digits 16 false n) ≤ suc k
hex_length zero n small low = omega (arith, ap length (hex_one_digit false n small))
hex_length (suc k) n small low = ⊎_elim
    (λ none. let one = ap length (hex_one_digit false n (omega (arith, none))) in omega (arith, one))
    (λ more.
    let long : 16 ≤ n = omega (arith, more) in
    let below : n / 16 < 16 ^ suc k = omega (arith, pow-suc 16 (suc k)) in
    let step = ap length (hex_step n long low) ∙ length-append (digits 16 false (n / 16)) (digit_glyph false (n % 16) ∷ []) in
    omega (arith, step, hex_length k (n / 16) below (omega (arith, low))))
    (cases_eq (n / 16) 0)

hex_is_group : (g : ℕ) → g < 65536 → IsGroup (digits 16 false g) g
hex_is_group g small =
    let is = digits_is_IsNumeral 16 false (omega arith) (omega arith) g (omega (arith, small)) in
    (is.0, hex_length 3 g (omega (arith, small)) (omega (arith, small)), is.1)

abbrev hex_words : List ℕ → List (List ℕ)
hex_words gs = map (λ g. digits 16 false g) gs

hex_are : (gs : List ℕ) → AllBelowBase 65536 gs → AreGroups (hex_words gs) gs
hex_are [] below = tt
hex_are (g ∷ gs) below = (hex_is_group g below.0, hex_are gs below.1)

colon_text_joined : (gs : List ℕ) → colon_text gs ≡ joined (hex_words gs)
colon_text_joined [] = refl
colon_text_joined (g ∷ []) = refl
colon_text_joined (g ∷ h ∷ gs) = ap (λ t. digits 16 false g ++ 58 ∷ t) (colon_text_joined (h ∷ gs))

groups_all_below : (n : ℕ) → AllBelowBase 65536 (groups n)
groups_all_below n = (omega arith, (omega arith, (omega arith, (omega arith, (omega arith, (omega arith, (omega arith, (omega arith, tt))))))))

below_take : (k : ℕ) (gs : List ℕ) → AllBelowBase 65536 gs → AllBelowBase 65536 (take k gs)
below_take zero gs below = tt
below_take (suc k) [] below = tt
below_take (suc k) (g ∷ gs) below = (below.0, below_take k gs below.1)

below_drop : (k : ℕ) (gs : List ℕ) → AllBelowBase 65536 gs → AllBelowBase 65536 (drop k gs)
below_drop zero gs below = below
below_drop (suc k) [] below = tt
below_drop (suc k) (g ∷ gs) below = below_drop k gs below.1

zero_front : (gs : List ℕ) → gs ≡ replicate (zero_run gs) 0 ++ drop (zero_run gs) gs
zero_front [] = refl
zero_front (g ∷ gs) = ⊎_elim
    (λ zero.
    let run : zero_run (g ∷ gs) ≡ suc (zero_run gs) = ap (λ t. cond t (zero_run gs + 1) 0) (eq-eqb g 0 zero) ∙ omega arith in
    subst (λ r. g ∷ gs ≡ replicate r 0 ++ drop r (g ∷ gs)) (sym run) (ap (λ h. h ∷ gs) zero ∙ ap (λ t. 0 ∷ t) (zero_front gs)))
    (λ other.
    let run : zero_run (g ∷ gs) ≡ 0 = ap (λ t. cond t (zero_run gs + 1) 0) (ne_eqb g 0 other) in
    subst (λ r. g ∷ gs ≡ replicate r 0 ++ drop r (g ∷ gs)) (sym run) refl)
    (cases_eq g 0)

-- the first longest run of zeros stands where it is looked for
run_out : (len : ℕ) (gs : List ℕ) (s k : ℕ) → len ≡ longest_run gs → s ≡ run_start len gs → k ≡ s + len → gs ≡ take s gs ++ replicate len 0 ++ drop k gs
run_out len [] s k longest start end =
    let none : k ≡ 0 = omega (arith, longest, start, end) in
    let empty : List ℕ = [] in
    let zeros : empty ≡ replicate len 0 ++ empty = subst (λ j. empty ≡ replicate j 0 ++ empty) (sym longest) refl in
    let first : empty ≡ take s empty ++ replicate len 0 ++ empty = subst (λ j. empty ≡ take j empty ++ replicate len 0 ++ empty) (sym start) zeros in
    subst (λ j. empty ≡ take s empty ++ replicate len 0 ++ drop j empty) (sym none) first
run_out len (g ∷ gs) s k longest start end = ⊎_elim
    (λ same.
    let here : run_start len (g ∷ gs) ≡ 0 = ap (λ t. cond t 0 (run_start len gs + 1)) (eq-eqb (zero_run (g ∷ gs)) len same) in
    let first : s ≡ 0 = start ∙ here in
    let last : k ≡ len = omega (arith, first, end) in
    let zeros : g ∷ gs ≡ replicate len 0 ++ drop len (g ∷ gs) = subst (λ r. g ∷ gs ≡ replicate r 0 ++ drop r (g ∷ gs)) same (zero_front (g ∷ gs)) in
    subst (λ j. g ∷ gs ≡ take j (g ∷ gs) ++ replicate len 0 ++ drop k (g ∷ gs)) (sym first) (subst (λ j. g ∷ gs ≡ replicate len 0 ++ drop j (g ∷ gs)) (sym last) zeros))
    (λ other.
    let later : run_start len (g ∷ gs) ≡ run_start len gs + 1 = ap (λ t. cond t 0 (run_start len gs + 1)) (ne_eqb (zero_run (g ∷ gs)) len other) in
    let next : s ≡ suc (run_start len gs) = omega (arith, start, later) in
    let last : k ≡ suc (run_start len gs + len) = omega (arith, next, end) in
    let rest = run_out len gs (run_start len gs) (run_start len gs + len) (omega (arith, longest, other)) refl refl in
    subst (λ j. g ∷ gs ≡ take j (g ∷ gs) ++ replicate len 0 ++ drop k (g ∷ gs)) (sym next)
    (subst (λ j. g ∷ gs ≡ g ∷ take (run_start len gs) gs ++ replicate len 0 ++ drop j (g ∷ gs)) (sym last) (ap (λ t. g ∷ t) rest)))
    (cases_eq (zero_run (g ∷ gs)) len)

two_or_more : (len : ℕ) → nat_le len 1 ≡ false → 1 ≤ len
two_or_more len e = grind (arith, nat_tests)

shortened_is : (gs : List ℕ) (len : ℕ) → AllBelowBase 65536 gs → len ≡ longest_run gs → 1 ≤ len → IsShortened (short_text (run_start len gs) len gs) gs
shortened_is gs len below longest some =
    let front = take (run_start len gs) gs in let back = drop (run_start len gs + len) gs in
    record {
      front = hex_words front;
      back = hex_words back;
      before = front;
      behind = back;
      zeros = len;
      whole = ap (λ t. t ++ 58 ∷ 58 ∷ colon_text back) (colon_text_joined front) ∙ ap (λ t. joined (hex_words front) ++ 58 ∷ 58 ∷ t) (colon_text_joined back);
      front_are = hex_are front (below_take (run_start len gs) gs below);
      back_are = hex_are back (below_drop (run_start len gs + len) gs below);
      some = some;
      groups_are = run_out len gs (run_start len gs) (run_start len gs + len) longest refl refl;
    }

spelled_by : (t : Bool) (gs : List ℕ) (len : ℕ) → AllBelowBase 65536 gs → len ≡ longest_run gs → nat_le len 1 ≡ t → IsWhole (cond t (colon_text gs) (short_text (run_start len gs) len gs)) gs ⊎ IsShortened (cond t (colon_text gs) (short_text (run_start len gs) len gs)) gs
spelled_by true gs len below longest e = inl (record { words = hex_words gs; whole = colon_text_joined gs; groups_are = hex_are gs below })
spelled_by false gs len below longest e = inr (shortened_is gs len below longest (two_or_more len e))

-- the text of an IPv6 address spells it
pub v6_text_spells : (n : ℕ) → n < 2 ^ 128 → IsV6Text (v6_text n) n
v6_text_spells n small =
    let gs = groups n in
    (small, spelled_by (nat_le (longest_run gs) 1) gs (longest_run gs) (groups_all_below n) refl refl)
