-- The first line of a text.
use Rattle.std.proofs.Common.{◌≡◌, ◌≢◌, ℕ, true, false, eqb, List, [], ◌∷◌, ◌++◌, length, refl, sym, ◌∙◌, ap, arith, inl, inr}
use Rattle.std.specs.List.{list_all, take_while}
use Rattle.std.proofs.lemmas.List.{append-nil}
use Rattle.std.proofs.lemmas.Bool.{cases_Bool, and_parts, not-true, eqb-true, not-false}
use Rattle.std.proofs.lemmas.Bool.Decides.{nat_tests}
use Rattle.text.specs.Lines.{lines_of, begins_with, onto}
use Rattle.text.specs.Cut.{first_passes}
use Rattle.text.specs.Cut.{behind, is_line_byte, without_return}
use Rattle.text.proofs.Runs.{run_whole, run_passes, run_stops}

-- the lines behind a byte that is no newline, and no return before one
lines_onto : (b : ℕ) (bytes : List ℕ) → is_line_byte b ≡ true → begins_with 10 bytes ≡ false → lines_of (b ∷ bytes) ≡ onto b (lines_of bytes)
lines_onto b bytes other no_return =
    let first : eqb b 10 ≡ false = not-true (eqb b 10) other in
    rw (first, no_return) (grind (arith, nat_tests))

pub line_of_end : (b : ℕ) (bytes : List ℕ) → list_all is_line_byte (b ∷ bytes) ≡ true → lines_of (b ∷ bytes) ≡ (b ∷ bytes) ∷ []
line_of_end b [] all = lines_onto b [] (and_parts (is_line_byte b) true all).0 refl
line_of_end b (c ∷ bytes) all =
    let parts = and_parts (is_line_byte b) (list_all is_line_byte (c ∷ bytes)) all in
    let next = and_parts (is_line_byte c) (list_all is_line_byte bytes) parts.1 in
    lines_onto b (c ∷ bytes) parts.0 (not-true (eqb c 10) next.0) ∙ ap (onto b) (line_of_end c bytes parts.1)

pub line_of_newline : (front after : List ℕ) → list_all is_line_byte front ≡ true → lines_of (front ++ 10 ∷ after) ≡ without_return front ∷ lines_of after
line_of_newline [] after all = refl
line_of_newline (b ∷ []) after all =
    let first : eqb b 10 ≡ false = not-true (eqb b 10) (and_parts (is_line_byte b) true all).0 in
    elim (cases_Bool (eqb b 13)) [
      | inl is ↦ rw (first, is) refl
      | inr other ↦ rw (first, other) refl
    ]
line_of_newline (b ∷ c ∷ front) after all =
    let parts = and_parts (is_line_byte b) (list_all is_line_byte (c ∷ front)) all in
    let next = and_parts (is_line_byte c) (list_all is_line_byte front) parts.1 in
    lines_onto b (c ∷ front ++ 10 ∷ after) parts.0 (not-true (eqb c 10) next.0) ∙ ap (onto b) (line_of_newline (c ∷ front) after parts.1)

pub without_return_pushed : (front : List ℕ) → front ≡ without_return (front ++ 13 ∷ [])
without_return_pushed [] = refl
without_return_pushed (b ∷ []) = refl
without_return_pushed (b ∷ c ∷ front) = ap (λ (l : List ℕ). b ∷ l) (without_return_pushed (c ∷ front))

pub without_return_other : (front : List ℕ) (b : ℕ) → b ≢ 13 → front ++ b ∷ [] ≡ without_return (front ++ b ∷ [])
without_return_other [] b other = grind (arith, nat_tests)
without_return_other (c ∷ []) b other = ap (λ (l : List ℕ). c ∷ l) (without_return_other [] b other)
without_return_other (c ∷ d ∷ front) b other = ap (λ (l : List ℕ). c ∷ l) (without_return_other (d ∷ front) b other)

pub without_return_last : (line front : List ℕ) (b : ℕ) → line ≡ front ++ b ∷ [] → b ≢ 13 → line ≡ without_return line
without_return_last line front b is other = is ∙ without_return_other front b other ∙ sym (ap without_return is)

-- a text that is cut behind its longest front without a newline
pub cut_at_newline : (rest front back after : List ℕ) (b : ℕ) → front ≡ take_while is_line_byte rest → back ≡ behind is_line_byte rest → back ≡ b ∷ after
    → lines_of rest ≡ without_return front ∷ lines_of after
cut_at_newline rest front back after b front_is back_is cut =
    let stops : first_passes is_line_byte (b ∷ after) ≡ false = ap (first_passes is_line_byte) (sym cut ∙ back_is) ∙ run_stops is_line_byte rest in
    let newline : b ≡ 10 = eqb-true b 10 (not-false (eqb b 10) stops) in
    let whole : rest ≡ front ++ 10 ∷ after =
    run_whole is_line_byte rest ∙ ap (λ (l : List ℕ). l ++ behind is_line_byte rest) (sym front_is)
    ∙ ap (λ (l : List ℕ). front ++ l) (sym back_is ∙ cut) ∙ ap (λ (n : ℕ). front ++ n ∷ after) newline in
    let all : list_all is_line_byte front ≡ true = ap (list_all is_line_byte) front_is ∙ run_passes is_line_byte rest in
    ap lines_of whole ∙ line_of_newline front after all

cut_whole : (rest : List ℕ) → list_all is_line_byte rest ≡ true → (rest ≡ [] → ⊥) → lines_of rest ≡ rest ∷ []
cut_whole [] all filled = absurd (filled refl)
cut_whole (b ∷ rest) all filled = line_of_end b rest all

pub cut_at_end : (rest front back : List ℕ) → front ≡ take_while is_line_byte rest → back ≡ behind is_line_byte rest → back ≡ [] → (rest ≡ [] → ⊥)
    → lines_of rest ≡ front ∷ lines_of back
cut_at_end rest front back front_is back_is none filled =
    let whole : rest ≡ front = run_whole is_line_byte rest ∙ ap (λ (l : List ℕ). l ++ behind is_line_byte rest) (sym front_is)
    ∙ ap (λ (l : List ℕ). front ++ l) (sym back_is ∙ none) ∙ append-nil front in
    let all : list_all is_line_byte rest ≡ true = ap (list_all is_line_byte) (whole ∙ front_is) ∙ run_passes is_line_byte rest in
    cut_whole rest all filled ∙ ap (λ (l : List ℕ). l ∷ []) whole ∙ ap (λ (l : List ℕ). front ∷ lines_of l) (sym none)

pub filled_from_test : (bytes : List ℕ) → false ≡ eqb (length bytes) 0 → bytes ≡ [] → ⊥
filled_from_test [] test is = cc
filled_from_test (b ∷ bytes) test is = cc

pub without_return_at_return : (line front : List ℕ) (b : ℕ) → line ≡ front ++ b ∷ [] → b ≡ 13 → front ≡ without_return line
without_return_at_return line front b is return =
    without_return_pushed front ∙ ap (λ (n : ℕ). without_return (front ++ n ∷ [])) (sym return) ∙ ap without_return (sym is)
