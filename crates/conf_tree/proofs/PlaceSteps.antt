-- Lines and columns, byte by byte.
use Rattle.std.proofs.Common.{◌≡◌, ℕ, ◌+◌, ◌<◌, ◌≤◌, Bool, true, false, cond, not, ◌==◌, List, [], ◌∷◌, ◌++◌, length, take, get_or, refl, sym, ◌∙◌, ap, arith, inl, inr, append_assoc}
use Rattle.std.specs.Prelude.{filter}
use Rattle.std.specs.List.{list_all}
use Rattle.std.proofs.lemmas.Bool.{cases_Bool, eqb-true, and_parts, and_from, not-true, not_from_false}
use Rattle.std.proofs.lemmas.List.{append-nil, get_or-take, length-append, length-take, take_more}
use Rattle.std.proofs.lemmas.List.Elements.{filter-append}
use Rattle.std.proofs.lemmas.List.Folds.{list_all-append}
use Rattle.conf_tree.specs.Position.{IsPlace}

abbrev pub newlines : List ℕ → List ℕ
newlines bytes = filter (λ b. b == 10) bytes

abbrev pub NoNewline : List ℕ → Type 0
NoNewline bytes = list_all (λ b. not (b == 10)) bytes ≡ true

newlines_cons : (b : ℕ) (bs : List ℕ) (t : Bool) → (b == 10) ≡ t → newlines (b ∷ bs) ≡ cond t (b ∷ newlines bs) (newlines bs)
newlines_cons b bs t is = ap (λ (u : Bool). cond u (b ∷ newlines bs) (newlines bs)) is

pub no_newlines : (bytes : List ℕ) → NoNewline bytes → newlines bytes ≡ []
no_newlines [] none = refl
no_newlines (b ∷ bs) none =
    let parts = and_parts (not (b == 10)) (list_all (λ c. not (c == 10)) bs) none in
    newlines_cons b bs false (not-true (b == 10) parts.0) ∙ no_newlines bs parts.1

few_newlines : (bytes : List ℕ) → length (newlines bytes) ≤ length bytes
few_newlines [] = omega arith
few_newlines (b ∷ bs) = elim (cases_Bool (b == 10)) [
  | inl is ↦ omega (arith, few_newlines bs, ap (λ (l : List ℕ). length l) (newlines_cons b bs true is))
  | inr isnt ↦ omega (arith, few_newlines bs, ap (λ (l : List ℕ). length l) (newlines_cons b bs false isnt))
]

pub place_small : (text : List ℕ) (at l c : ℕ) → at ≤ length text → IsPlace text at l c → l + c ≤ at + 2
place_small text at l c within place =
    let len : length (take at text) ≡ length place.lines + length place.front = ap (λ (x : List ℕ). length x) place.before ∙ length-append place.lines place.front in
    omega (arith, len, length-take at text, within, place.line_is, place.column_is, few_newlines place.lines)

-- one byte more of a front of the text
byte_more : (text : List ℕ) (upto at : ℕ) → upto ≤ length text → at < length (take upto text) → take (at + 1) text ≡ take at text ++ get_or (take upto text) at 0 ∷ []
byte_more text upto at within inside =
    let before : at < upto = omega (arith, inside, length-take upto text, within) in
    take_more text at 0 (omega (arith, before, within)) ∙ ap (λ (b : ℕ). take at text ++ b ∷ []) (sym (get_or-take upto text at 0 before))

pub newline_place : (text : List ℕ) (upto at l c : ℕ) → upto ≤ length text → at < length (take upto text) → get_or (take upto text) at 0 ≡ 10 → IsPlace text at l c → IsPlace text (at + 1) (l + 1) 1
newline_place text upto at l c within inside ten place =
    let more = byte_more text upto at within inside in
    let count : length (newlines ((place.lines ++ place.front) ++ 10 ∷ [])) ≡ length (newlines place.lines) + 1 =
    ap (λ (x : List ℕ). length x) (filter-append (λ b. b == 10) (place.lines ++ place.front) (10 ∷ []))
    ∙ length-append (newlines (place.lines ++ place.front)) (10 ∷ [])
    ∙ ap (λ (x : List ℕ). length x + 1) (filter-append (λ b. b == 10) place.lines place.front ∙ ap (λ (x : List ℕ). newlines place.lines ++ x) (no_newlines place.front place.in_line) ∙ append-nil (newlines place.lines)) in
    record {
      lines = (place.lines ++ place.front) ++ 10 ∷ [];
      front = [];
      before = more ∙ ap (λ (x : ℕ). take at text ++ x ∷ []) ten ∙ ap (λ (x : List ℕ). x ++ 10 ∷ []) place.before ∙ sym (append-nil ((place.lines ++ place.front) ++ 10 ∷ []));
      ended = inr (place.lines ++ place.front, refl);
      in_line = refl;
      line_is = omega (arith, count, place.line_is);
      column_is = refl;
    }

pub other_place : (text : List ℕ) (upto at l c : ℕ) → upto ≤ length text → at < length (take upto text) → (get_or (take upto text) at 0 ≡ 10 → ⊥) → IsPlace text at l c → IsPlace text (at + 1) l (c + 1)
other_place text upto at l c within inside isnt place =
    let other : (get_or (take upto text) at 0 == 10) ≡ false = elim (cases_Bool (get_or (take upto text) at 0 == 10)) [ inl same ↦ absurd (isnt (eqb-true (get_or (take upto text) at 0) 10 same)) | inr no_ten ↦ no_ten ] in
    record {
      lines = place.lines;
      front = place.front ++ get_or (take upto text) at 0 ∷ [];
      before = byte_more text upto at within inside ∙ ap (λ (x : List ℕ). x ++ get_or (take upto text) at 0 ∷ []) place.before ∙ append_assoc place.lines place.front (get_or (take upto text) at 0 ∷ []);
      ended = place.ended;
      in_line = list_all-append (λ x. not (x == 10)) place.front (get_or (take upto text) at 0 ∷ []) ∙ and_from _ _ place.in_line (and_from (not (get_or (take upto text) at 0 == 10)) true (not_from_false (get_or (take upto text) at 0 == 10) other) refl);
      line_is = place.line_is;
      column_is = omega (arith, place.column_is, length-append place.front (get_or (take upto text) at 0 ∷ []));
    }
