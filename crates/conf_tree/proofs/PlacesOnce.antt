-- A place of a text has one line and one column.
use Rattle.std.proofs.Common.{◌≡◌, ℕ, ◌+◌, Bool, cond, not, ◌==◌, List, [], ◌∷◌, ◌++◌, length, take, refl, sym, ◌∙◌, ap, arith, inl, inr, append_assoc}
use Rattle.std.specs.List.{list_all}
use Rattle.std.proofs.lemmas.Bool.{cases_Bool, and_parts, not-true}
use Rattle.std.proofs.lemmas.List.{append-nil}
use Rattle.std.proofs.lemmas.List.Elements.{filter-append}
use Rattle.conf_tree.specs.Position.{IsPlace}
use Rattle.conf_tree.proofs.PlaceSteps.{newlines, NoNewline, no_newlines}

-- the column behind bytes, where the first of them has this one
behind_column : ℕ → List ℕ → ℕ
behind_column c [] = c
behind_column c (b ∷ bs) = cond (b == 10) (behind_column 1 bs) (behind_column (c + 1) bs)

column_front : (c : ℕ) (front : List ℕ) → NoNewline front → behind_column c front ≡ c + length front
unfolding behind_column
column_front c [] none = omega arith
column_front c (b ∷ bs) none =
    let parts = and_parts (not (b == 10)) (list_all (λ d. not (d == 10)) bs) none in
    ap (λ (t : Bool). cond t (behind_column 1 bs) (behind_column (c + 1) bs)) (not-true (b == 10) parts.0) ∙ omega (arith, column_front (c + 1) bs parts.1)

column_line : (c : ℕ) (bytes front : List ℕ) → behind_column c (bytes ++ 10 ∷ front) ≡ behind_column 1 front
unfolding behind_column
column_line c [] front = refl
column_line c (b ∷ bs) front = elim (cases_Bool (b == 10)) [
  | inl is ↦ ap (λ (t : Bool). cond t (behind_column 1 (bs ++ 10 ∷ front)) (behind_column (c + 1) (bs ++ 10 ∷ front))) is ∙ column_line 1 bs front
  | inr isnt ↦ ap (λ (t : Bool). cond t (behind_column 1 (bs ++ 10 ∷ front)) (behind_column (c + 1) (bs ++ 10 ∷ front))) isnt ∙ column_line (c + 1) bs front
]

column_of : (text : List ℕ) (at l c : ℕ) → IsPlace text at l c → c ≡ behind_column 1 (take at text)
column_of text at l c place =
    let alone : behind_column 1 place.front ≡ c = omega (arith, column_front 1 place.front place.in_line, place.column_is) in
    elim place.ended [
      | inl none ↦ sym (ap (behind_column 1) (place.before ∙ ap (λ (x : List ℕ). x ++ place.front) none) ∙ alone)
      | inr ended ↦ sym (ap (behind_column 1) (place.before ∙ ap (λ (x : List ℕ). x ++ place.front) ended.1 ∙ append_assoc ended.0 (10 ∷ []) place.front) ∙ column_line 1 ended.0 place.front ∙ alone)
    ]

line_of : (text : List ℕ) (at l c : ℕ) → IsPlace text at l c → l ≡ length (newlines (take at text)) + 1
line_of text at l c place =
    let all : newlines (take at text) ≡ newlines place.lines =
    ap newlines place.before ∙ filter-append (λ b. b == 10) place.lines place.front ∙ ap (λ (x : List ℕ). newlines place.lines ++ x) (no_newlines place.front place.in_line) ∙ append-nil (newlines place.lines) in
    omega (arith, place.line_is, ap (λ (x : List ℕ). length x) all)

pub one_place : (text : List ℕ) (at l m c d : ℕ) → IsPlace text at l c → IsPlace text at m d → (l ≡ m) × (c ≡ d)
one_place text at l m c d one other = (line_of text at l c one ∙ sym (line_of text at m d other), column_of text at l c one ∙ sym (column_of text at m d other))
