-- Which words say how many changes a journal holds.
use Rattle.std.proofs.Common.{◌≡◌, ℕ, ◌<◌, ◌≤◌, ◌^◌, Bool, true, false, List, length, Some, None, Result, Ok, Err, sym, ◌∙◌, ap, arith, inl, inr, le-leb, leb-true, ne_eqb}
use Rattle.std.specs.Prelude.{◌&&◌, ◌==◌, not, nat_le, if◌then◌else◌}
use Rattle.std.specs.Result.{result_ok}
use Rattle.std.specs.Str.{all_ascii_digits}
use Rattle.std.specs.Str.Parse.{AllDigits, ParsesUnsigned, digits_value, without_leading_plus}
use Rattle.std.proofs.lemmas.Bool.{and_from, and_parts, cases_Bool, eqb-false, not_from_false, true≢false}
use Rattle.std.proofs.lemmas.Str.Parse.{IsNumeralModel, numerals_by_value, tells_all_ascii_digits}
use Rattle.birdcore_top.specs.Command.{cells_in, most_cells}

model : IsNumeralModel (λ ds. all_ascii_digits ds ≡ true) (digits_value 10)
model = numerals_by_value (λ ds. all_ascii_digits ds ≡ true) tells_all_ascii_digits

-- what digits have to be, with no sign before them
spells : List ℕ → Bool
spells ds = (not (length ds == 0) && all_ascii_digits ds) && (nat_le 1 (digits_value 10 ds) && nat_le (digits_value 10 ds) most_cells)

spelt : (ds : List ℕ) → 0 < length ds → AllDigits 10 ds → 1 ≤ digits_value 10 ds → digits_value 10 ds ≤ most_cells → spells ds ≡ true
unfolding spells
spelt ds some digits least most =
    and_from _ _ (and_from _ _ (not_from_false _ (ne_eqb (length ds) 0 (λ e. omega (arith, e, some)))) (model.from ds digits)) (and_from _ _ (le-leb 1 (digits_value 10 ds) least) (le-leb (digits_value 10 ds) most_cells most))

some_of : (n : ℕ) → not (n == 0) ≡ true → 0 < n
some_of n isnt = elim (cases_Bool (n == 0)) [
  | inl none ↦ absurd (true≢false (sym isnt ∙ ap not none))
  | inr some ↦ omega (arith, eqb-false n 0 some)
]

-- what digits that are spelt so are
record IsSpelt (ds : List ℕ) : Type 0 where
  some : 0 < length ds
  digits : AllDigits 10 ds
  least : 1 ≤ digits_value 10 ds
  most : digits_value 10 ds ≤ most_cells

parts : (ds : List ℕ) → spells ds ≡ true → IsSpelt ds
unfolding spells
parts ds is =
    let both = and_parts (not (length ds == 0) && all_ascii_digits ds) (nat_le 1 (digits_value 10 ds) && nat_le (digits_value 10 ds) most_cells) is in
    let numeral = and_parts (not (length ds == 0)) (all_ascii_digits ds) both.0 in
    let sized = and_parts (nat_le 1 (digits_value 10 ds)) (nat_le (digits_value 10 ds) most_cells) both.1 in
    record {
      some = some_of (length ds) numeral.0;
      digits = model.to ds numeral.1;
      least = leb-true 1 (digits_value 10 ds) sized.0;
      most = leb-true (digits_value 10 ds) most_cells sized.1;
    }

no_number : (ds : List ℕ) → (((0 < length ds) × AllDigits 10 ds) × (digits_value 10 ds < 2 ^ 32) → ⊥) → spells ds ≡ false
no_number ds none = elim (cases_Bool (spells ds)) [
  | inl is ↦ let p = parts ds is in absurd (none ((p.some, p.digits), omega (arith, p.most)))
  | inr isnt ↦ isnt
]

cells_by : (word : List ℕ) (b : Bool) → spells (without_leading_plus word) ≡ b → cells_in word ≡ (if b then Some (digits_value 10 (without_leading_plus word)) else None)
unfolding spells
cells_by word b is = ap (λ (x : Bool). if x then Some (digits_value 10 (without_leading_plus word)) else None) is

module _ {E : Type 0} (word : List ℕ) where
  -- it isn't a number of 32 bits
  pub not_cells : (r : Result ℕ E) → ParsesUnsigned 32 10 word r → result_ok r ≡ None → None ≡ cells_in word
  not_cells (Ok n) parses none = absurd (cc)
  not_cells (Err e) parses none = sym (cells_by word false (no_number (without_leading_plus word) parses))

  -- it is this one
  pub cells_read : (r : Result ℕ E) (n : ℕ) → ParsesUnsigned 32 10 word r → result_ok r ≡ Some n → 1 ≤ n → n ≤ most_cells → Some n ≡ cells_in word
  cells_read (Err e) n parses some least most = absurd (cc)
  cells_read (Ok m) n parses some least most =
      let same : m ≡ n = cc in
      let value : n ≡ digits_value 10 (without_leading_plus word) = sym same ∙ parses.1 in
      ap (λ (v : ℕ). Some v) value
      ∙ sym (cells_by word true (spelt (without_leading_plus word) parses.0.0.0 parses.0.0.1 (omega (arith, value, least)) (omega (arith, value, most))))

  -- it is this one, which is too small or too large
  pub cells_outside : (r : Result ℕ E) (n : ℕ) → ParsesUnsigned 32 10 word r → result_ok r ≡ Some n → (1 ≤ n → n ≤ most_cells → ⊥) → None ≡ cells_in word
  cells_outside (Err e) n parses some out = absurd (cc)
  cells_outside (Ok m) n parses some out = elim (cases_Bool (spells (without_leading_plus word))) [
    | inl is ↦
        let p = parts (without_leading_plus word) is in
        let same : m ≡ n = cc in
        absurd (out (omega (arith, p.least, same, parses.1)) (omega (arith, p.most, same, parses.1)))
    | inr isnt ↦ sym (cells_by word false isnt)
  ]
