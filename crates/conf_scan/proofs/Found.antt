-- The front that the lexer computes is of a sort.
use Rattle.std.proofs.Common.{◌≡◌, ℕ, suc, zero, ◌+◌, ◌<◌, Bool, true, ◌&&◌, ◌==◌, nat_le, List, [], ◌∷◌, ◌++◌, length, drop, Some, refl, sym, ◌∙◌, ap, arith, append_assoc}
use Rattle.std.specs.Char.{is_ascii_digit, is_ascii_hexdigit}
use Rattle.std.specs.List.{prefix_len, take_while}
use Rattle.std.specs.Option.{option_map}
use Rattle.std.proofs.lemmas.Bool.{and_parts, leb-true}
use Rattle.std.proofs.lemmas.Bool.Decides.{nat_tests}
use Rattle.std.proofs.lemmas.List.{length-append}
use Rattle.std.proofs.lemmas.List.Folds.{length-prefix_len}
use Rattle.std.proofs.lemmas.Option.{option_and_then_some}
use Rattle.conf_scan.specs.declared.scan.Lexeme.{Lexeme}
use Rattle.conf_scan.specs.declared.scan.Lexeme.TheVariants as lexemes
use Rattle.conf_scan.specs.Shapes.{is_letter, is_name_byte, is_quoted_byte, is_text_byte, first_passes, IsDigits, IsDotted, IsShape}
use Rattle.conf_scan.specs.Fronts.{quote_len, text_len, dot_len, dotted_len, front}
use Rattle.conf_scan.proofs.Runs.{run_whole, run_passes, len_yes, first_is, if_some, map_some}

-- a front of the text that is of the sort, and its length
pub record Found (sort : Lexeme) (text : List ℕ) (n : ℕ) : Type 0 where
  pub slice : List ℕ
  pub rest : List ℕ
  pub whole : text ≡ slice ++ rest
  pub len : n ≡ length slice
  pub shape : IsShape sort slice rest

letter_is_name_byte : (b : ℕ) → is_letter b ≡ true → is_name_byte b ≡ true
letter_is_name_byte b is = grind (arith, nat_tests)

pub found_word : (b : ℕ) (bytes : List ℕ) → is_letter b ≡ true → Found lexemes.Word (b ∷ bytes) (prefix_len is_name_byte (b ∷ bytes))
found_word b bytes letter =
    let name = letter_is_name_byte b letter in
    let len = length-prefix_len is_name_byte bytes in
    record {
      slice = b ∷ take_while is_name_byte bytes;
      rest = drop (prefix_len is_name_byte bytes) bytes;
      whole = ap (λ (l : List ℕ). b ∷ l) (run_whole is_name_byte bytes);
      len = omega (arith, len_yes is_name_byte b bytes name, len);
      shape = (letter, run_passes is_name_byte bytes);
    }

pub found_digits : (text : List ℕ) → 0 < prefix_len is_ascii_digit text → Found lexemes.Decimal text (prefix_len is_ascii_digit text)
found_digits text some =
    let len = length-prefix_len is_ascii_digit text in
    record {
      slice = take_while is_ascii_digit text;
      rest = drop (prefix_len is_ascii_digit text) text;
      whole = run_whole is_ascii_digit text;
      len = sym len;
      shape = (omega (arith, some, len), run_passes is_ascii_digit text);
    }

pub found_hexadecimal : (bytes : List ℕ) → Found lexemes.Hexadecimal (48 ∷ 120 ∷ bytes) (prefix_len is_ascii_hexdigit bytes + 2)
found_hexadecimal bytes =
    let len = length-prefix_len is_ascii_hexdigit bytes in
    record {
      slice = 48 ∷ 120 ∷ take_while is_ascii_hexdigit bytes;
      rest = drop (prefix_len is_ascii_hexdigit bytes) bytes;
      whole = ap (λ (l : List ℕ). 48 ∷ 120 ∷ l) (run_whole is_ascii_hexdigit bytes);
      len = omega (arith, len);
      shape = record { digits = take_while is_ascii_hexdigit bytes; whole = refl; bytes = run_passes is_ascii_hexdigit bytes };
    }

-- a run that passes, with one mark before and behind it
enclosed : (p : ℕ → Bool) (mark : ℕ) (bytes rest : List ℕ) → drop (prefix_len p bytes) bytes ≡ mark ∷ rest → mark ∷ bytes ≡ (mark ∷ take_while p bytes ++ mark ∷ []) ++ rest
enclosed p mark bytes rest behind =
    ap (λ (l : List ℕ). mark ∷ l) (run_whole p bytes ∙ ap (λ (l : List ℕ). take_while p bytes ++ l) behind ∙ sym (append_assoc (take_while p bytes) (mark ∷ []) rest))

enclosed_len : (p : ℕ → Bool) (mark : ℕ) (bytes : List ℕ) → prefix_len p bytes + 2 ≡ length (mark ∷ take_while p bytes ++ mark ∷ [])
enclosed_len p mark bytes = omega (arith, length-append (take_while p bytes) (mark ∷ []), length-prefix_len p bytes)

pub found_quote : (bytes : List ℕ) (n : ℕ) → quote_len bytes ≡ Some n → Found lexemes.QuotedName (39 ∷ bytes) n
found_quote bytes n is =
    let tests = if_some (nat_le 1 (prefix_len is_quoted_byte bytes) && first_passes (λ c. c == 39) (drop (prefix_len is_quoted_byte bytes) bytes)) (prefix_len is_quoted_byte bytes + 2) n is in
    let parts = and_parts (nat_le 1 (prefix_len is_quoted_byte bytes)) _ tests.0 in
    let behind = first_is 39 (drop (prefix_len is_quoted_byte bytes) bytes) parts.1 in
    record {
      slice = 39 ∷ take_while is_quoted_byte bytes ++ 39 ∷ [];
      rest = behind.0;
      whole = enclosed is_quoted_byte 39 bytes behind.0 behind.1;
      len = sym tests.1 ∙ enclosed_len is_quoted_byte 39 bytes;
      shape = record {
        name = take_while is_quoted_byte bytes;
        whole = refl;
        some = omega (arith, leb-true 1 (prefix_len is_quoted_byte bytes) parts.0, length-prefix_len is_quoted_byte bytes);
        bytes = run_passes is_quoted_byte bytes;
      };
    }

pub found_text : (bytes : List ℕ) (n : ℕ) → text_len bytes ≡ Some n → Found lexemes.Text (34 ∷ bytes) n
found_text bytes n is =
    let tests = if_some (first_passes (λ c. c == 34) (drop (prefix_len is_text_byte bytes) bytes)) (prefix_len is_text_byte bytes + 2) n is in
    let behind = first_is 34 (drop (prefix_len is_text_byte bytes) bytes) tests.0 in
    record {
      slice = 34 ∷ take_while is_text_byte bytes ++ 34 ∷ [];
      rest = behind.0;
      whole = enclosed is_text_byte 34 bytes behind.0 behind.1;
      len = sym tests.1 ∙ enclosed_len is_text_byte 34 bytes;
      shape = record { text = take_while is_text_byte bytes; whole = refl; bytes = run_passes is_text_byte bytes };
    }

pub drop_front : (text front : List ℕ) (mark : ℕ) (rest : List ℕ) (n : ℕ) → text ≡ front ++ mark ∷ rest → n ≡ length front + 1 → drop n text ≡ rest
drop_front text [] mark rest n whole len =
    ap (λ (l : List ℕ). drop n l) whole ∙ ap (λ (m : ℕ). drop m (mark ∷ rest)) (let one : n ≡ 1 = omega arith in one)
drop_front text (x ∷ front) mark rest n whole len =
    ap (λ (l : List ℕ). drop n l) whole ∙ ap (λ (m : ℕ). drop m (x ∷ (front ++ mark ∷ rest))) (let more : n ≡ suc (length front + 1) = omega arith in more)
    ∙ drop_front (front ++ mark ∷ rest) front mark rest (length front + 1) refl refl

-- a number and the dot behind it
pub record FoundDot (text : List ℕ) (n : ℕ) : Type 0 where
  pub number : List ℕ
  pub rest : List ℕ
  pub whole : text ≡ number ++ 46 ∷ rest
  pub len : n ≡ length number + 1
  pub digits : IsDigits number
  pub behind : drop n text ≡ rest

pub found_dot : (text : List ℕ) (n : ℕ) → dot_len text ≡ Some n → FoundDot text n
found_dot text n is =
    let m = prefix_len is_ascii_digit text in
    let tests = if_some (nat_le 1 (prefix_len is_ascii_digit text) && first_passes (λ c. c == 46) (drop (prefix_len is_ascii_digit text) text)) (prefix_len is_ascii_digit text + 1) n is in
    let parts = and_parts (nat_le 1 (prefix_len is_ascii_digit text)) _ tests.0 in
    let behind = first_is 46 (drop (prefix_len is_ascii_digit text) text) parts.1 in
    let len = length-prefix_len is_ascii_digit text in
    let whole : text ≡ take_while is_ascii_digit text ++ 46 ∷ behind.0 = run_whole is_ascii_digit text ∙ ap (λ (l : List ℕ). take_while is_ascii_digit text ++ l) behind.1 in
    record {
      number = take_while is_ascii_digit text;
      rest = behind.0;
      whole = whole;
      len = sym tests.1 ∙ omega (arith, len);
      digits = (omega (arith, leb-true 1 (prefix_len is_ascii_digit text) parts.0, len), run_passes is_ascii_digit text);
      behind = drop_front text (take_while is_ascii_digit text) 46 behind.0 n whole (sym tests.1 ∙ omega (arith, len));
    }

pub found_dotted : (k : ℕ) (text : List ℕ) (n : ℕ) → dotted_len k text ≡ Some n → (slice rest : List ℕ) × (text ≡ slice ++ rest) × (n ≡ length slice) × IsDotted k slice
found_dotted zero text n is =
    let tests = if_some (nat_le 1 (prefix_len is_ascii_digit text)) (prefix_len is_ascii_digit text) n is in
    let found = found_digits text (leb-true 1 (prefix_len is_ascii_digit text) tests.0) in
    (found.slice, found.rest, found.whole, sym tests.1 ∙ found.len, found.shape)
found_dotted (suc k) text n is =
    option_and_then_some {P = (slice rest : List ℕ) × (text ≡ slice ++ rest) × (n ≡ length slice) × IsDotted (suc k) slice} (λ m. option_map (λ i. m + i) (dotted_len k (drop m text))) (dot_len text) n is (λ m first more.
    let dot = found_dot text m first in
    let after = map_some (λ i. m + i) (dotted_len k (drop m text)) n more in
    let rest = found_dotted k (drop m text) after.0 after.1 in
    let whole : text ≡ dot.number ++ 46 ∷ (rest.0 ++ rest.1) = dot.whole ∙ ap (λ (l : List ℕ). dot.number ++ 46 ∷ l) (sym dot.behind ∙ rest.2) in (
      dot.number ++ 46 ∷ rest.0,
      rest.1,
      whole ∙ sym (append_assoc dot.number (46 ∷ rest.0) rest.1),
      omega (arith, after.2, dot.len, rest.3, length-append dot.number (46 ∷ rest.0)),
      (dot.number, rest.0, dot.digits, refl, rest.4),
    ))
