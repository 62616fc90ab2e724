-- The computed front is the token that begins a text.
use Rattle.std.proofs.Common.{◌≡◌, ℕ, ◌+◌, ◌<◌, ◌≤◌, Bool, true, false, cond, not, ◌||◌, ◌==◌, nat_le, List, [], ◌∷◌, ◌++◌, length, take, drop, Option, Some, None, refl, sym, ◌∙◌, ap, subst, arith, inl, inr, ◌⊎◌}
use Rattle.std.specs.Prelude.{count_by, codes}
use Rattle.std.specs.Char.{is_ascii_digit, is_ascii_hexdigit}
use Rattle.std.specs.List.{prefix_len, take_while}
use Rattle.std.specs.Option.{option_map}
use Rattle.std.proofs.lemmas.Bool.{cases_Bool, and_parts, leb-true, eqb-true, not-true, false≢true}
use Rattle.std.proofs.lemmas.Bool.Decides.{nat_tests}
use Rattle.std.proofs.lemmas.List.{take-append-drop, length-append, length-take}
use Rattle.std.proofs.lemmas.List.Folds.{length-prefix_len}
use Rattle.conf_scan.specs.declared.scan.Lexeme.{Lexeme}
use Rattle.conf_scan.specs.declared.scan.Lexeme.TheVariants as lexemes
use Rattle.conf_scan.specs.Shapes.{is_letter, is_name_byte, is_colons_byte, is_sign, first_passes, IsShape, IsToken}
use Rattle.conf_scan.specs.Fronts.{quote_len, text_len, dotted_len, begins_hexadecimal, dotted_or_number, has_sign, begins_comment, sign_len, begins_colons, plain_front, front}
use Rattle.conf_scan.proofs.Runs.{run_whole, run_passes, run_stops, len_yes, first_is}
use Rattle.conf_scan.proofs.Found.{Found, found_word, found_digits, found_hexadecimal, found_quote, found_text, found_dotted}
use Rattle.conf_scan.proofs.Reached.{Reaches, reaches, take_length, drop_length}

-- signs

slash_behind : (rest : List ℕ) → begins_comment (47 ∷ rest) ≡ false → first_passes (λ b. b == 42) rest ≡ false
slash_behind rest plain = plain

slash_alone : (text : List ℕ) (n : ℕ) → begins_comment text ≡ false → take n text ≡ codes "/" → first_passes (λ b. b == 42) (drop n text) ≡ false
slash_alone text n plain slash =
    let whole : text ≡ 47 ∷ drop n text = sym (take-append-drop n text) ∙ ap (λ (l : List ℕ). l ++ drop n text) slash in
    slash_behind (drop n text) (ap begins_comment (sym whole) ∙ plain)

found_sign : (text : List ℕ) (n : ℕ) → begins_comment text ≡ false → has_sign n text ≡ true → Found lexemes.Punctuation text n
found_sign text n plain has =
    let parts = and_parts (nat_le n (length text)) (is_sign (take n text)) has in
    let within = leb-true n (length text) parts.0 in
    record {
      slice = take n text;
      rest = drop n text;
      whole = sym (take-append-drop n text);
      len = omega (arith, within, length-take n text);
      shape = (parts.1, λ slash. slash_alone text n plain slash);
    }

sign_len_cases : (comment seven two one : Bool) (n : ℕ) → cond comment None (cond seven (Some 7) (cond two (Some 2) (cond one (Some 1) None))) ≡ Some n
    → (comment ≡ false) × (((n ≡ 7) × (seven ≡ true)) ⊎ (((n ≡ 2) × (two ≡ true)) ⊎ ((n ≡ 1) × (one ≡ true))))
sign_len_cases true seven two one n e = absurd (cc)
sign_len_cases false true two one n e = (refl, inl (cc, refl))
sign_len_cases false false true one n e = (refl, inr (inl (cc, refl)))
sign_len_cases false false false true n e = (refl, inr (inr (cc, refl)))
sign_len_cases false false false false n e = absurd (cc)

found_mark : (text : List ℕ) (n : ℕ) → sign_len text ≡ Some n → Found lexemes.Punctuation text n
found_mark text n is =
    let cases = sign_len_cases (begins_comment text) (has_sign 7 text) (has_sign 2 text) (has_sign 1 text) n is in
    let P : ℕ → Type 0 = λ m. Found lexemes.Punctuation text m in
    elim cases.1 [
      | inl seven ↦ subst P (sym seven.0) (found_sign text 7 cases.0 seven.1)
      | inr (inl two) ↦ subst P (sym two.0) (found_sign text 2 cases.0 two.1)
      | inr (inr one) ↦ subst P (sym one.0) (found_sign text 1 cases.0 one.1)
    ]

-- IPv6 addresses

goes_on_none : (b : ℕ) → is_name_byte b ≡ false → is_colons_byte b ≡ false → (is_name_byte b || (b == 58)) ≡ false
goes_on_none b name colons = grind (arith, nat_tests)

goes_on_first : (rest : List ℕ) → first_passes is_name_byte rest ≡ false → first_passes is_colons_byte rest ≡ false → first_passes (λ b. is_name_byte b || (b == 58)) rest ≡ false
goes_on_first [] name colons = refl
goes_on_first (b ∷ rest) name colons = goes_on_none b name colons

found_colons : (text : List ℕ) → begins_colons text ≡ true → Found lexemes.Ipv6 text (prefix_len is_colons_byte text)
found_colons text is =
    let parts = and_parts (nat_le 2 (count_by (λ b. b == 58) (take_while is_colons_byte text))) (not (first_passes is_name_byte (drop (prefix_len is_colons_byte text) text))) is in
    record {
      slice = take_while is_colons_byte text;
      rest = drop (prefix_len is_colons_byte text) text;
      whole = run_whole is_colons_byte text;
      len = sym (length-prefix_len is_colons_byte text);
      shape = record {
        bytes = run_passes is_colons_byte text;
        colons = leb-true 2 _ parts.0;
        longest = goes_on_first (drop (prefix_len is_colons_byte text) text) (not-true _ parts.1) (run_stops is_colons_byte text);
      };
    }

-- numbers

some_digit : (b : ℕ) (bytes : List ℕ) → is_ascii_digit b ≡ true → 0 < prefix_len is_ascii_digit (b ∷ bytes)
some_digit b bytes digit = omega (arith, len_yes is_ascii_digit b bytes digit)

found_hex_at : (text : List ℕ) → begins_hexadecimal text ≡ true → Found lexemes.Hexadecimal text (prefix_len is_ascii_hexdigit (drop 2 text) + 2)
found_hex_at [] is = absurd (false≢true is)
found_hex_at (b ∷ bytes) is =
    let parts = and_parts (b == 48) (first_passes (λ c. c == 120) bytes) is in
    let rest = first_is 120 bytes parts.1 in
    let whole : b ∷ bytes ≡ 48 ∷ 120 ∷ rest.0 = ap (λ (n : ℕ). n ∷ bytes) (eqb-true b 48 parts.0) ∙ ap (λ (l : List ℕ). 48 ∷ l) rest.1 in
    let P : List ℕ → Type 0 = λ l. Found lexemes.Hexadecimal l (prefix_len is_ascii_hexdigit (drop 2 l) + 2) in
    subst P (sym whole) (found_hexadecimal rest.0)

found_number : (text : List ℕ) (o : Option ℕ) → o ≡ dotted_len 3 text → 0 < prefix_len is_ascii_digit text → Found (dotted_or_number o text).0 text (dotted_or_number o text).1
found_number text (Some n) is some =
    let found = found_dotted 3 text n (sym is) in
    record { slice = found.0; rest = found.1; whole = found.2; len = found.3; shape = found.4 }
found_number text None is some = elim (cases_Bool (begins_hexadecimal text)) [
  | inl hex ↦
      let P : Lexeme × ℕ → Type 0 = λ f. Found f.0 text f.1 in
      subst P (sym (ap (λ (t : Bool). cond t (lexemes.Hexadecimal, prefix_len is_ascii_hexdigit (drop 2 text) + 2) (lexemes.Decimal, prefix_len is_ascii_digit text)) hex)) (found_hex_at text hex)
  | inr other ↦
      let P : Lexeme × ℕ → Type 0 = λ f. Found f.0 text f.1 in
      subst P (sym (ap (λ (t : Bool). cond t (lexemes.Hexadecimal, prefix_len is_ascii_hexdigit (drop 2 text) + 2) (lexemes.Decimal, prefix_len is_ascii_digit text)) other)) (found_digits text some)
]

-- what an option holds is found
abbrev AllFound : List ℕ → Option (Lexeme × ℕ) → Type 0
AllFound text None = Unit {0}
AllFound text (Some found) = Found found.0 text found.1

all_found_map : (text : List ℕ) (sort : Lexeme) (o : Option ℕ) → ((n : ℕ) → o ≡ Some n → Found sort text n) → AllFound text (option_map (λ n. (sort, n)) o)
all_found_map text sort None found = tt
all_found_map text sort (Some n) found = found n refl

all_found_if : (text : List ℕ) (t : Bool) (o p : Option (Lexeme × ℕ)) → (t ≡ true → AllFound text o) → (t ≡ false → AllFound text p) → AllFound text (cond t o p)
all_found_if text true o p one other = one refl
all_found_if text false o p one other = other refl

quote_at : (b : ℕ) (bytes : List ℕ) (n : ℕ) → (b == 39) ≡ true → quote_len bytes ≡ Some n → Found lexemes.QuotedName (b ∷ bytes) n
quote_at b bytes n is len = let P : ℕ → Type 0 = λ c. Found lexemes.QuotedName (c ∷ bytes) n in subst P (sym (eqb-true b 39 is)) (found_quote bytes n len)

text_at : (b : ℕ) (bytes : List ℕ) (n : ℕ) → (b == 34) ≡ true → text_len bytes ≡ Some n → Found lexemes.Text (b ∷ bytes) n
text_at b bytes n is len = let P : ℕ → Type 0 = λ c. Found lexemes.Text (c ∷ bytes) n in subst P (sym (eqb-true b 34 is)) (found_text bytes n len)

plain_found : (text : List ℕ) → AllFound text (plain_front text)
plain_found [] = tt
plain_found (b ∷ bytes) =
    all_found_if (b ∷ bytes) (is_letter b) _ _ (λ is. found_word b bytes is)
    (λ other. all_found_if (b ∷ bytes) (is_ascii_digit b) _ _ (λ is. found_number (b ∷ bytes) (dotted_len 3 (b ∷ bytes)) refl (some_digit b bytes is))
    (λ next. all_found_if (b ∷ bytes) (b == 39) _ _ (λ is. all_found_map (b ∷ bytes) lexemes.QuotedName (quote_len bytes) (λ n len. quote_at b bytes n is len))
    (λ third. all_found_if (b ∷ bytes) (b == 34) _ _ (λ is. all_found_map (b ∷ bytes) lexemes.Text (text_len bytes) (λ n len. text_at b bytes n is len))
    (λ last. all_found_map (b ∷ bytes) lexemes.Punctuation (sign_len (b ∷ bytes)) (λ n len. found_mark (b ∷ bytes) n len)))))

front_found : (text : List ℕ) → AllFound text (front text)
front_found text = all_found_if text (begins_colons text) _ _ (λ is. found_colons text is) (λ other. plain_found text)

-- the theorem, both ways

pub shape_some : (sort : Lexeme) (slice rest : List ℕ) → IsShape sort slice rest → 0 < length slice
shape_some lexemes.Word [] rest is = absurd is
shape_some lexemes.Word (b ∷ bytes) rest is = omega arith
shape_some lexemes.QuotedName slice rest is = omega (arith, ap (λ (l : List ℕ). length l) is.whole)
shape_some lexemes.Decimal slice rest is = is.0
shape_some lexemes.Hexadecimal slice rest is = omega (arith, ap (λ (l : List ℕ). length l) is.whole)
shape_some lexemes.Ipv4 slice rest is = omega (arith, ap (λ (l : List ℕ). length l) is.3, length-append is.0 (46 ∷ is.1))
shape_some lexemes.Ipv6 [] rest is = absurd (omega (arith, is.colons))
shape_some lexemes.Ipv6 (b ∷ bytes) rest is = omega arith
shape_some lexemes.Text slice rest is = omega (arith, ap (λ (l : List ℕ). length l) is.whole)
shape_some lexemes.Punctuation [] rest is = absurd (false≢true is.0)
shape_some lexemes.Punctuation (b ∷ bytes) rest is = omega arith

found_as : (text : List ℕ) (o : Option (Lexeme × ℕ)) (sort : Lexeme) (n : ℕ) → o ≡ Some (sort, n) → AllFound text o → Found sort text n
found_as text o sort n e all = let P : Option (Lexeme × ℕ) → Type 0 = λ p. AllFound text p in subst P e all

reaches_as : (k n : ℕ) (other sort : Lexeme) (o : Option (Lexeme × ℕ)) → o ≡ Some (sort, n) → Reaches other k o → (k ≤ n) × (k ≡ n → other ≡ sort)
reaches_as k n other sort o e all = let P : Option (Lexeme × ℕ) → Type 0 = λ p. Reaches other k p in subst P e all

-- how long other fronts of the text are
longest_front : (text : List ℕ) (sort : Lexeme) (n : ℕ) → front text ≡ Some (sort, n) → (other : Lexeme) (slice rest : List ℕ) → text ≡ slice ++ rest → IsShape other slice rest → (length slice ≤ n) × (length slice ≡ n → other ≡ sort)
longest_front text sort n is other slice rest whole shape = reaches_as (length slice) n other sort (front (slice ++ rest)) (ap front (sym whole) ∙ is) (reaches other slice rest shape)

pub front_token : (text : List ℕ) (sort : Lexeme) (n : ℕ) → front text ≡ Some (sort, n) → (0 < n) × (n ≤ length text) × IsToken text sort (take n text) (drop n text)
front_token text sort n is =
    let found = found_as text (front text) sort n is (front_found text) in
    let taken : take n text ≡ found.slice = ap (λ (m : ℕ). take m text) found.len ∙ ap (λ (l : List ℕ). take (length found.slice) l) found.whole ∙ take_length found.slice found.rest in
    let behind : drop n text ≡ found.rest = ap (λ (m : ℕ). drop m text) found.len ∙ ap (λ (l : List ℕ). drop (length found.slice) l) found.whole ∙ drop_length found.slice found.rest in
    let some = shape_some sort found.slice found.rest found.shape in
    let len = ap (λ (l : List ℕ). length l) found.whole in
    let P : List ℕ → Type 0 = λ l. IsShape sort l (drop n text) in
    let Q : List ℕ → Type 0 = λ l. IsShape sort found.slice l in (
      omega (arith, some, found.len),
      omega (arith, len, found.len, length-append found.slice found.rest),
      record {
        whole = sym (take-append-drop n text);
        shape = subst P (sym taken) (subst Q (sym behind) found.shape);
        longest = λ other front back whole shape. omega (arith, (longest_front text sort n is other front back whole shape).0, ap (λ (l : List ℕ). length l) taken, found.len);
      },
    )

pub no_front : {A : Type 0} (sort : Lexeme) (k : ℕ) (o : Option (Lexeme × ℕ)) → o ≡ None → Reaches sort k o → A
no_front sort k o none reaches = let P : Option (Lexeme × ℕ) → Type 0 = λ p. Reaches sort k p in absurd (subst P none reaches)

pub no_token : (text : List ℕ) → front text ≡ None → (sort : Lexeme) (slice rest : List ℕ) → IsToken text sort slice rest → ⊥
no_token text none sort slice rest token = no_front sort (length slice) (front (slice ++ rest)) (ap front (sym token.whole) ∙ none) (reaches sort slice rest token.shape)

-- a text has one token at its front
pub one_token : (text : List ℕ) (sort : Lexeme) (n : ℕ) → front text ≡ Some (sort, n) → (other : Lexeme) (slice rest : List ℕ) → IsToken text other slice rest → (other ≡ sort) × (slice ≡ take n text) × (rest ≡ drop n text)
one_token text sort n is other slice rest token =
    let mine = front_token text sort n is in
    let reach = longest_front text sort n is other slice rest token.whole token.shape in
    let back = token.longest sort (take n text) (drop n text) mine.2.whole mine.2.shape in
    let len : length slice ≡ n = omega (arith, reach.0, back, length-take n text, mine.1) in
    let taken : take n text ≡ slice = ap (λ (m : ℕ). take m text) (sym len) ∙ ap (λ (l : List ℕ). take (length slice) l) token.whole ∙ take_length slice rest in
    let behind : drop n text ≡ rest = ap (λ (m : ℕ). drop m text) (sym len) ∙ ap (λ (l : List ℕ). drop (length slice) l) token.whole ∙ drop_length slice rest in
    (reach.1 len, sym taken, sym behind)
