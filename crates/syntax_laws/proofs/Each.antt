-- Each text has tokens, or a place where they stop.
use Rattle.std.proofs.Common.{◌≡◌, ℕ, suc, zero, ◌+◌, ◌<◌, ◌≤◌, List, [], ◌∷◌, length, take, drop, Option, Some, None, refl, arith, inl, inr, ◌⊎◌}
use Rattle.std.proofs.lemmas.List.{length-drop}
use Rattle.bits_ip.specs.declared.address.Addr.TheVariants.{V4, V6}
use Rattle.conf_scan.specs.declared.scan.Lexeme.{Lexeme}
use Rattle.conf_scan.specs.declared.scan.Lexeme.TheVariants as lexemes
use Rattle.conf_scan.specs.declared.token.Token.{Token}
use Rattle.conf_scan.specs.declared.token.TokenKind.{TokenKind}
use Rattle.conf_scan.specs.declared.token.TokenKind.TheVariants as kinds
use Rattle.conf_scan.specs.Shapes.{IsShape, IsHexadecimal, IsValue, IsGap}
use Rattle.conf_scan.specs.Fronts.{front, separator_len, Tells}
use Rattle.conf_scan.specs.Lex.{Lexes, Stops, HasNoSeparator, HasNoToken}
use Rattle.conf_scan.proofs.Between.{separator_found, separator_none, gap_more, gap_none}
use Rattle.conf_scan.proofs.Numbers.{hex_number, hex_spelled}
use Rattle.conf_scan.proofs.Readings.{by_sort, decimal_kind, hexadecimal_kind, dotted_kind, colons_kind, no_tokens, no_value, tells, next_lexes, next_stops, gap_ends, gap_stops}
use Rattle.conf_scan.proofs.Tokens.{front_token}
use Rattle.syntax_laws.proofs.Told.{Found, told_less, found_number, found_v4, found_v6}

-- what a token says

decimal_found : (slice : List ℕ) → Found (IsValue lexemes.Decimal slice)
decimal_found slice = elim (found_number 10 slice) [
  | inl is ↦ inl (kinds.Number is.0, is.1)
  | inr none ↦ inr (λ kind is. let spelled = decimal_kind slice kind is in none spelled.0 spelled.2)
]

hexadecimal_found : (slice : List ℕ) → IsHexadecimal slice → Found (IsValue lexemes.Hexadecimal slice)
hexadecimal_found slice hex = elim (found_number 16 (drop 2 slice)) [
  | inl is ↦ inl (kinds.Number is.0, hex_number slice is.0 hex is.1)
  | inr none ↦ inr (λ kind is. let spelled = hexadecimal_kind slice kind is in none spelled.0 (hex_spelled slice spelled.0 spelled.2))
]

dotted_found : (slice : List ℕ) → Found (IsValue lexemes.Ipv4 slice)
dotted_found slice = elim (found_v4 slice) [
  | inl is ↦ inl (kinds.Ip (V4 is.0), is.1)
  | inr none ↦ inr (λ kind is. let spelled = dotted_kind slice kind is in none spelled.0 spelled.2)
]

colons_found : (slice : List ℕ) → Found (IsValue lexemes.Ipv6 slice)
colons_found slice = elim (found_v6 slice) [
  | inl is ↦ inl (kinds.Ip (V6 is.0), is.1)
  | inr none ↦ inr (λ kind is. let spelled = colons_kind slice kind is in none spelled.0 spelled.2)
]

value_found : (sort : Lexeme) (slice rest : List ℕ) → IsShape sort slice rest → Found (IsValue sort slice)
value_found sort slice rest shape =
    by_sort (λ (s : Lexeme). IsShape s slice rest → Found (IsValue s slice))
    (λ h. inl (kinds.Name, tt))
    (λ h. inl (kinds.QuotedName, tt))
    (λ h. decimal_found slice)
    (λ h. hexadecimal_found slice h)
    (λ h. dotted_found slice)
    (λ h. colons_found slice)
    (λ h. inl (kinds.Text, tt))
    (λ h. inl (kinds.Punctuation, tt))
    sort shape

-- the token at the front

record Begins (text : List ℕ) : Type 0 where
  kind : TokenKind
  len : ℕ
  tells : Tells text kind len

token_by : (text : List ℕ) (o : Option (Lexeme × ℕ)) → front text ≡ o → Begins text ⊎ HasNoToken text
token_by text None is = inr (no_tokens text is)
token_by text (Some found) is =
    let token = front_token text found.0 found.1 is in
    elim (value_found found.0 (take found.1 text) (drop found.1 text) token.2.shape) [
      | inl value ↦ inl (record { kind = value.0; len = found.1; tells = tells text found.0 found.1 value.0 is value.1 })
      | inr none ↦ inr (no_value text found.0 found.1 is none)
    ]

-- the gap at the front

record HasGap (text : List ℕ) : Type 0 where
  len : ℕ
  within : len ≤ length text
  gap : IsGap (take len text) (drop len text)
  end : HasNoSeparator (drop len text)

gap_by : (text : List ℕ) (upto at : ℕ) → at ≤ length text → length text ≤ at + upto → IsGap (take at text) (drop at text) → (o : Option ℕ) → separator_len (drop at text) ≡ o → HasGap text
gap_by text upto at within most gap None is = record { len = at; within = within; gap = gap; end = separator_none (drop at text) is }
gap_by text zero at within most gap (Some n) is =
    let found = separator_found (drop at text) n is in
    absurd (omega (arith, found.some, found.within, length-drop at text, most))
gap_by text (suc upto) at within most gap (Some n) is =
    let found = separator_found (drop at text) n is in
    gap_by text upto (at + n) (omega (arith, found.within, length-drop at text, within)) (omega (arith, found.some, most)) (gap_more text at n within gap found) (separator_len (drop (at + n) text)) refl

gap_of : (text : List ℕ) → HasGap text
gap_of text = gap_by text (length text) 0 (omega arith) (omega arith) (gap_none text) (separator_len text) refl

-- the tokens from a place on

abbrev Read : List ℕ → ℕ → Type 0
Read text at = ((tokens : List Token) × Lexes at (drop at text) tokens) ⊎ ((tokens : List Token) × (place : ℕ) × Stops at (drop at text) tokens place)

behind_token : (text : List ℕ) (at g : ℕ) (kind : TokenKind) (n : ℕ) → at + g ≤ length text → IsGap (take g (drop at text)) (drop g (drop at text)) → Tells (drop (at + g) text) kind n → Read text (at + g + n) → Read text at
behind_token text at g kind n within gap tells (inl is) = inl (record { kind = kind; at = at + g; len = n } ∷ is.0, next_lexes text at g kind n is.0 within gap tells is.1)
behind_token text at g kind n within gap tells (inr is) = inr (record { kind = kind; at = at + g; len = n } ∷ is.0, is.1, next_stops text at g kind n is.0 is.1 within gap tells is.2)

read_behind : (text : List ℕ) (at g : ℕ) → at + g ≤ length text → IsGap (take g (drop at text)) (drop g (drop at text)) → HasNoSeparator (drop g (drop at text)) → 0 < length (drop (at + g) text)
    → ((later : ℕ) → at < later → later ≤ length text → Read text later) → Read text at
read_behind text at g within gap bare some later = elim (token_by (drop (at + g) text) (front (drop (at + g) text)) refl) [
  | inl token ↦ behind_token text at g token.kind token.len within gap token.tells (later (at + g + token.len) (omega (arith, token.tells.some)) (omega (arith, token.tells.within, length-drop (at + g) text, within)))
  | inr none ↦ inr ([], at + g, gap_stops text at g within gap bare some none)
]

is_none : (n : ℕ) → (0 < n → ⊥) → n ≡ 0
is_none zero none = refl
is_none (suc n) none = absurd (none (omega arith))

read_step : (text : List ℕ) (at : ℕ) → at ≤ length text → ((later : ℕ) → at < later → later ≤ length text → Read text later) → Read text at
read_step text at within later =
    let gap = gap_of (drop at text) in
    let far : at + gap.len ≤ length text = omega (arith, gap.within, length-drop at text, within) in
    elim (told_less 0 (length (drop (at + gap.len) text))) [
      | inl some ↦ read_behind text at gap.len far gap.gap gap.end some later
      | inr none ↦ inl ([], gap_ends text at gap.len within gap.gap (is_none (length (drop (at + gap.len) text)) none))
    ]

read_by : (text : List ℕ) (upto at : ℕ) → at ≤ length text → length text ≤ at + upto → Read text at
read_by text zero at within most = read_step text at within (λ later more far. absurd (omega (arith, more, far, most)))
read_by text (suc upto) at within most = read_step text at within (λ later more far. read_by text upto later far (omega (arith, more, most)))

-- a text has tokens, or a place where they stop
pub tokens_or_stop : (text : List ℕ) → ((tokens : List Token) × Lexes 0 text tokens) ⊎ ((tokens : List Token) × (place : ℕ) × Stops 0 text tokens place)
tokens_or_stop text = read_by text (length text) 0 (omega arith) (omega arith)
