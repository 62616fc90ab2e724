-- Which bytes are a token of which sort (`IsShape`), that no longer front is one (`IsToken`), what
-- a token says (`IsValue`), and which bytes separate tokens (`IsSeparator`, `IsGap`).
-- Not modelled: which text an address has (bits_ip/specs/Text).
-- From: BIRD User's Guide, "Configuration"; RFC 4291, section 2.2; where the guide is silent, own.
-- Example: `12ab` is a number and a name; `1.2.3.4.5` an address, a dot and a number; `fe80::1x` a
-- name, two colons, a number and a name; `0x`, `256.0.0.1`, `1:2:3`, `''`, `/*/` are none.
use Rattle.std.specs.Prelude.{◌≡◌, ℕ, suc, zero, ◌^◌, ◌<◌, ◌≤◌, Bool, true, false, ◌&&◌, ◌||◌, not}
use Rattle.std.specs.Prelude.{◌==◌, IsTrue, ⊤, List, [], ◌∷◌, ◌++◌, length, codes, count_by}
use Rattle.std.specs.Char.{is_ascii_alphabetic, is_ascii_alphanumeric, is_ascii_digit}
use Rattle.std.specs.Char.{is_ascii_hexdigit}
use Rattle.std.specs.Cmp.Lexicographic.{pointwise}
use Rattle.std.specs.List.{concat, list_all, list_any}
use Rattle.std.specs.Bool.{nat_eq}
use Rattle.std.specs.Str.Parse.{digits_value}
use Rattle.bits_ip.specs.Text.{IsAddrText}
use Rattle.bits_ip.specs.declared.address.Addr.TheVariants.{V4, V6}
use Rattle.conf_scan.specs.declared.scan.Lexeme.{Lexeme}
use Rattle.conf_scan.specs.declared.scan.Lexeme.TheVariants as lexemes
use Rattle.conf_scan.specs.declared.token.TokenKind.{TokenKind}
use Rattle.conf_scan.specs.declared.token.TokenKind.TheVariants as kinds

abbrev pub is_letter : ℕ → Bool
is_letter b = is_ascii_alphabetic b || (b == 95)

abbrev pub is_name_byte : ℕ → Bool
is_name_byte b = is_ascii_alphanumeric b || (b == 95)

-- a byte of a name between quotes
abbrev pub is_quoted_byte : ℕ → Bool
is_quoted_byte b = is_name_byte b || (b == 45) || (b == 46) || (b == 58)

-- a byte of a text between quotes: no double quote and no newline
abbrev pub is_text_byte : ℕ → Bool
is_text_byte b = not (b == 34) && not (b == 10)

abbrev pub is_colons_byte : ℕ → Bool
is_colons_byte b = is_ascii_hexdigit b || (b == 58)

-- there is a first byte, and it passes
abbrev pub first_passes : (ℕ → Bool) → List ℕ → Bool
first_passes test [] = false
first_passes test (b ∷ bytes) = test b

-- one or more decimal digits
abbrev pub IsDigits : List ℕ → Type 0
IsDigits bytes = (0 < length bytes) × IsTrue (list_all is_ascii_digit bytes)

-- a letter or an underscore, then letters, digits and underscores
abbrev pub IsWord : List ℕ → Type 0
IsWord [] = ⊥
IsWord (b ∷ bytes) = IsTrue (is_letter b) × IsTrue (list_all is_name_byte bytes)

-- one or more bytes of a name between single quotes
pub record IsQuote (slice : List ℕ) : Type 0 where
  pub name : List ℕ
  pub whole : slice ≡ 39 ∷ name ++ 39 ∷ []
  pub some : 0 < length name
  pub bytes : IsTrue (list_all is_quoted_byte name)

-- `0x` and hexadecimal digits, perhaps none
pub record IsHexadecimal (slice : List ℕ) : Type 0 where
  pub digits : List ℕ
  pub whole : slice ≡ 48 ∷ 120 ∷ digits
  pub bytes : IsTrue (list_all is_ascii_hexdigit digits)

-- so many numbers with a dot behind each, and one number more
abbrev pub IsDotted : ℕ → List ℕ → Type 0
IsDotted zero slice = IsDigits slice
IsDotted (suc k) slice =
    (number more : List ℕ) × IsDigits number × (slice ≡ number ++ 46 ∷ more) × IsDotted k more

-- a longest run of hexadecimal digits and colons that has two colons and isn't followed by a
-- letter, digit or underscore
pub record IsColons (slice rest : List ℕ) : Type 0 where
  pub bytes : IsTrue (list_all is_colons_byte slice)
  pub colons : 2 ≤ count_by (λ b. b == 58) slice
  pub longest : first_passes (λ b. is_name_byte b || (b == 58)) rest ≡ false

-- bytes between double quotes
pub record IsText (slice : List ℕ) : Type 0 where
  pub text : List ℕ
  pub whole : slice ≡ 34 ∷ text ++ 34 ∷ []
  pub bytes : IsTrue (list_all is_text_byte text)

-- the signs of the grammars: of one byte, of two, and the empty path and the empty list of
-- communities
abbrev pub short_signs : List (List ℕ)
short_signs =
    codes ";" ∷ codes "{" ∷ codes "}" ∷ codes "(" ∷ codes ")" ∷ codes "," ∷ codes "/" ∷ codes "="
    ∷ codes "." ∷ codes "!"
    ∷ codes "<" ∷ codes ">" ∷ codes "~" ∷ codes "+" ∷ codes "-" ∷ codes "*" ∷ codes "[" ∷ codes "]"
    ∷ codes ":" ∷ codes "?" ∷ []

abbrev pub pair_signs : List (List ℕ)
pair_signs =
    codes "->" ∷ codes "&&" ∷ codes "||" ∷ codes "!=" ∷ codes "<=" ∷ codes ">=" ∷ codes "!~"
    ∷ codes "[=" ∷ codes "=]" ∷ codes ".." ∷ []

abbrev pub empty_signs : List (List ℕ)
empty_signs = codes "+empty+" ∷ codes "-empty-" ∷ []

abbrev pub is_short_sign : List ℕ → Bool
is_short_sign slice = list_any (pointwise nat_eq slice) short_signs

abbrev pub is_pair_sign : List ℕ → Bool
is_pair_sign slice = list_any (pointwise nat_eq slice) pair_signs

abbrev pub is_empty_sign : List ℕ → Bool
is_empty_sign slice = list_any (pointwise nat_eq slice) empty_signs

abbrev pub is_sign : List ℕ → Bool
is_sign slice = is_short_sign slice || is_pair_sign slice || is_empty_sign slice

-- These bytes are of the sort, and may stand before those that follow. A slash before a star begins
-- a comment and is no sign.
abbrev pub IsShape : Lexeme → List ℕ → List ℕ → Type 0
IsShape lexemes.Word slice rest = IsWord slice
IsShape lexemes.QuotedName slice rest = IsQuote slice
IsShape lexemes.Decimal slice rest = IsDigits slice
IsShape lexemes.Hexadecimal slice rest = IsHexadecimal slice
IsShape lexemes.Ipv4 slice rest = IsDotted 3 slice
IsShape lexemes.Ipv6 slice rest = IsColons slice rest
IsShape lexemes.Text slice rest = IsText slice
IsShape lexemes.Punctuation slice rest =
    IsTrue (is_sign slice) × (slice ≡ codes "/" → first_passes (λ b. b == 42) rest ≡ false)

-- The text begins with this token: no longer front of it is one of any sort.
pub record IsToken (text : List ℕ) (sort : Lexeme) (slice rest : List ℕ) : Type 0 where
  pub whole : text ≡ slice ++ rest
  pub shape : IsShape sort slice rest
  pub longest : (other : Lexeme) (front back : List ℕ) → text ≡ front ++ back
      → IsShape other front back → length front ≤ length slice

-- Digits that are complete and not too large.
pub record IsNumber (radix : ℕ) (digits : List ℕ) (n : ℕ) : Type 0 where
  pub some : 0 < length digits
  pub value : digits_value radix digits ≡ n
  pub fits : n < 2 ^ 32

-- the number that `0x` and these digits spell
pub record IsHexNumber (slice : List ℕ) (n : ℕ) : Type 0 where
  pub digits : List ℕ
  pub whole : slice ≡ 48 ∷ 120 ∷ digits
  pub number : IsNumber 16 digits n

-- What a token of the sort says. It says nothing where it isn't complete, is too large, or is no
-- address.
abbrev pub IsValue : Lexeme → List ℕ → TokenKind → Type 0
IsValue lexemes.Word slice kinds.Name = ⊤
IsValue lexemes.QuotedName slice kinds.QuotedName = ⊤
IsValue lexemes.Decimal slice (kinds.Number n) = IsNumber 10 slice n
IsValue lexemes.Hexadecimal slice (kinds.Number n) = IsHexNumber slice n
IsValue lexemes.Ipv4 slice (kinds.Ip (V4 n)) = IsAddrText slice (V4 n)
IsValue lexemes.Ipv6 slice (kinds.Ip (V6 n)) = IsAddrText slice (V6 n)
IsValue lexemes.Text slice kinds.Text = ⊤
IsValue lexemes.Punctuation slice kinds.Punctuation = ⊤
IsValue _ slice kind = ⊥

-- Separators

abbrev pub is_blank : ℕ → Bool
is_blank b = (b == 32) || (b == 9) || (b == 13) || (b == 10)

abbrev pub is_newline : ℕ → Bool
is_newline b = b == 10

-- no newline follows before the text's end, or one follows at once
abbrev pub ends_line : List ℕ → Bool
ends_line [] = true
ends_line (b ∷ bytes) = is_newline b

-- somewhere in the bytes a star has a slash behind it
abbrev pub has_close : List ℕ → Bool
has_close [] = false
has_close (b ∷ bytes) = ((b == 42) && first_passes (λ c. c == 47) bytes) || has_close bytes

-- One separator: a space, tab, return or newline; `#` up to the line's end; or `/*` up to the first
-- `*/` behind it.
pub data IsSeparator (piece rest : List ℕ) : Type 0 where
  Blank : (b : ℕ) → piece ≡ b ∷ [] → IsTrue (is_blank b) → IsSeparator piece rest
  Line : (bytes : List ℕ) → piece ≡ 35 ∷ bytes → IsTrue (list_all (λ b. not (is_newline b)) bytes)
      → IsTrue (ends_line rest) → IsSeparator piece rest
  Block : (bytes : List ℕ) → piece ≡ 47 ∷ 42 ∷ bytes ++ 42 ∷ 47 ∷ []
      → has_close (bytes ++ 42 ∷ []) ≡ false → IsSeparator piece rest

-- separators one after another, each with what follows it
abbrev pub AreSeparators : List (List ℕ) → List ℕ → Type 0
AreSeparators [] rest = ⊤
AreSeparators (piece ∷ pieces) rest =
    IsSeparator piece (concat pieces ++ rest) × AreSeparators pieces rest

-- what stands between tokens
pub record IsGap (gap rest : List ℕ) : Type 0 where
  pub pieces : List (List ℕ)
  pub whole : gap ≡ concat pieces
  pub separators : AreSeparators pieces rest
