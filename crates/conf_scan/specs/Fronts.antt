-- For private contracts alone: what the small functions of the lexer compute. proofs/ ties it to
-- the shapes.
use Rattle.std.specs.Prelude.{ℕ, suc, zero, ◌+◌, ◌<◌, ◌≤◌, Bool, false, ◌&&◌, ◌||◌, not, ◌==◌}
use Rattle.std.specs.Prelude.{if◌then◌else◌, Option, Some, None, List, [], ◌∷◌, length, take, drop}
use Rattle.std.specs.Prelude.{count_by, nat_le}
use Rattle.std.specs.Char.{is_ascii_digit, is_ascii_hexdigit}
use Rattle.std.specs.List.{prefix_len, take_while}
use Rattle.std.specs.Option.{option_and_then, option_map}
use Rattle.conf_scan.specs.Shapes.{is_letter, is_name_byte, is_quoted_byte, is_text_byte}
use Rattle.conf_scan.specs.Shapes.{is_short_sign, is_pair_sign, is_empty_sign}
use Rattle.conf_scan.specs.Shapes.{is_colons_byte, is_sign, is_blank, is_newline, first_passes}
use Rattle.conf_scan.specs.Shapes.{IsToken, IsValue}
use Rattle.conf_scan.specs.declared.scan.Lexeme.{Lexeme}
use Rattle.conf_scan.specs.declared.scan.Lexeme.TheVariants as lexemes
use Rattle.conf_scan.specs.declared.token.TokenKind.{TokenKind}

-- how many bytes there are up to the end of the first star and slash
abbrev pub close_len : List ℕ → Option ℕ
close_len [] = None
close_len (b ∷ bytes) =
    if (b == 42) && first_passes (λ c. c == 47) bytes then Some 2
    else option_map (λ n. n + 1) (close_len bytes)

-- how long the separator at the front is
abbrev pub separator_len : List ℕ → Option ℕ
separator_len [] = None
separator_len (b ∷ bytes) =
    if is_blank b then Some 1
    else if b == 35 then Some (prefix_len (λ c. not (is_newline c)) bytes + 1)
    else if (b == 47) && first_passes (λ c. c == 42) bytes
    then option_map (λ n. n + 2) (close_len (drop 1 bytes))
    else None

-- how long a quoted name is, a quoted text is, by what stands behind the first quote
abbrev pub quote_len : List ℕ → Option ℕ
quote_len bytes =
    let n = prefix_len is_quoted_byte bytes in
    if nat_le 1 n && first_passes (λ c. c == 39) (drop n bytes) then Some (n + 2) else None

abbrev pub text_len : List ℕ → Option ℕ
text_len bytes =
    let n = prefix_len is_text_byte bytes in
    if first_passes (λ c. c == 34) (drop n bytes) then Some (n + 2) else None

-- how long a number and the dot behind it are
abbrev pub dot_len : List ℕ → Option ℕ
dot_len text =
    let n = prefix_len is_ascii_digit text in
    if nat_le 1 n && first_passes (λ c. c == 46) (drop n text) then Some (n + 1) else None

-- how long so many numbers with dots and one more are
abbrev pub dotted_len : ℕ → List ℕ → Option ℕ
dotted_len zero text = let n = prefix_len is_ascii_digit text in if nat_le 1 n then Some n else None
dotted_len (suc k) text =
    option_and_then (λ n. option_map (λ m. n + m) (dotted_len k (drop n text))) (dot_len text)

abbrev pub begins_hexadecimal : List ℕ → Bool
begins_hexadecimal [] = false
begins_hexadecimal (b ∷ bytes) = (b == 48) && first_passes (λ c. c == 120) bytes

-- a number, where no IPv4 address of this length stands
abbrev pub dotted_or_number : Option ℕ → List ℕ → Lexeme × ℕ
dotted_or_number (Some n) text = (lexemes.Ipv4, n)
dotted_or_number None text =
    if begins_hexadecimal text
    then (lexemes.Hexadecimal, prefix_len is_ascii_hexdigit (drop 2 text) + 2)
    else (lexemes.Decimal, prefix_len is_ascii_digit text)

-- the text begins with a sign of this length
abbrev pub has_sign : ℕ → List ℕ → Bool
has_sign n text = nat_le n (length text) && is_sign (take n text)

abbrev pub begins_comment : List ℕ → Bool
begins_comment [] = false
begins_comment (b ∷ bytes) = (b == 47) && first_passes (λ c. c == 42) bytes

-- the longest sign at the front: the signs have seven bytes, two or one
abbrev pub sign_len : List ℕ → Option ℕ
sign_len text =
    if begins_comment text then None
    else if has_sign 7 text then Some 7
    else if has_sign 2 text then Some 2
    else if has_sign 1 text then Some 1
    else None

-- The same by the first byte and what stands behind it: only a plus and a minus begin the signs of
-- seven bytes.
abbrev pub is_plus_or_minus : ℕ → Bool
is_plus_or_minus b = (b == 43) || (b == 45)

abbrev pub begins_empty_sign : List ℕ → Bool
begins_empty_sign text = nat_le 7 (length text) && is_empty_sign (take 7 text)

abbrev pub begins_pair_sign : ℕ → List ℕ → Bool
begins_pair_sign b [] = false
begins_pair_sign b (c ∷ bytes) = is_pair_sign (b ∷ c ∷ [])

abbrev pub sign_at : ℕ → List ℕ → List ℕ → Option ℕ
sign_at b bytes text =
    if (b == 47) && first_passes (λ c. c == 42) bytes then None
    else if is_plus_or_minus b && begins_empty_sign text then Some 7
    else if begins_pair_sign b bytes then Some 2
    else if is_short_sign (b ∷ []) then Some 1
    else None

-- an IPv6 address begins the text: the whole run of its bytes
abbrev pub begins_colons : List ℕ → Bool
begins_colons text =
    nat_le 2 (count_by (λ b. b == 58) (take_while is_colons_byte text))
    && not (first_passes is_name_byte (drop (prefix_len is_colons_byte text) text))

-- the longest token at the front and its sort, where no IPv6 address begins
abbrev pub plain_front : List ℕ → Option (Lexeme × ℕ)
plain_front [] = None
plain_front (b ∷ bytes) =
    if is_letter b then Some (lexemes.Word, prefix_len is_name_byte (b ∷ bytes))
    else if is_ascii_digit b then Some (dotted_or_number (dotted_len 3 (b ∷ bytes)) (b ∷ bytes))
    else if b == 39 then option_map (λ n. (lexemes.QuotedName, n)) (quote_len bytes)
    else if b == 34 then option_map (λ n. (lexemes.Text, n)) (text_len bytes)
    else option_map (λ n. (lexemes.Punctuation, n)) (sign_len (b ∷ bytes))

-- the longest token at the front and its sort
abbrev pub front : List ℕ → Option (Lexeme × ℕ)
front text =
    if begins_colons text
    then Some (lexemes.Ipv6, prefix_len is_colons_byte text)
    else plain_front text

-- a token of this kind and length begins the text
pub record Tells (text : List ℕ) (kind : TokenKind) (n : ℕ) : Type 0 where
  pub sort : Lexeme
  pub some : 0 < n
  pub within : n ≤ length text
  pub token : IsToken text sort (take n text) (drop n text)
  pub value : IsValue sort (take n text) kind
