-- The byte at which a token of a text begins (`byte_of`), and the bytes of the first token where it
-- is a word without quotes (`first_bytes`).
-- Not modelled: where a token ends (Spans of conf_scan).
-- From: own.
-- Example: of `log all;` token 1 begins at byte 4, and token 3, which isn't there, at byte 8; the
-- first token has the bytes `log`, and that of `"log" all;` is no such word.
use Rattle.std.specs.Prelude.{ℕ, List, [], ◌∷◌, length, map, slice_index_or, Option, Some, None}
use Rattle.conf_scan.specs.Spans.{slice_of}
use Rattle.conf_scan.specs.declared.token.Token.{Token}
use Rattle.conf_scan.specs.declared.token.TokenKind.{TokenKind}
use Rattle.conf_scan.specs.declared.token.TokenKind.TheVariants as kinds

-- where a token begins; behind the last one the end of the text
abbrev pub byte_of : List ℕ → List Token → ℕ → ℕ
byte_of text tokens token = slice_index_or (map (λ t. t.at) tokens) token (length text)

-- the bytes of a word without quotes
abbrev pub kind_bytes : List ℕ → TokenKind → Option (List ℕ)
kind_bytes slice kinds.Name = Some slice
kind_bytes slice _ = None

-- the first token is such a word
abbrev pub first_bytes : List ℕ → List Token → Option (List ℕ)
first_bytes text [] = None
first_bytes text (t ∷ ts) = kind_bytes (slice_of text t) t.kind
