-- Tokens stand within their text.
use Rattle.std.proofs.Common.{◌≡◌, ℕ, suc, zero, ◌+◌, ◌-◌, ◌≤◌, List, [], ◌∷◌, ◌++◌, length, drop, refl, sym, ◌∙◌, ap, arith, append_assoc}
use Rattle.std.proofs.lemmas.List.{length-append}
use Rattle.conf_scan.specs.declared.scan.Lexeme.{Lexeme}
use Rattle.conf_scan.specs.declared.scan.Lexeme.TheVariants as lexemes
use Rattle.conf_scan.specs.declared.token.Token.{Token}
use Rattle.conf_scan.specs.declared.token.TokenKind.{TokenKind}
use Rattle.conf_scan.specs.declared.token.TokenKind.TheVariants as kinds
use Rattle.conf_scan.specs.Shapes.{IsShape, IsValue}
use Rattle.conf_scan.specs.Lex.{Lexes}
use Rattle.conf_scan.specs.Spans.{quotes_of, AreWithin}
use Rattle.conf_scan.proofs.Readings.{word_kind, decimal_kind, hexadecimal_kind, dotted_kind, colons_kind, mark_kind}

no_quotes : (kind other : TokenKind) (n : ℕ) → kind ≡ other → quotes_of other ≡ 0 → quotes_of kind ≤ n
no_quotes kind other n same none = omega (arith, ap quotes_of same, none)

at_most_two : (kind : TokenKind) → quotes_of kind ≤ 2
at_most_two kinds.QuotedName = omega arith
at_most_two kinds.Text = omega arith
at_most_two _ = omega arith

pub quotes_len : (sort : Lexeme) (slice rest : List ℕ) (kind : TokenKind) → IsShape sort slice rest → IsValue sort slice kind → quotes_of kind ≤ length slice
quotes_len lexemes.Word slice rest kind is value = no_quotes kind kinds.Name (length slice) (word_kind slice kind value) refl
quotes_len lexemes.QuotedName slice rest kind is value = omega (arith, at_most_two kind, ap (λ (l : List ℕ). length l) is.whole, length-append is.name (39 ∷ []))
quotes_len lexemes.Decimal slice rest kind is value = let k = decimal_kind slice kind value in no_quotes kind (kinds.Number k.0) (length slice) k.1 refl
quotes_len lexemes.Hexadecimal slice rest kind is value = let k = hexadecimal_kind slice kind value in no_quotes kind (kinds.Number k.0) (length slice) k.1 refl
quotes_len lexemes.Ipv4 slice rest kind is value = let k = dotted_kind slice kind value in no_quotes kind _ (length slice) k.1 refl
quotes_len lexemes.Ipv6 slice rest kind is value = let k = colons_kind slice kind value in no_quotes kind _ (length slice) k.1 refl
quotes_len lexemes.Text slice rest kind is value = omega (arith, at_most_two kind, ap (λ (l : List ℕ). length l) is.whole, length-append is.text (34 ∷ []))
quotes_len lexemes.Punctuation slice rest kind is value = no_quotes kind kinds.Punctuation (length slice) (mark_kind slice kind value) refl

within_from : (place : ℕ) (whole before text : List ℕ) (ts : List Token) → place ≡ length before → whole ≡ before ++ text → Lexes place text ts → AreWithin whole ts
within_from place whole before text [] at cut lexes = tt
within_from place whole before text (t ∷ ts) at cut lexes =
    let rest = lexes.0 in let next = lexes.1 in
    let all : whole ≡ before ++ (next.gap ++ (next.slice ++ rest)) = cut ∙ ap (λ (l : List ℕ). before ++ l) next.whole in
    let len = ap (λ (l : List ℕ). length l) all in
    let one = length-append before (next.gap ++ (next.slice ++ rest)) in
    let two = length-append next.gap (next.slice ++ rest) in
    let three = length-append next.slice rest in
    let read : whole ≡ (before ++ (next.gap ++ next.slice)) ++ rest =
    all ∙ ap (λ (l : List ℕ). before ++ l) (sym (append_assoc next.gap next.slice rest)) ∙ sym (append_assoc before (next.gap ++ next.slice) rest) in
    let reach : t.at + t.len ≡ length (before ++ (next.gap ++ next.slice)) = omega (arith, next.at, next.len, at, length-append before (next.gap ++ next.slice), length-append next.gap next.slice) in (
      record {
        ends = omega (arith, next.at, next.len, at, len, one, two, three);
        quotes = omega (arith, next.len, quotes_len next.sort next.slice rest t.kind next.token.shape next.value);
      },
      within_from (t.at + t.len) whole (before ++ (next.gap ++ next.slice)) rest ts reach read lexes.2,
    )

pub lexed_within : (text : List ℕ) (ts : List Token) → Lexes 0 text ts → AreWithin text ts
lexed_within text ts lexes = within_from 0 text [] text ts refl refl lexes

pub within_drop : (text : List ℕ) (k : ℕ) (ts : List Token) → AreWithin text ts → AreWithin text (drop k ts)
within_drop text zero ts are = are
within_drop text (suc k) [] are = tt
within_drop text (suc k) (t ∷ ts) are = within_drop text k ts are.1
