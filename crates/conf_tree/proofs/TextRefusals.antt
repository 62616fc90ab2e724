-- What is told of a text that is refused.
use Rattle.std.proofs.Common.{◌≡◌, ℕ, ◌+◌, ◌<◌, ◌≤◌, List, length, take, drop, IsSomeAnd, arith, refl, sym, ap, subst, ◌∙◌}
use Rattle.conf_scan.specs.Lex.{Lexes, Stops, IsLexFault as IsStuckAt}
use Rattle.conf_scan.specs.declared.token.Token.{Token}
use Rattle.conf_scan.specs.declared.token.LexFault.{LexFault}
use Rattle.conf_scan.specs.declared.token.LexFault.TheVariants as lex_faults
use Rattle.conf_lex.specs.declared.word.Word.{Word}
use Rattle.conf_lex.specs.Sentences.{IsTooDeep}
use Rattle.expr_syntax.specs.Syntax.{rule}
use Rattle.filt_syntax.specs.declared.parse.SyntaxFault.{SyntaxFault}
use Rattle.filt_syntax.specs.declared.parse.SyntaxFault.TheVariants as faults
use Rattle.conf_syntax.specs.Syntax.{config}
use Rattle.conf_words.specs.Bytes.{byte_of}
use Rattle.conf_words.specs.Significant.{significant_words, token_of}
use Rattle.conf_tree.specs.Sentence.{word_bytes, IsStop, IsUnsupported, Refuses}
use Rattle.conf_tree.specs.Read.{fault_of, IsFault}
use Rattle.conf_ast.specs.declared.kind.ConfFault.{ConfFault}
use Rattle.conf_ast.specs.declared.kind.ConfFault.TheVariants as outcomes
use Rattle.conf_ast.specs.declared.kind.ConfKind.TheVariants as kinds
use Rattle.conf_tree.proofs.Refusals.{stop_told, deep_told}
use Rattle.conf_words.proofs.TokenSteps.{byte_behind}

-- ---- a text without tokens

pub stuck_fault : (text : List ℕ) (f : LexFault) (at b : ℕ) → f ≡ lex_faults.Bad at → b ≡ at → IsStuckAt text f → IsFault text (outcomes.Refused b kinds.Lex)
stuck_fault text f at b is same h = subst (λ (n : ℕ). IsFault text (outcomes.Refused n kinds.Lex)) (sym same) (subst (λ (e : LexFault). IsStuckAt text e) is h)

pub stuck_within : (text : List ℕ) (f : LexFault) (at b : ℕ) → f ≡ lex_faults.Bad at → b ≡ at → ((source : List ℕ) (ts : List Token) (place : ℕ) → Stops 0 source ts place → place < length source) → IsStuckAt text f → b ≤ length text
stuck_within text f at b is same within h =
    let stuck = subst (λ (e : LexFault). IsStuckAt text e) is h in
    omega (arith, same, within text stuck.0 at stuck.1)

-- ---- a text with these tokens

-- what is known of the word in this place, of which the tokens are these
abbrev KnownHere : List ℕ → List Word → ℕ → List Token → Type 0
KnownHere text words place tokens = IsSomeAnd (word_bytes (drop place words) text tokens) (IsUnsupported (take place words))

module _ (text : List ℕ) (tokens : List Token) (lexes : Lexes 0 text tokens) (rest : List Word) (place : ℕ) (len : place + length rest ≡ length (significant_words text tokens)) where
  at_start : (n : ℕ) → n ≡ 0 → byte_of text (drop (token_of text tokens place) tokens) n ≡ byte_of text tokens (token_of text tokens place)
  at_start n none =
      let same : token_of text tokens place + n ≡ token_of text tokens place = omega (arith, none) in
      byte_behind text tokens (token_of text tokens place) n ∙ ap (λ (m : ℕ). byte_of text tokens m) same

  stop_fault : IsStop (significant_words text tokens) rest → (e : SyntaxFault) → Refuses (KnownHere text (significant_words text tokens) place (drop (token_of text tokens place) tokens)) (significant_words text tokens) place 0 e → IsFault text (fault_of text (drop (token_of text tokens place) tokens) e)
  stop_fault s (faults.Bad n) h =
      let past : token_of text tokens place + n ≡ token_of text tokens place + h.1 = omega (arith, h.3) in (
        tokens,
        token_of text tokens place + n,
        lexes,
        stop_told text tokens rest place (token_of text tokens place) len refl s (faults.Bad (token_of text tokens place + n)) (h.0, h.1, h.2, past),
        byte_behind text tokens (token_of text tokens place) n,
      )
  stop_fault s (faults.Unsupported n) h = (tokens, token_of text tokens place, lexes, stop_told text tokens rest place (token_of text tokens place) len refl s (faults.Unsupported (token_of text tokens place)) (refl, h.1), at_start n h.0)
  stop_fault s (faults.TooDeep n) h = absurd h
  stop_fault s faults.Memory h = tt

  deep_fault : IsTooDeep rule 64 config (significant_words text tokens) rest → IsFault text (fault_of text (drop (token_of text tokens place) tokens) (faults.TooDeep 0))
  deep_fault h = (tokens, token_of text tokens place, lexes, deep_told text tokens rest place (token_of text tokens place) len refl h, at_start 0 refl)

-- and of its words
module _ (text : List ℕ) (tokens : List Token) (lexes : Lexes 0 text tokens) (words : List Word) (are : words ≡ significant_words text tokens) (rest : List Word) (place : ℕ) (len : place + length rest ≡ length words) where
  same_len : place + length rest ≡ length (significant_words text tokens)
  same_len = len ∙ ap (λ (u : List Word). length u) are

  pub stopped_fault : IsStop words rest → (e : SyntaxFault) (r : ConfFault) → Refuses (KnownHere text words place (drop (token_of text tokens place) tokens)) words place 0 e → r ≡ fault_of text (drop (token_of text tokens place) tokens) e → IsFault text r
  stopped_fault s e r h is =
      let P : List Word → Type 0 = λ u. Refuses (KnownHere text u place (drop (token_of text tokens place) tokens)) u place 0 e in
      subst (λ (f : ConfFault). IsFault text f) (sym is)
      (stop_fault text tokens lexes rest place same_len (subst (λ (u : List Word). IsStop u rest) are s) e (subst P are h))

  pub deepened_fault : IsTooDeep rule 64 config words rest → (r : ConfFault) → r ≡ fault_of text (drop (token_of text tokens place) tokens) (faults.TooDeep 0) → IsFault text r
  deepened_fault h r is =
      subst (λ (f : ConfFault). IsFault text f) (sym is)
      (deep_fault text tokens lexes rest place same_len (subst (λ (u : List Word). IsTooDeep rule 64 config u rest) are h))
