-- A configuration has no more words than its text has bytes.
use Rattle.std.proofs.Common.{◌≤◌, ◌+◌, ◌-◌, ℕ, zero, suc, Bool, true, false, cond, List, [], ◌∷◌, ◌++◌, length, sym, subst, append_assoc, arith}
use Rattle.std.proofs.lemmas.List.{length-map}
use Rattle.conf_scan.specs.Lex.{Lexes}
use Rattle.conf_scan.specs.Spans.{IsSpan, IsBetween}
use Rattle.conf_lex.specs.Words.{first_word, words_from, words_of}
use Rattle.conf_scan.specs.declared.token.Token.{Token}
use Rattle.conf_lex.specs.declared.word.Word.{Word}
use Rattle.conf_words.specs.declared.significant.Region.{Region}
use Rattle.conf_words.specs.declared.significant.Region.TheVariants as regions
use Rattle.conf_words.specs.Significant.{behind, is_significant, significant, significant_words}

words_few : (text : List ℕ) (i skip : ℕ) (ts : List Token) → length (words_from text i skip ts) ≤ length ts
words_few text i skip [] = omega arith
words_few text i (suc skip) (t ∷ ts) = omega (arith, words_few text (i + 1) skip ts)
words_few text i zero (t ∷ ts) = omega (arith, words_few text (i + 1) ((first_word text t ts).1 - 1) ts)

perhaps_few : (b : Bool) (p : ℕ × Word) (ps : List (ℕ × Word)) (n : ℕ) → length ps ≤ n → length (cond b (p ∷ ps) ps) ≤ suc n
perhaps_few true p ps n few = omega (arith, few)
perhaps_few false p ps n few = omega (arith, few)

said_few : (region : Region) (ps : List (ℕ × Word)) → length (significant region ps) ≤ length ps
said_few region [] = omega arith
said_few region (p ∷ ps) = perhaps_few (is_significant region p.1) p (significant (behind region p.1) ps) (length ps) (said_few (behind region p.1) ps)

-- Tokens stand in order and apart, each with a byte or more.
module _ (slices : (text : List ℕ) (front back : List Token) (t : Token) → Lexes 0 text (front ++ t ∷ back) → IsSpan text t)
    (rises : (text : List ℕ) (front back : List Token) (t u : Token) → Lexes 0 text (front ++ t ∷ u ∷ back) → IsBetween text (t.at + t.len) u.at) where
  tokens_from : (text : List ℕ) (front : List Token) (t : Token) (ts : List Token) → Lexes 0 text (front ++ t ∷ ts) → length (t ∷ ts) + t.at ≤ length text
  tokens_from text front t [] lexed = let span = slices text front [] t lexed in omega (arith, span.some, span.within)
  tokens_from text front t (u ∷ ts) lexed =
      let span = slices text front (u ∷ ts) t lexed in
      let between = rises text front ts t u lexed in
      let more = tokens_from text (front ++ t ∷ []) u ts (subst (λ (l : List Token). Lexes 0 text l) (sym (append_assoc front (t ∷ []) (u ∷ ts))) lexed) in
      omega (arith, span.some, between.rises, more)

  tokens_few : (text : List ℕ) (ts : List Token) → Lexes 0 text ts → length ts ≤ length text
  tokens_few text [] lexed = omega arith
  tokens_few text (t ∷ ts) lexed = omega (arith, tokens_from text [] t ts lexed)

  pub said_within : (text : List ℕ) (ts : List Token) → Lexes 0 text ts → length (significant_words text ts) ≤ length text
  said_within text ts lexed =
      omega (arith, length-map (significant regions.Statements (words_of text ts)) (λ (p : ℕ × Word). p.1), said_few regions.Statements (words_of text ts), words_few text 0 0 ts, tokens_few text ts lexed)
