-- Each token begins at a byte of its own.
use Rattle.std.proofs.Common.{◌≡◌, ℕ, zero, suc, ◌+◌, ◌≤◌, List, [], ◌∷◌, ◌++◌, length, map, slice_index_or, refl, sym, ap, subst, arith, append_assoc}
use Rattle.conf_scan.specs.Lex.{Lexes}
use Rattle.conf_scan.specs.Spans.{IsSpan, IsBetween}
use Rattle.conf_scan.specs.declared.token.Token.{Token}
use Rattle.filt_syntax.specs.declared.parse.SyntaxFault.TheVariants as faults
use Rattle.conf_words.specs.Bytes.{byte_of}
use Rattle.conf_tree.specs.Sentence.{IsRefused}
use Rattle.conf_tree.specs.Read.{IsRefusedText}
use Rattle.conf_laws.specs.Alike.{IsAlike, AreAlike, DecideAlike, IsNoSentence}
use Rattle.conf_ast.specs.declared.kind.ConfKind.TheVariants as kinds
use Rattle.conf_laws.proofs.TokenLaw.{by_tokens, by_end}

-- the bytes at which tokens begin rise from one place to the other
abbrev pub Rise : ℕ → ℕ → List Token → Type 0
Rise low end [] = low ≤ end
Rise low end (t ∷ ts) = (low ≤ t.at) × Rise (t.at + 1) end ts

abbrev pub starts : List Token → List ℕ
starts ts = map (λ t. t.at) ts

no_lower : (low end : ℕ) (ts : List Token) → Rise low end ts → (i : ℕ) → low ≤ slice_index_or (starts ts) i end
no_lower low end [] h zero = h
no_lower low end [] h (suc i) = h
no_lower low end (t ∷ ts) h zero = h.0
no_lower low end (t ∷ ts) h (suc i) = let less = no_lower (t.at + 1) end ts h.1 i in omega (arith, h.0, less)

pub within : (low end : ℕ) (front : List Token) (t : Token) (back : List Token) → Rise low end (front ++ t ∷ back) → low ≤ t.at
within low end [] t back h = h.0
within low end (x ∷ front) t back h = let less = within (x.at + 1) end front t back h.1 in omega (arith, h.0, less)

pub one_place : (low end : ℕ) (front : List Token) (t : Token) (back : List Token) → Rise low end (front ++ t ∷ back) → (i : ℕ) → slice_index_or (starts (front ++ t ∷ back)) i end ≡ t.at → i ≡ length front
one_place low end [] t back h zero e = refl
one_place low end [] t back h (suc i) e = absurd (omega (arith, no_lower (t.at + 1) end back h.1 i, e))
one_place low end (x ∷ front) t back h zero e = absurd (omega (arith, within (x.at + 1) end front t back h.1, e))
one_place low end (x ∷ front) t back h (suc i) e = ap (λ (n : ℕ). suc n) (one_place (x.at + 1) end front t back h.1 i e)

module _ (once : (text : List ℕ) (ts us : List Token) → Lexes 0 text ts → Lexes 0 text us → ts ≡ us)
    (slices : (text : List ℕ) (front back : List Token) (t : Token) → Lexes 0 text (front ++ t ∷ back) → IsSpan text t)
    (rising : (text : List ℕ) (front back : List Token) (t u : Token) → Lexes 0 text (front ++ t ∷ u ∷ back) → IsBetween text (t.at + t.len) u.at) where
  rise_behind : (text : List ℕ) (front : List Token) (t : Token) (ts : List Token) → Lexes 0 text (front ++ t ∷ ts) → Rise (t.at + 1) (length text) ts
  rise_behind text front t [] lexes = let s = slices text front [] t lexes in omega (arith, s.some, s.within)
  rise_behind text front t (u ∷ us) lexes =
      let s = slices text front (u ∷ us) t lexes in
      let b = rising text front us t u lexes in (
        omega (arith, s.some, b.rises),
        rise_behind text (front ++ t ∷ []) u us (subst (λ (l : List Token). Lexes 0 text l) (sym (append_assoc front (t ∷ []) (u ∷ us))) lexes),
      )

  rise_all : (text : List ℕ) (ts : List Token) → Lexes 0 text ts → Rise 0 (length text) ts
  rise_all text [] lexes = omega arith
  rise_all text (t ∷ ts) lexes = (omega arith, rise_behind text [] t ts lexes)

  pub text_by_tokens : (text other : List ℕ) (front back seen more : List Token) (t u : Token) → Lexes 0 text (front ++ t ∷ back) → IsRefusedText text t.at kinds.Syntax → AreAlike text front other seen → IsAlike text t other u → DecideAlike text front t back other u more → IsNoSentence other (seen ++ u ∷ more)
  text_by_tokens text other front back seen more t u lexes h are is decide =
      let same : h.0 ≡ front ++ t ∷ back = once text h.0 (front ++ t ∷ back) h.2 lexes in
      let refused : IsRefused text (front ++ t ∷ back) (faults.Bad h.1) = subst (λ (l : List Token). IsRefused text l (faults.Bad h.1)) same h.3 in
      let at : t.at ≡ byte_of text (front ++ t ∷ back) h.1 = subst (λ (l : List Token). t.at ≡ byte_of text l h.1) same h.4 in
      let place = one_place 0 (length text) front t back (rise_all text (front ++ t ∷ back) lexes) h.1 (sym at) in
      by_tokens text other front back seen more t u (subst (λ (n : ℕ). IsRefused text (front ++ t ∷ back) (faults.Bad n)) place refused) are is decide

  pub text_by_end : (text other : List ℕ) (tokens seen : List Token) → Lexes 0 text tokens → IsRefusedText text (length text) kinds.Syntax → AreAlike text tokens other seen → IsNoSentence other seen
  text_by_end text other tokens seen lexes h are =
      let same : h.0 ≡ tokens = once text h.0 tokens h.2 lexes in
      by_end text other tokens seen h.1 (subst (λ (l : List Token). IsRefused text l (faults.Bad h.1)) same h.3) are
