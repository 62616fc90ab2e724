-- The byte of a token that is so many behind a place of a text.
use Rattle.std.proofs.Common.{◌≡◌, ℕ, zero, suc, ◌+◌, List, [], ◌∷◌, length, drop, Option, None, refl, sym, ◌∙◌, ap, arith}
use Rattle.conf_scan.specs.Spots.{IsSpot, IsStep, LexesFrom}
use Rattle.conf_scan.specs.declared.lexer.Spot.{Spot}
use Rattle.conf_scan.specs.declared.token.Token.{Token}
use Rattle.conf_scan.specs.declared.token.TokenKind.{TokenKind}
use Rattle.conf_scan.specs.declared.token.TokenKind.TheVariants as kinds
use Rattle.conf_scan.specs.Spans.{slice_of}
use Rattle.conf_scan.proofs.Spots.{step_back}
use Rattle.conf_words.specs.Bytes.{byte_of, first_bytes, kind_bytes}

-- ---- the walk over tokens

-- the token that is looked for is so many behind this place
pub record IsPassed (text : List ℕ) (from : Spot) (past left : ℕ) (to : Spot) : Type 0 where
  pub spot : IsSpot text to
  pub rest : (tokens : List Token) → LexesFrom text from tokens → (more : List Token) × LexesFrom text to more × (byte_of text tokens past ≡ byte_of text more left)

pub passed_none : (text : List ℕ) (from : Spot) (past : ℕ) → IsSpot text from → IsPassed text from past past from
passed_none text from past spot = record { spot = spot; rest = λ tokens lexes. (tokens, lexes, refl) }

byte_next : (text : List ℕ) (t : Token) (us more : List Token) (left fewer : ℕ) → left ≡ fewer + 1 → more ≡ t ∷ us → byte_of text more left ≡ byte_of text us fewer
byte_next text t us more left fewer count cut =
    let next : left ≡ suc fewer = omega (arith, count) in
    ap (λ (l : List Token). byte_of text l left) cut ∙ ap (λ (n : ℕ). byte_of text (t ∷ us) n) next

pub passed_more : (text : List ℕ) (from here to : Spot) (past left fewer : ℕ) (t : Token) → left ≡ fewer + 1 → IsStep text here t to → IsPassed text from past left here → IsPassed text from past fewer to
passed_more text from here to past left fewer t count step passed =
    record {
      spot = step.spot;
      rest = λ tokens lexes.
          let h = passed.rest tokens lexes in
          let back = step_back text here to t h.0 step h.1 in
          (back.0, back.2, h.2 ∙ byte_next text t back.0 h.0 left fewer count back.1);
    }

pub passed_here : (text : List ℕ) (from here to : Spot) (past left : ℕ) (t : Token) → left ≡ 0 → IsStep text here t to → IsPassed text from past left here → (tokens : List Token) → LexesFrom text from tokens → t.at ≡ byte_of text tokens past
passed_here text from here to past left t none step passed tokens lexes =
    let h = passed.rest tokens lexes in
    let back = step_back text here to t h.0 step h.1 in
    sym (h.2 ∙ ap (λ (l : List Token). byte_of text l left) back.1 ∙ ap (λ (n : ℕ). byte_of text (t ∷ back.0) n) none)

pub passed_end : (text : List ℕ) (from here : Spot) (past left : ℕ) → ((ts : List Token) → LexesFrom text here ts → ts ≡ []) → IsPassed text from past left here → (tokens : List Token) → LexesFrom text from tokens → length text ≡ byte_of text tokens past
passed_end text from here past left none passed tokens lexes =
    let h = passed.rest tokens lexes in
    sym (h.2 ∙ ap (λ (l : List Token). byte_of text l left) (none h.0 h.1))

-- ---- bytes

-- the byte of a token, counted from another one on
pub byte_behind : (text : List ℕ) (tokens : List Token) (start n : ℕ) → byte_of text (drop start tokens) n ≡ byte_of text tokens (start + n)
byte_behind text tokens zero n = let same : n ≡ zero + n = omega arith in ap (λ (m : ℕ). byte_of text tokens m) same
byte_behind text [] (suc k) n = refl
byte_behind text (t ∷ tokens) (suc k) n =
    let same : suc (k + n) ≡ suc k + n = omega arith in
    byte_behind text tokens k n ∙ ap (λ (m : ℕ). byte_of text (t ∷ tokens) m) same

-- ---- the word that a token is

-- a token of another kind
pub no_name : (slice : List ℕ) (kind : TokenKind) → (kind ≡ kinds.Name → ⊥) → kind_bytes slice kind ≡ None
no_name slice kinds.Name never = absurd (never refl)
no_name slice _ never = refl

pub bytes_here : (text : List ℕ) (from to : Spot) (t : Token) (kind : TokenKind) (x : Option (List ℕ)) → IsStep text from t to → t.kind ≡ kind → kind_bytes (slice_of text t) kind ≡ x → (tokens : List Token) → LexesFrom text from tokens → first_bytes text tokens ≡ x
bytes_here text from to t kind x step is same tokens lexes =
    let back = step_back text from to t tokens step lexes in
    ap (λ (l : List Token). first_bytes text l) back.1 ∙ ap (λ (k : TokenKind). kind_bytes (slice_of text t) k) is ∙ same

pub bytes_none : (text : List ℕ) (tokens : List Token) → tokens ≡ [] → first_bytes text tokens ≡ None
bytes_none text tokens none = ap (λ (l : List Token). first_bytes text l) none
