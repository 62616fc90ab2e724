-- A text read token by token.
use Rattle.std.proofs.Common.{◌≡◌, ℕ, ◌+◌, ◌-◌, ◌<◌, ◌≤◌, false, List, [], ◌∷◌, ◌++◌, length, take, drop, Option, Some, None, refl, sym, ap, subst, ◌∙◌, arith, append_assoc, append-nil}
use Rattle.std.specs.Prelude.{MatchOption, MatchResult, IfErr, IsErrAnd, Result, Ok, Err}
use Rattle.std.proofs.lemmas.List.{length-append, length-drop, drop-drop}
use Rattle.conf_scan.specs.declared.lexer.Spot.{Spot}
use Rattle.conf_scan.specs.declared.token.LexFault.{LexFault}
use Rattle.conf_scan.specs.declared.token.LexFault.TheVariants as faults
use Rattle.conf_scan.specs.declared.token.Token.{Token}
use Rattle.conf_scan.specs.declared.token.TokenKind.{TokenKind}
use Rattle.conf_scan.specs.Fronts.{begins_colons, Tells}
use Rattle.conf_scan.specs.Shapes.{IsGap}
use Rattle.conf_scan.specs.Lex.{IsNext, Lexes, Stops, HasNoSeparator, HasNoToken, IsBadAt, IsLexFault}
use Rattle.conf_scan.specs.Spots.{IsSpot, IsStep, IsStuckFrom, LexesFrom}
use Rattle.conf_scan.proofs.Tokens.{shape_some}
use Rattle.conf_scan.proofs.Readings.{next_once, next_is, gap_no_next, gap_ends, gap_stops, lexes_once, lexes_or_stops, stops_once}
use Rattle.conf_scan.proofs.Within.{quotes_len}

-- ---- tokens read so far

-- whatever the rest of the text is completes them
pub record IsRead (text : List ℕ) (found : List Token) (to : Spot) : Type 0 where
  pub spot : IsSpot text to
  pub tokens : (more : List Token) → LexesFrom text to more → Lexes 0 text (found ++ more)
  pub stops : (more : List Token) (place : ℕ) → Stops to.at (drop to.at text) more place → Stops 0 text (found ++ more) place

pub step_lexes : (text : List ℕ) (from to : Spot) (t : Token) (more : List Token) → IsStep text from t to → LexesFrom text to more → LexesFrom text from (t ∷ more)
step_lexes text from to t more step rest = let P : ℕ → Type 0 = λ n. Lexes n (drop to.at text) more in (drop to.at text, step.next, subst P step.ends rest)

pub step_stops : (text : List ℕ) (from to : Spot) (t : Token) (more : List Token) (place : ℕ) → IsStep text from t to → Stops to.at (drop to.at text) more place → Stops from.at (drop from.at text) (t ∷ more) place
step_stops text from to t more place step rest = let P : ℕ → Type 0 = λ n. Stops n (drop to.at text) more place in (drop to.at text, step.next, subst P step.ends rest)

pub read_more : (text : List ℕ) (found : List Token) (from to : Spot) (t : Token) → IsStep text from t to → IsRead text found from → IsRead text (found ++ t ∷ []) to
read_more text found from to t step read =
    record {
      spot = step.spot;
      tokens = λ more rest. rw append_assoc (read.tokens (t ∷ more) (step_lexes text from to t more step rest));
      stops = λ more place rest. rw append_assoc (read.stops (t ∷ more) place (step_stops text from to t more place step rest));
    }

-- what the tokens are, that stand behind a place where one does
pub step_back : (text : List ℕ) (from to : Spot) (t : Token) (ts : List Token) → IsStep text from t to → LexesFrom text from ts → (us : List Token) × (ts ≡ t ∷ us) × LexesFrom text to us
step_back text from to t [] step lexes = gap_no_next from.at (drop from.at text) t (drop to.at text) lexes step.next
step_back text from to t (u ∷ us) step lexes =
    let same = next_once from.at (drop from.at text) t u (drop to.at text) lexes.0 step.next lexes.1 in
    let P : List ℕ → Type 0 = λ l. Lexes (u.at + u.len) l us in
    let Q : Token → Type 0 = λ v. Lexes (v.at + v.len) (drop to.at text) us in
    let R : ℕ → Type 0 = λ n. Lexes n (drop to.at text) us in
    (us, ap (λ (v : Token). v ∷ us) (sym same.0), subst R (sym step.ends) (subst Q (sym same.0) (subst P (sym same.1) lexes.2)))

-- ---- one token

next_len : (text : List ℕ) (from to : Spot) (t : Token) (next : IsNext from.at (drop from.at text) t (drop to.at text)) → length (drop from.at text) ≡ length next.gap + (length next.slice + length (drop to.at text))
next_len text from to t next = ap (λ (l : List ℕ). length l) next.whole ∙ length-append next.gap (next.slice ++ drop to.at text) ∙ ap (λ (n : ℕ). length next.gap + n) (length-append next.slice (drop to.at text))

pub step_made : (text : List ℕ) (from to : Spot) (t : Token) → from.at ≤ length text → to.at ≡ t.at + t.len → IsNext from.at (drop from.at text) t (drop to.at text)
    → ((k : ℕ) → to.at + k < to.plain → begins_colons (drop (to.at + k) text) ≡ false) → IsStep text from t to
step_made text from to t within ends next plain =
    let len = next_len text from to t next in
    let some = shape_some next.sort next.slice (drop to.at text) next.token.shape in
    let far = length-drop from.at text in
    record {
      next = next;
      ends = ends;
      inside = record {
        ends = omega (arith, within, len, far, next.at, next.len);
        quotes = omega (arith, next.len, quotes_len next.sort next.slice (drop to.at text) t.kind next.token.shape next.value);
      };
      spot = record { within = omega (arith, within, len, far, ends, next.at, next.len); plain = plain };
      rises = omega (arith, some, ends, next.at, next.len);
    }

-- what the gap says, of the text from a place on
gap_along : (text here : List ℕ) (at g : ℕ) → here ≡ drop at text → IsGap (take g here) (drop g here) → IsGap (take g (drop at text)) (drop g (drop at text))
gap_along text here at g is gap = let P : List ℕ → Type 0 = λ l. IsGap (take g l) (drop g l) in subst P is gap

end_along : (text here : List ℕ) (at g : ℕ) → here ≡ drop at text → HasNoSeparator (drop g here) → HasNoSeparator (drop g (drop at text))
end_along text here at g is bare = let P : List ℕ → Type 0 = λ l. HasNoSeparator (drop g l) in subst P is bare

-- how far the gap reaches
reach : (text here : List ℕ) (at g : ℕ) → at ≤ length text → here ≡ drop at text → g ≤ length here → at + g ≤ length text
reach text here at g within is gap = omega (arith, gap, ap (λ (l : List ℕ). length l) is, length-drop at text)

plain_along : (text rest : List ℕ) (from m k n : ℕ) → rest ≡ drop from text → m ≡ from + n → begins_colons (drop (n + k) rest) ≡ false → begins_colons (drop (m + k) text) ≡ false
plain_along text rest from m k n is to plain =
    let same : from + (n + k) ≡ m + k = omega (arith, to) in
    ap begins_colons (ap (λ (i : ℕ). drop i text) (sym same) ∙ sym (drop-drop (n + k) from text) ∙ ap (λ (l : List ℕ). drop (n + k) l) (sym is)) ∙ plain

module _ (text here rest : List ℕ) (at g : ℕ) (within : at ≤ length text) (here-is : here ≡ drop at text) (far : g ≤ length here) (gap : IsGap (take g here) (drop g here)) (rest-is : rest ≡ drop (at + g) text) where
  -- all of the text is read
  pub ended : length rest ≡ 0 → Lexes at (drop at text) []
  ended none = gap_ends text at g within (gap_along text here at g here-is gap) (ap (λ (l : List ℕ). length l) (sym rest-is) ∙ none)

  -- no token begins
  pub stuck : HasNoSeparator (drop g here) → 0 < length rest → HasNoToken rest → Stops at (drop at text) [] (at + g)
  stuck bare some none =
      let P : List ℕ → Type 0 = λ l. HasNoToken l in
      gap_stops text at g (reach text here at g within here-is far) (gap_along text here at g here-is gap) (end_along text here at g here-is bare)
      (omega (arith, some, ap (λ (l : List ℕ). length l) rest-is)) (subst P rest-is none)

  -- a token begins
  pub stepped : (from to : Spot) (kind : TokenKind) (n : ℕ) → from.at ≡ at → to.at ≡ at + g + n → Tells rest kind n
      → ((k : ℕ) → at + g + k < to.plain → begins_colons (drop k rest) ≡ false)
      → IsStep text from (record { kind = kind; at = at + g; len = n }) to
  stepped from to kind n from-is to-is tells plain =
      let P : List ℕ → Type 0 = λ l. Tells l kind n in
      let A : ℕ → Type 0 = λ m. IsNext m (drop m text) (record { kind = kind; at = at + g; len = n }) (drop to.at text) in
      let B : ℕ → Type 0 = λ m. IsNext at (drop at text) (record { kind = kind; at = at + g; len = n }) (drop m text) in
      let next = next_is text at g kind n (reach text here at g within here-is far) (gap_along text here at g here-is gap) (subst P rest-is tells) in
      step_made text from to (record { kind = kind; at = at + g; len = n }) (omega (arith, within, from-is)) to-is (subst A (sym from-is) (subst B (sym to-is) next))
      (λ k below. plain_along text rest (at + g) to.at k n rest-is to-is (plain (n + k) (omega (arith, below, to-is))))

pub none_stuck : (text : List ℕ) (spot : Spot) (fault : LexFault) → IsStuckFrom text spot fault → (ts : List Token) → LexesFrom text spot ts → ts ≡ []
none_stuck text spot (faults.Bad place) stuck ts lexes = lexes_or_stops spot.at (drop spot.at text) ts [] place lexes stuck
none_stuck text spot faults.Memory stuck ts lexes = absurd stuck

pub no_more : (text : List ℕ) (spot : Spot) (found : Option (Token × Spot)) → MatchOption found (LexesFrom text spot []) (λ next. IsStep text spot next.0 next.1)
    → MatchOption found ((ts : List Token) → LexesFrom text spot ts → ts ≡ []) (λ next. IsStep text spot next.0 next.1)
no_more text spot None none = λ ts lexes. lexes_once spot.at (drop spot.at text) ts [] lexes none
no_more text spot (Some next) step = step

-- ---- the ends of the tokens

pub stepped_on : (text : List ℕ) (from to : Spot) (t : Token) (found : Option (Token × Spot)) → found ≡ Some (t, to) → MatchOption found (LexesFrom text from []) (λ next. IsStep text from next.0 next.1) → IsStep text from t to
stepped_on text from to t found is step = let P : Option (Token × Spot) → Type 0 = λ o. MatchOption o (LexesFrom text from []) (λ next. IsStep text from next.0 next.1) in subst P is step

pub read_all : (text : List ℕ) (found : List Token) (to : Spot) → IsRead text found to → LexesFrom text to [] → Lexes 0 text found
read_all text found to read none = rw append-nil at (read.tokens [] none)

pub read_stuck : (text : List ℕ) (found : List Token) (to : Spot) (fault : LexFault) → IsRead text found to → IsStuckFrom text to fault → (place : ℕ) × (fault ≡ faults.Bad place) × Stops 0 text found place
read_stuck text found to (faults.Bad place) read stuck = (place, refl, rw append-nil at (read.stops [] place stuck))
read_stuck text found to faults.Memory read stuck = absurd stuck

pub stuck_bad : (text : List ℕ) (found : List Token) (to : Spot) (fault : LexFault) → IsRead text found to → IsStuckFrom text to fault → IsLexFault text fault
stuck_bad text found to (faults.Bad place) read stuck = (found, rw append-nil at (read.stops [] place stuck))
stuck_bad text found to faults.Memory read stuck = tt

pub stuck_only : {A : Type 0} (text : List ℕ) (found : List Token) (to : Spot) (fault : LexFault) → IsRead text found to → IsStuckFrom text to fault → (tokens : List Token) → Lexes 0 text tokens → A
stuck_only text found to fault read stuck tokens lexes = let stops = read_stuck text found to fault read stuck in lexes_or_stops 0 text tokens found stops.0 lexes stops.2

pub stuck_exact : (text : List ℕ) (found : List Token) (to : Spot) (fault : LexFault) → IsRead text found to → IsStuckFrom text to fault → (tokens : List Token) (place : ℕ) → Stops 0 text tokens place → IsBadAt fault place
stuck_exact text found to (faults.Bad place) read stuck tokens other stops = stops_once 0 text found tokens place other (rw append-nil at (read.stops [] place stuck)) stops
stuck_exact text found to faults.Memory read stuck tokens other stops = absurd stuck

-- a fault that is handed on

pub handed : {A : Type 0} (answer : Result A LexFault) (fault : LexFault) (P : LexFault → Type 0) → IsErrAnd answer (λ e. e ≡ fault) → P fault → IfErr answer P
handed (Ok x) fault P same is = absurd same
handed (Err e) fault P same is = subst P (sym same) is

pub handed_on : {A : Type 0} (answer : Result A LexFault) (fault : LexFault) (Q : A → Type 0) (P : LexFault → Type 0) → IsErrAnd answer (λ e. e ≡ fault) → P fault → MatchResult answer Q P
handed_on (Ok x) fault Q P same is = absurd same
handed_on (Err e) fault Q P same is = subst P (sym same) is
