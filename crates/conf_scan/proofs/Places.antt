-- Where the tokens of a text stand.
use Rattle.std.proofs.Common.{◌≡◌, ℕ, ◌+◌, ◌-◌, ◌<◌, List, [], ◌∷◌, ◌++◌, length, take, drop, refl, sym, ◌∙◌, ap, subst, arith, append_assoc}
use Rattle.std.proofs.lemmas.List.{length-append}
use Rattle.conf_scan.specs.declared.token.Token.{Token}
use Rattle.conf_scan.specs.Shapes.{IsToken, IsValue, IsGap}
use Rattle.conf_scan.specs.Lex.{IsNext, Lexes, Stops}
use Rattle.conf_scan.specs.Spans.{IsSpan, IsBetween}
use Rattle.conf_scan.proofs.Reached.{take_length, drop_length}
use Rattle.conf_scan.proofs.Tokens.{shape_some}

-- the text from a place on, where the bytes before it are known
drop_is : (text before rest : List ℕ) (n : ℕ) → text ≡ before ++ rest → n ≡ length before → drop n text ≡ rest
drop_is text before rest n cut len = ap (λ (m : ℕ). drop m text) len ∙ ap (λ (l : List ℕ). drop (length before) l) cut ∙ drop_length before rest

take_is : (text before rest : List ℕ) (n : ℕ) → text ≡ before ++ rest → n ≡ length before → take n text ≡ before
take_is text before rest n cut len = ap (λ (m : ℕ). take m text) len ∙ ap (λ (l : List ℕ). take (length before) l) cut ∙ take_length before rest

-- the next token, behind known bytes
span_next : (place : ℕ) (whole before text : List ℕ) (t : Token) (rest : List ℕ) → place ≡ length before → whole ≡ before ++ text → IsNext place text t rest → IsSpan whole t
span_next place whole before text t rest at cut next =
    let gapped : whole ≡ (before ++ next.gap) ++ (next.slice ++ rest) = cut ∙ ap (λ (l : List ℕ). before ++ l) next.whole ∙ sym (append_assoc before next.gap (next.slice ++ rest)) in
    let start : t.at ≡ length (before ++ next.gap) = omega (arith, next.at, at, length-append before next.gap) in
    let here : drop t.at whole ≡ next.slice ++ rest = drop_is whole (before ++ next.gap) (next.slice ++ rest) t.at gapped start in
    let slice : take t.len (drop t.at whole) ≡ next.slice = take_is (drop t.at whole) next.slice rest t.len here next.len in
    let read : whole ≡ ((before ++ next.gap) ++ next.slice) ++ rest = gapped ∙ sym (append_assoc (before ++ next.gap) next.slice rest) in
    let end : t.at + t.len ≡ length ((before ++ next.gap) ++ next.slice) = omega (arith, start, next.len, length-append (before ++ next.gap) next.slice) in
    let behind : drop (t.at + t.len) whole ≡ rest = drop_is whole ((before ++ next.gap) ++ next.slice) rest (t.at + t.len) read end in
    let P : List ℕ → Type 0 = λ l. IsToken l next.sort next.slice rest in
    let Q : List ℕ → Type 0 = λ l. IsToken (drop t.at whole) next.sort l rest in
    let R : List ℕ → Type 0 = λ l. IsToken (drop t.at whole) next.sort (take t.len (drop t.at whole)) l in
    let V : List ℕ → Type 0 = λ l. IsValue next.sort l t.kind in
    record {
      sort = next.sort;
      some = omega (arith, next.len, shape_some next.sort next.slice rest next.token.shape);
      within = omega (arith, end, ap (λ (l : List ℕ). length l) read, length-append ((before ++ next.gap) ++ next.slice) rest);
      token = subst R (sym behind) (subst Q (sym slice) (subst P (sym here) next.token));
      value = subst V (sym slice) next.value;
    }

-- the bytes up to the end of the next token
read_next : (place : ℕ) (whole before text : List ℕ) (t : Token) (rest : List ℕ) → place ≡ length before → whole ≡ before ++ text → IsNext place text t rest
    → (read : List ℕ) × (t.at + t.len ≡ length read) × (whole ≡ read ++ rest)
read_next place whole before text t rest at cut next = (
  (before ++ next.gap) ++ next.slice,
  omega (arith, next.at, next.len, at, length-append before next.gap, length-append (before ++ next.gap) next.slice),
  cut ∙ ap (λ (l : List ℕ). before ++ l) next.whole ∙ sym (append_assoc before next.gap (next.slice ++ rest)) ∙ sym (append_assoc (before ++ next.gap) next.slice rest),
)

span_from : (place : ℕ) (whole before text : List ℕ) (front back : List Token) (t : Token) → place ≡ length before → whole ≡ before ++ text → Lexes place text (front ++ t ∷ back) → IsSpan whole t
span_from place whole before text [] back t at cut lexes = span_next place whole before text t lexes.0 at cut lexes.1
span_from place whole before text (f ∷ front) back t at cut lexes =
    let read = read_next place whole before text f lexes.0 at cut lexes.1 in
    span_from (f.at + f.len) whole read.0 lexes.0 front back t read.1 read.2 lexes.2

pub span : (text : List ℕ) (front back : List Token) (t : Token) → Lexes 0 text (front ++ t ∷ back) → IsSpan text t
span text front back t lexes = span_from 0 text [] text front back t refl refl lexes

-- from a place on to the next token
between_next : (place : ℕ) (whole before text : List ℕ) (u : Token) (rest : List ℕ) → place ≡ length before → whole ≡ before ++ text → IsNext place text u rest → IsBetween whole place u.at
between_next place whole before text u rest at cut next =
    let here : drop place whole ≡ next.gap ++ (next.slice ++ rest) = drop_is whole before text place cut at ∙ next.whole in
    let len : u.at - place ≡ length next.gap = omega (arith, next.at) in
    let gap : take (u.at - place) (drop place whole) ≡ next.gap = take_is (drop place whole) next.gap (next.slice ++ rest) (u.at - place) here len in
    let gapped : whole ≡ (before ++ next.gap) ++ (next.slice ++ rest) = cut ∙ ap (λ (l : List ℕ). before ++ l) next.whole ∙ sym (append_assoc before next.gap (next.slice ++ rest)) in
    let behind : drop u.at whole ≡ next.slice ++ rest = drop_is whole (before ++ next.gap) (next.slice ++ rest) u.at gapped (omega (arith, next.at, at, length-append before next.gap)) in
    let P : List ℕ → Type 0 = λ l. IsGap l (next.slice ++ rest) in
    let Q : List ℕ → Type 0 = λ l. IsGap (take (u.at - place) (drop place whole)) l in
    record { rises = omega (arith, next.at); gap = subst Q (sym behind) (subst P (sym gap) next.separators) }

between_from : (place : ℕ) (whole before text : List ℕ) (front back : List Token) (t u : Token) → place ≡ length before → whole ≡ before ++ text → Lexes place text (front ++ t ∷ u ∷ back) → IsBetween whole (t.at + t.len) u.at
between_from place whole before text [] back t u at cut lexes =
    let read = read_next place whole before text t lexes.0 at cut lexes.1 in
    between_next (t.at + t.len) whole read.0 lexes.0 u lexes.2.0 read.1 read.2 lexes.2.1
between_from place whole before text (f ∷ front) back t u at cut lexes =
    let read = read_next place whole before text f lexes.0 at cut lexes.1 in
    between_from (f.at + f.len) whole read.0 lexes.0 front back t u read.1 read.2 lexes.2

pub between : (text : List ℕ) (front back : List Token) (t u : Token) → Lexes 0 text (front ++ t ∷ u ∷ back) → IsBetween text (t.at + t.len) u.at
between text front back t u lexes = between_from 0 text [] text front back t u refl refl lexes

-- the end of the next token and what is left are the whole text
next_end : (place : ℕ) (text : List ℕ) (t : Token) (rest : List ℕ) → IsNext place text t rest → t.at + t.len + length rest ≡ place + length text
next_end place text t rest next = omega (arith, next.at, next.len, ap (λ (l : List ℕ). length l) next.whole, length-append next.gap (next.slice ++ rest), length-append next.slice rest)

pub stops_within : (place : ℕ) (text : List ℕ) (ts : List Token) (stop : ℕ) → Stops place text ts stop → stop < place + length text
stops_within place text [] stop stuck = omega (arith, stuck.at, stuck.some, ap (λ (l : List ℕ). length l) stuck.whole, length-append stuck.gap stuck.rest)
stops_within place text (t ∷ ts) stop stops = omega (arith, stops_within (t.at + t.len) stops.0 ts stop stops.2, next_end place text t stops.0 stops.1)
