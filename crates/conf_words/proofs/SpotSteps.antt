-- Where a word of a text begins, found as the text is walked.
use Rattle.std.proofs.Common.{◌≡◌, ℕ, zero, suc, ◌+◌, ◌-◌, ◌≤◌, ◌<◌, get_or, if◌then◌else◌, Bool, true, false, cond, List, [], ◌∷◌, ◌++◌, length, map, drop, slice_index_or, refl, sym, subst, ◌∙◌, ap, arith, append_assoc, append-nil}
use Rattle.std.proofs.lemmas.List.{length-append, drop_at}
use Rattle.conf_scan.specs.Lex.{Lexes}
use Rattle.conf_scan.specs.Spots.{IsStuckFrom, LexesFrom}
use Rattle.conf_scan.specs.declared.lexer.Spot.{Spot}
use Rattle.conf_scan.specs.declared.token.LexFault.{LexFault}
use Rattle.conf_scan.specs.declared.token.LexFault.TheVariants as faults
use Rattle.conf_scan.specs.declared.token.Token.{Token}
use Rattle.conf_scan.proofs.Readings.{lexes_once, lexes_or_stops}
use Rattle.conf_lex.specs.Walks.{IsWordStep}
use Rattle.conf_lex.specs.Words.{words_from}
use Rattle.conf_lex.specs.declared.word.Word.{Word}
use Rattle.conf_words.specs.Marks.{IsAhead, IsSought, IsMark, AreMarks, first_mark}
use Rattle.conf_words.specs.Significant.{behind, is_significant, significant, token_of}
use Rattle.conf_words.specs.declared.significant.Mark.{Mark}
use Rattle.conf_words.specs.declared.significant.Region.{Region}
use Rattle.conf_words.specs.declared.significant.Region.TheVariants as regions
use Rattle.conf_words.proofs.SignificantSteps.{depth_more}

-- a place from which there are tokens isn't refused
pub never_stuck : (text : List ℕ) (spot : Spot) (fault : LexFault) → IsStuckFrom text spot fault → (tokens : List Token) × LexesFrom text spot tokens → LexesFrom text spot []
never_stuck text spot (faults.Bad place) stuck lexed = absurd (lexes_or_stops spot.at (drop spot.at text) lexed.0 [] place lexed.1 stuck)
never_stuck text spot faults.Memory stuck lexed = absurd stuck

-- ---- the first tokens of words

one_less : (b : Bool) (p : ℕ × Word) (ps : List (ℕ × Word)) (left fewer end : ℕ) → left ≡ fewer + cond b 1 0 → slice_index_or (map (λ q. q.0) (cond b (p ∷ ps) ps)) left end ≡ slice_index_or (map (λ q. q.0) ps) fewer end
one_less true p ps left fewer end e = let next : left ≡ suc fewer = omega (arith, e) in ap (λ (n : ℕ). slice_index_or (p.0 ∷ map (λ q. q.0) ps) n end) next
one_less false p ps left fewer end e = let same : left ≡ fewer = omega (arith, e) in ap (λ (n : ℕ). slice_index_or (map (λ q. q.0) ps) n end) same

none_less : (b : Bool) (p : ℕ × Word) (ps : List (ℕ × Word)) (left end : ℕ) → b ≡ true → left ≡ 0 → slice_index_or (map (λ q. q.0) (cond b (p ∷ ps) ps)) left end ≡ p.0
none_less b p ps left end is none = ap (λ (t : Bool). slice_index_or (map (λ q. q.0) (cond t (p ∷ ps) ps)) left end) is ∙ ap (λ (n : ℕ). slice_index_or (p.0 ∷ map (λ q. q.0) ps) n end) none

-- ---- the walk

-- before the first word
pub sought_none : (text : List ℕ) (place : ℕ) → IsSought text place place regions.Statements (record { at = 0; plain = 0 })
sought_none text place =
    record {
      spot = record { within = omega arith; plain = λ k below. absurd (omega (arith, below)) };
      deep = omega arith;
      ahead = λ tokens lexes. record { front = []; more = tokens; cut = refl; lexes = lexes; start = refl };
    }

-- there are tokens from there on, where the text has some
pub more_ahead : (text : List ℕ) (place left : ℕ) (region : Region) (to : Spot) → IsSought text place left region to → (tokens : List Token) × Lexes 0 text tokens → (more : List Token) × LexesFrom text to more
more_ahead text place left region to sought lexed = let h = sought.ahead lexed.0 lexed.1 in (h.more, h.lexes)

-- what is ahead, behind a word
start_more : (text : List ℕ) (tokens : List Token) (place left : ℕ) (region : Region) (from to : Spot) (word : Word) (step : IsWordStep text from word to) (h : IsAhead text tokens place left region from) (more : List Token) → h.more ≡ step.made ++ more → LexesFrom text to more
    → token_of text tokens place ≡ slice_index_or (map (λ p. p.0) (cond (is_significant region word) ((length h.front, word) ∷ significant (behind region word) (words_from text (length h.front + length step.made) 0 more)) (significant (behind region word) (words_from text (length h.front + length step.made) 0 more)))) left (length tokens)
start_more text tokens place left region from to word step h more back lexes =
    h.start
    ∙ ap (λ (l : List Token). slice_index_or (map (λ p. p.0) (significant region (words_from text (length h.front) 0 l))) left (length tokens)) back
    ∙ ap (λ (ps : List (ℕ × Word)). slice_index_or (map (λ p. p.0) (significant region ps)) left (length tokens)) (step.words (length h.front) more lexes)

ahead_more : (text : List ℕ) (tokens : List Token) (place left fewer : ℕ) (region : Region) (from to : Spot) (word : Word) → left ≡ fewer + cond (is_significant region word) 1 0 → IsWordStep text from word to → IsAhead text tokens place left region from → IsAhead text tokens place fewer (behind region word) to
ahead_more text tokens place left fewer region from to word count step h =
    let back = step.back h.more h.lexes in
    record {
      front = h.front ++ step.made;
      more = back.0;
      cut = h.cut ∙ ap (λ (l : List Token). h.front ++ l) back.1 ∙ sym (append_assoc h.front step.made back.0);
      lexes = back.2;
      start = start_more text tokens place left region from to word step h back.0 back.1 back.2
          ∙ one_less (is_significant region word) (length h.front, word) (significant (behind region word) (words_from text (length h.front + length step.made) 0 back.0)) left fewer (length tokens) count
          ∙ ap (λ (n : ℕ). slice_index_or (map (λ p. p.0) (significant (behind region word) (words_from text n 0 back.0))) fewer (length tokens)) (sym (length-append h.front step.made));
    }

pub sought_more : (text : List ℕ) (place left fewer : ℕ) (region : Region) (from to : Spot) (word : Word) → left ≡ fewer + cond (is_significant region word) 1 0 → IsWordStep text from word to → IsSought text place left region from → IsSought text place fewer (behind region word) to
sought_more text place left fewer region from to word count step sought =
    record {
      spot = step.spot;
      deep = omega (arith, depth_more region word, sought.deep, step.rises);
      ahead = λ tokens lexes. ahead_more text tokens place left fewer region from to word count step (sought.ahead tokens lexes);
    }

-- the tokens from a place on, of which the number is told
from_start : (text : List ℕ) (tokens front more : List Token) (to : Spot) (start : ℕ) → tokens ≡ front ++ more → start ≡ length front → LexesFrom text to more → LexesFrom text to (drop start tokens)
from_start text tokens front more to start cut is lexes =
    let behind-is : drop start tokens ≡ more = ap (λ (l : List Token). drop start l) cut ∙ drop_at front more start (sym is) in
    let P : List Token → Type 0 = λ l. LexesFrom text to l in
    subst P (sym behind-is) lexes

-- the word that is looked for
pub sought_here : (text : List ℕ) (place left : ℕ) (region : Region) (from to : Spot) (word : Word) → is_significant region word ≡ true → left ≡ 0 → IsWordStep text from word to → IsSought text place left region from → (tokens : List Token) → Lexes 0 text tokens → LexesFrom text from (drop (token_of text tokens place) tokens)
sought_here text place left region from to word is none step sought tokens lexes =
    let h = sought.ahead tokens lexes in
    let back = step.back h.more h.lexes in
    from_start text tokens h.front h.more from (token_of text tokens place) h.cut
    (start_more text tokens place left region from to word step h back.0 back.1 back.2
    ∙ none_less (is_significant region word) (length h.front, word) (significant (behind region word) (words_from text (length h.front + length step.made) 0 back.0)) left (length tokens) is none)
    h.lexes

-- the end of the words
pub sought_end : (text : List ℕ) (place left : ℕ) (region : Region) (to : Spot) → LexesFrom text to [] → IsSought text place left region to → (tokens : List Token) → Lexes 0 text tokens → LexesFrom text to (drop (token_of text tokens place) tokens)
sought_end text place left region to none sought tokens lexes =
    let h = sought.ahead tokens lexes in
    let nothing : h.more ≡ [] = lexes_once to.at (drop to.at text) h.more [] h.lexes none in
    from_start text tokens tokens [] to (token_of text tokens place) (sym (append-nil tokens))
    (h.start ∙ ap (λ (l : List Token). slice_index_or (map (λ p. p.0) (significant region (words_from text (length h.front) 0 l))) left (length tokens)) nothing)
    none

-- ---- marks

pub first_is : (text : List ℕ) → IsMark text first_mark
first_is text =
    let P : ℕ → ℕ → Type 0 = λ place left. IsSought text place left regions.Statements (record { at = 0; plain = 0 }) in
    let passed : (place : ℕ) → 0 ≤ place → P place (place - 0) = λ place low. let same : place ≡ place - 0 = omega arith in subst (P place) same (sought_none text place) in
    record { passed = passed }

-- behind a word
pub mark_more : (text : List ℕ) (count next : ℕ) (region : Region) (from to : Spot) (word : Word) → next ≡ count + cond (is_significant region word) 1 0 → IsWordStep text from word to → IsMark text (record { count = count; region = region; spot = from }) → IsMark text (record { count = next; region = behind region word; spot = to })
mark_more text count next region from to word is step m =
    record { passed = λ place low. sought_more text place (place - count) (place - next) region from to word (omega (arith, low, is)) step (m.passed place (omega (arith, low, is))) }

pub kept_count : (found : List Word) (b : Bool) (word : Word) → length (found ++ cond b (word ∷ []) []) ≡ length found + cond b 1 0
kept_count found true word = length-append found (word ∷ [])
kept_count found false word = length-append found []

pub no_marks : (text : List ℕ) → AreMarks text []
no_marks text = λ d n low. absurd (omega (arith, low))

marks_end : (text : List ℕ) (ms : List Mark) (m d : Mark) → IsMark text m → ((n : ℕ) → n < length ms → IsMark text (get_or ms n d)) → (n : ℕ) → n < length (ms ++ m ∷ []) → IsMark text (get_or (ms ++ m ∷ []) n d)
marks_end text [] m d is all zero low = is
marks_end text [] m d is all (suc n) low = absurd (omega (arith, low))
marks_end text (x ∷ ms) m d is all zero low = all 0 (omega arith)
marks_end text (x ∷ ms) m d is all (suc n) low = marks_end text ms m d is (λ k lt. all (suc k) (omega (arith, lt))) n (omega (arith, low))

pub marks_more : (text : List ℕ) (ms : List Mark) (m : Mark) → IsMark text m → AreMarks text ms → AreMarks text (ms ++ m ∷ [])
marks_more text ms m is all = λ d n low. marks_end text ms m d is (all d) n low

-- one more, where there was memory for it
pub marks_pushed : (text : List ℕ) (ms pushed : List Mark) (m : Mark) (ok : Bool) → pushed ≡ (if ok then ms ++ m ∷ [] else ms) → IsMark text m → AreMarks text ms → AreMarks text pushed
marks_pushed text ms pushed m true is mark all = subst (λ (l : List Mark). AreMarks text l) (sym is) (marks_more text ms m mark all)
marks_pushed text ms pushed m false is mark all = subst (λ (l : List Mark). AreMarks text l) (sym is) all
