-- How the tokens of a text are refused, by places among its words: in one way at most, and only where they are none.
use Rattle.std.proofs.Common.{◌≡◌, ◌⊎◌, ℕ, ◌+◌, ◌≤◌, List, [], ◌++◌, length, take, drop, slice_index_or, IsSomeAnd, refl, sym, ap, subst, ◌∙◌, arith, inl, inr}
use Rattle.std.proofs.lemmas.List.{length-append, length-drop, drop_at, take_at}
use Rattle.std.specs.Borrow.{Bor}
use Rattle.conf_scan.specs.declared.token.Token.{Token}
use Rattle.conf_lex.specs.declared.word.Word.{Word}
use Rattle.conf_lex.specs.Grammar.{Bad, TooDeep, ParseTree}
use Rattle.conf_lex.specs.Reading.{Parsed, Failed}
use Rattle.conf_lex.specs.Agrees.{AgreesOnError}
use Rattle.conf_lex.specs.declared.refusal.Refusal.{Refusal}
use Rattle.conf_lex.specs.declared.refusal.Refusal.TheVariants as refusals
use Rattle.conf_lex.specs.Sentences.{IsBegunWithin, IsTooDeep}
use Rattle.expr_syntax.specs.Syntax.{rule}
use Rattle.filt_syntax.specs.declared.parse.SyntaxFault.{SyntaxFault}
use Rattle.filt_syntax.specs.declared.parse.SyntaxFault.TheVariants as faults
use Rattle.filt_syntax.specs.RefusedToken.{IsPastAt, IsBadFrom}
use Rattle.filt_syntax.proofs.RefusedTokens.{one_past_at}
use Rattle.conf_lex.proofs.PartShapes.{bad_from, deep_from}
use Rattle.conf_syntax.specs.Syntax.{config}
use Rattle.conf_tree.specs.Readers.{whole_at, EndsInLast, StopsIn, IsTooDeepAt, IsRefusedAt}
use Rattle.conf_tree.specs.declared.read.Refused.{Refused}
use Rattle.conf_tree.specs.declared.read.Refused.TheVariants as refused
use Rattle.conf_words.specs.Significant.{significant_words, significant_starts, token_of}
use Rattle.conf_tree.specs.Sentence.{word_bytes, IsUnsupported, IsKnown, Refuses, IsBadAt, IsSentence, IsStop, StopsAt, DeepensAt, IsRefused}
use Rattle.conf_tree.proofs.Whole.{sentence_is, bad_is_stop, stop_is_bad, deep_is_deep, deep_is_fault}

-- ---- places

pub rest_at : (significant before rest : List Word) (place : ℕ) → place + length rest ≡ length significant → significant ≡ before ++ rest → drop place significant ≡ rest
rest_at significant before rest place len is =
    let count : length before ≡ place = omega (arith, len, ap (λ (u : List Word). length u) is, length-append before rest) in
    ap (λ (u : List Word). drop place u) is ∙ drop_at before rest place count

pub front_at : (significant before rest : List Word) (place : ℕ) → place + length rest ≡ length significant → significant ≡ before ++ rest → take place significant ≡ before
front_at significant before rest place len is =
    let count : length before ≡ place = omega (arith, len, ap (λ (u : List Word). length u) is, length-append before rest) in
    ap (λ (u : List Word). take place u) is ∙ take_at before rest place count

same_place : (significant : List Word) (m n : ℕ) → m ≤ length significant → n ≤ length significant → drop m significant ≡ drop n significant → m ≡ n
same_place significant m n low high e = omega (arith, low, high, ap (λ (u : List Word). length u) e, length-drop m significant, length-drop n significant)

-- no more is left than there was
pub stop_fewer : (significant rest : List Word) → IsStop significant rest → length rest ≤ length significant
stop_fewer significant rest s = omega (arith, ap (λ (u : List Word). length u) s.front, length-append s.before rest)

pub deep_fewer : (significant rest : List Word) → IsTooDeep rule 64 config significant rest → length rest ≤ length significant
deep_fewer significant rest h = omega (arith, ap (λ (u : List Word). length u) h.front, length-append h.before rest)

-- the words before the place begin a configuration
pub begun_before : (significant rest : List Word) (place : ℕ) → place + length rest ≡ length significant → IsStop significant rest → IsBegunWithin rule 64 config (take place significant)
begun_before significant rest place len s = subst (λ (u : List Word). IsBegunWithin rule 64 config u) (sym (front_at significant s.before rest place len s.front)) s.begun

-- ---- what is answered

stops_at : (text : List ℕ) (tokens : List Token) (rest : List Word) (place at : ℕ) → place + length rest ≡ length (significant_words text tokens) → at ≡ token_of text tokens place → IsStop (significant_words text tokens) rest → StopsAt text tokens place at
stops_at text tokens rest place at len is s =
    record { within = omega (arith, len); stop = subst (λ (u : List Word). IsStop (significant_words text tokens) u) (sym (rest_at (significant_words text tokens) s.before rest place len s.front)) s; token = is }

-- what is known of the word in this place of these
abbrev Known : List ℕ → List Token → List Word → ℕ → ℕ → Type 0
Known text tokens significant place at = IsSomeAnd (word_bytes (drop place significant) text (drop at tokens)) (IsUnsupported (take place significant))

pub bad_refuses : (known : Type 0) (significant : List Word) (place at : ℕ) (e : SyntaxFault) → (known → ⊥) → IsBadFrom config significant place at e → Refuses known significant place at e
bad_refuses known significant place at (faults.Bad token) none h = (none, h.0, h.1, h.2)
bad_refuses known significant place at (faults.TooDeep token) none h = h
bad_refuses known significant place at (faults.Unsupported token) none h = absurd h
bad_refuses known significant place at faults.Memory none h = tt

pub stop_told : (text : List ℕ) (tokens : List Token) (rest : List Word) (place at : ℕ) → place + length rest ≡ length (significant_words text tokens) → at ≡ token_of text tokens place → IsStop (significant_words text tokens) rest → (e : SyntaxFault) → Refuses (Known text tokens (significant_words text tokens) place at) (significant_words text tokens) place at e → IsRefused text tokens e
stop_told text tokens rest place at len is s (faults.Bad token) h = (place, record { start = at; stops = stops_at text tokens rest place at len is s; unknown = h.0; past = h.1; is_past = h.2; token = h.3 })
stop_told text tokens rest place at len is s (faults.Unsupported token) h = (place, stops_at text tokens rest place token len (h.0 ∙ is) s, subst (λ (n : ℕ). Known text tokens (significant_words text tokens) place n) (sym h.0) h.1)
stop_told text tokens rest place at len is s (faults.TooDeep token) h = absurd h
stop_told text tokens rest place at len is s faults.Memory h = tt

pub stop_refused : (text : List ℕ) (tokens : List Token) (significant : List Word) (starts : List ℕ) → significant ≡ significant_words text tokens → starts ≡ significant_starts text tokens → (rest : List Word) (place at : ℕ) → place + length rest ≡ length significant → at ≡ slice_index_or starts place (length tokens) → IsStop significant rest → (e : SyntaxFault) → Refuses (IsSomeAnd (word_bytes (drop place significant) text (drop at tokens)) (IsUnsupported (take place significant))) significant place at e → IsRefused text tokens e
stop_refused text tokens significant starts words-are starts-are rest place at len is s e h =
    stop_told text tokens rest place at
    (subst (λ (u : List Word). place + length rest ≡ length u) words-are len)
    (subst (λ (u : List ℕ). at ≡ slice_index_or u place (length tokens)) starts-are is)
    (subst (λ (u : List Word). IsStop u rest) words-are s) e
    (subst (λ (u : List Word). Refuses (Known text tokens u place at) u place at e) words-are h)

pub deep_told : (text : List ℕ) (tokens : List Token) (rest : List Word) (place at : ℕ) → place + length rest ≡ length (significant_words text tokens) → at ≡ token_of text tokens place → IsTooDeep rule 64 config (significant_words text tokens) rest → IsRefused text tokens (faults.TooDeep at)
deep_told text tokens rest place at len is h =
    (place, record { within = omega (arith, len); deep = subst (λ (u : List Word). IsTooDeep rule 64 config (significant_words text tokens) u) (sym (rest_at (significant_words text tokens) h.before rest place len h.front)) h; token = is })

pub deep_refused : (text : List ℕ) (tokens : List Token) (significant : List Word) (starts : List ℕ) → significant ≡ significant_words text tokens → starts ≡ significant_starts text tokens → (rest : List Word) (place at : ℕ) → place + length rest ≡ length significant → at ≡ slice_index_or starts place (length tokens) → IsTooDeep rule 64 config significant rest → IsRefused text tokens (faults.TooDeep at)
deep_refused text tokens significant starts words-are starts-are rest place at len is h =
    deep_told text tokens rest place at
    (subst (λ (u : List Word). place + length rest ≡ length u) words-are len)
    (subst (λ (u : List ℕ). at ≡ slice_index_or u place (length tokens)) starts-are is)
    (subst (λ (u : List Word). IsTooDeep rule 64 config u rest) words-are h)

-- ---- and nothing else

stops_same : (text : List ℕ) (tokens : List Token) (m n a b : ℕ) → StopsAt text tokens m a → StopsAt text tokens n b → (m ≡ n) × (a ≡ b)
stops_same text tokens m n a b h g =
    let one = stop_is_bad (significant_words text tokens) (drop m (significant_words text tokens)) h.stop in
    let two = stop_is_bad (significant_words text tokens) (drop n (significant_words text tokens)) g.stop in
    let same : Failed Bad (drop m (significant_words text tokens)) ≡ Failed Bad (drop n (significant_words text tokens)) = sym one ∙ two in
    let rest : drop m (significant_words text tokens) ≡ drop n (significant_words text tokens) = cc in
    let place = same_place (significant_words text tokens) m n h.within g.within rest in
    (place, h.token ∙ ap (λ (k : ℕ). token_of text tokens k) place ∙ sym g.token)

deep_same : (text : List ℕ) (tokens : List Token) (m n a b : ℕ) → DeepensAt text tokens m a → DeepensAt text tokens n b → a ≡ b
deep_same text tokens m n a b h g =
    let one = deep_is_fault (significant_words text tokens) (drop m (significant_words text tokens)) h.deep in
    let two = deep_is_fault (significant_words text tokens) (drop n (significant_words text tokens)) g.deep in
    let same : Failed TooDeep (drop m (significant_words text tokens)) ≡ Failed TooDeep (drop n (significant_words text tokens)) = sym one ∙ two in
    let rest : drop m (significant_words text tokens) ≡ drop n (significant_words text tokens) = cc in
    let place = same_place (significant_words text tokens) m n h.within g.within rest in
    h.token ∙ ap (λ (k : ℕ). token_of text tokens k) place ∙ sym g.token

stop_not_deep : (text : List ℕ) (tokens : List Token) (m n a b : ℕ) → StopsAt text tokens m a → DeepensAt text tokens n b → ⊥
stop_not_deep text tokens m n a b h g =
    let one = stop_is_bad (significant_words text tokens) (drop m (significant_words text tokens)) h.stop in
    let two = deep_is_fault (significant_words text tokens) (drop n (significant_words text tokens)) g.deep in
    let same : Failed Bad (drop m (significant_words text tokens)) ≡ Failed TooDeep (drop n (significant_words text tokens)) = sym one ∙ two in
    cc

bads_same : (text : List ℕ) (tokens : List Token) (m n a b : ℕ) → IsBadAt text tokens m a → IsBadAt text tokens n b → a ≡ b
bads_same text tokens m n a b h g =
    let same = stops_same text tokens m n h.start g.start h.stops g.stops in
    let past = one_past_at config (significant_words text tokens) n h.past g.past (subst (λ (k : ℕ). IsPastAt config (significant_words text tokens) k h.past) same.0 h.is_past) g.is_past in
    omega (arith, h.token, g.token, same.1, past)

known_same : (text : List ℕ) (tokens : List Token) (m n a b : ℕ) → (m ≡ n) × (a ≡ b) → IsKnown text tokens m a → IsKnown text tokens n b
known_same text tokens m n a b same known = subst (λ (k : ℕ). IsKnown text tokens k b) same.0 (subst (λ (k : ℕ). IsKnown text tokens m k) same.1 known)

sentence_no_stop : (text : List ℕ) (tokens : List Token) (t : ParseTree) (m a : ℕ) → IsSentence (significant_words text tokens) t → StopsAt text tokens m a → ⊥
sentence_no_stop text tokens t m a s h =
    let same : Parsed t [] ≡ Failed Bad (drop m (significant_words text tokens)) = sym (sentence_is (significant_words text tokens) t s) ∙ stop_is_bad (significant_words text tokens) (drop m (significant_words text tokens)) h.stop in
    cc

sentence_no_deep : (text : List ℕ) (tokens : List Token) (t : ParseTree) (m a : ℕ) → IsSentence (significant_words text tokens) t → DeepensAt text tokens m a → ⊥
sentence_no_deep text tokens t m a s h =
    let same : Parsed t [] ≡ Failed TooDeep (drop m (significant_words text tokens)) = sym (sentence_is (significant_words text tokens) t s) ∙ deep_is_fault (significant_words text tokens) (drop m (significant_words text tokens)) h.deep in
    cc

-- words that are a configuration are refused at no place
pub sentence_memory : (text : List ℕ) (tokens : List Token) (t : ParseTree) → IsSentence (significant_words text tokens) t → (e : SyntaxFault) → IsRefused text tokens e → e ≡ faults.Memory
sentence_memory text tokens t s (faults.Bad at) h = absurd (sentence_no_stop text tokens t h.0 h.1.start s h.1.stops)
sentence_memory text tokens t s (faults.Unsupported at) h = absurd (sentence_no_stop text tokens t h.0 at s h.1)
sentence_memory text tokens t s (faults.TooDeep at) h = absurd (sentence_no_deep text tokens t h.0 at s h.1)
sentence_memory text tokens t s faults.Memory h = refl

-- they have one tree
pub one_tree : (significant : List Word) (t u : ParseTree) → IsSentence significant t → IsSentence significant u → t ≡ u
one_tree significant t u s r = let same : Parsed t [] ≡ Parsed u [] = sym (sentence_is significant t s) ∙ sentence_is significant u r in cc

-- one refusal is the other, unless memory ran out
abbrev pub IsSameFault : SyntaxFault → SyntaxFault → Type 0
IsSameFault d faults.Memory = Unit {0}
IsSameFault d e = (d ≡ faults.Memory) ⊎ (d ≡ e)

-- and words have one refusal
pub one_fault : (text : List ℕ) (tokens : List Token) (d : SyntaxFault) → IsRefused text tokens d → (e : SyntaxFault) → IsRefused text tokens e → IsSameFault d e
one_fault text tokens d h faults.Memory g = tt
one_fault text tokens faults.Memory h (faults.Bad b) g = inl refl
one_fault text tokens faults.Memory h (faults.TooDeep b) g = inl refl
one_fault text tokens faults.Memory h (faults.Unsupported b) g = inl refl
one_fault text tokens (faults.Bad a) h (faults.Bad b) g = inr (ap (λ (n : ℕ). faults.Bad n) (bads_same text tokens h.0 g.0 a b h.1 g.1))
one_fault text tokens (faults.Bad a) h (faults.TooDeep b) g = absurd (stop_not_deep text tokens h.0 g.0 h.1.start b h.1.stops g.1)
one_fault text tokens (faults.Bad a) h (faults.Unsupported b) g = absurd (h.1.unknown (known_same text tokens g.0 h.0 b h.1.start (stops_same text tokens g.0 h.0 b h.1.start g.1 h.1.stops) g.2))
one_fault text tokens (faults.TooDeep a) h (faults.Bad b) g = absurd (stop_not_deep text tokens g.0 h.0 g.1.start a g.1.stops h.1)
one_fault text tokens (faults.TooDeep a) h (faults.TooDeep b) g = inr (ap (λ (n : ℕ). faults.TooDeep n) (deep_same text tokens h.0 g.0 a b h.1 g.1))
one_fault text tokens (faults.TooDeep a) h (faults.Unsupported b) g = absurd (stop_not_deep text tokens g.0 h.0 b a g.1 h.1)
one_fault text tokens (faults.Unsupported a) h (faults.Bad b) g = absurd (g.1.unknown (known_same text tokens h.0 g.0 a g.1.start (stops_same text tokens h.0 g.0 a g.1.start h.1 g.1.stops) h.2))
one_fault text tokens (faults.Unsupported a) h (faults.TooDeep b) g = absurd (stop_not_deep text tokens h.0 g.0 a b h.1 g.1)
one_fault text tokens (faults.Unsupported a) h (faults.Unsupported b) g = inr (ap (λ (n : ℕ). faults.Unsupported n) (stops_same text tokens h.0 g.0 a b h.1 g.1).1)

-- ---- the parser's answers

pub answer_stop : (ws significant : List Word) (e : Refusal) (rest : Bor (List Word)) → ws ≡ significant → e ≡ refusals.Bad rest → AgreesOnError e (whole_at 64 ws) → IsStop significant rest.now
answer_stop ws significant e rest is why failed = bad_is_stop significant rest.now (bad_from e rest (whole_at 64 significant) why (subst (λ (u : List Word). AgreesOnError e (whole_at 64 u)) is failed))

pub answer_deep : (ws significant : List Word) (e : Refusal) (rest : Bor (List Word)) → ws ≡ significant → e ≡ refusals.TooDeep rest → AgreesOnError e (whole_at 64 ws) → IsTooDeep rule 64 config significant rest.now
answer_deep ws significant e rest is why failed = deep_is_deep significant rest.now (deep_from e rest (whole_at 64 significant) why (subst (λ (u : List Word). AgreesOnError e (whole_at 64 u)) is failed))

-- and its places
pub stop_at : (ws items : List Word) (e : Refused) (from at begin place : ℕ) → e ≡ refused.Bad begin place → from ≡ begin → at ≡ place → ws ≡ items → IsRefusedAt ws e → StopsIn items from at
stop_at ws items e from at begin place is same also are h =
    subst (λ (u : List Word). StopsIn u from at) are
    (subst (λ (n : ℕ). StopsIn ws from n) (sym also) (subst (λ (n : ℕ). StopsIn ws n place) (sym same) (subst (λ (f : Refused). IsRefusedAt ws f) is h)))

pub deep_at : (ws items : List Word) (e : Refused) (at place : ℕ) → e ≡ refused.TooDeep place → at ≡ place → ws ≡ items → IsRefusedAt ws e → IsTooDeepAt items at
deep_at ws items e at place is same are h =
    subst (λ (u : List Word). IsTooDeepAt u at) are (subst (λ (n : ℕ). IsTooDeepAt ws n) (sym same) (subst (λ (f : Refused). IsRefusedAt ws f) is h))

-- where the statement begins
pub stops_in : (ws : List Word) (left from place : ℕ) (rest : List Word) → EndsInLast 64 ws left → from + left ≡ length ws → place + length rest ≡ length ws → whole_at 64 ws ≡ Failed Bad rest → StopsIn ws from place
stops_in ws left from place rest e begins at failed =
    record {
      front = e.front;
      last = e.last;
      rest = rest;
      tree = e.tree;
      cut = e.cut;
      before = omega (arith, begins, e.count, ap (λ (u : List Word). length u) e.cut, length-append e.front e.last);
      complete = record { fits = e.fits; whole = e.whole; levels = e.levels };
      at = at;
      stop = bad_is_stop ws rest failed;
      stops = bad_is_stop e.last rest (e.alone Bad rest failed);
    }

pub last_within : (ws : List Word) (left : ℕ) → EndsInLast 64 ws left → left ≤ length ws
last_within ws left e = omega (arith, e.count, ap (λ (u : List Word). length u) e.cut, length-append e.front e.last)
