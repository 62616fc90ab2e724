-- How far behind its first token a refused word is refused.
use Rattle.std.proofs.Common.{◌≡◌, ◌↔◌, ℕ, zero, suc, ◌+◌, ◌-◌, ◌≤◌, Bool, true, false, cond, if◌then◌else◌, IsTrue, not, List, [], ◌∷◌, ◌++◌, length, map, take, drop, slice_index_or, refl, sym, ap, subst, ◌∙◌, arith, inl, inr}
use Rattle.expr_syntax.specs.Levels.{Form}
use Rattle.std.proofs.lemmas.Bool.{false≢true}
use Rattle.std.proofs.lemmas.List.{length-append}
use Rattle.bits_ip.specs.declared.address.Addr.{Addr}
use Rattle.conf_lex.specs.Words.{first_word, words_from}
use Rattle.conf_scan.specs.declared.token.Token.{Token}
use Rattle.conf_lex.specs.declared.word.Word.{Word}
use Rattle.conf_lex.specs.declared.word.Word.TheVariants as words
use Rattle.conf_lex.proofs.Unique.{fronts}
use Rattle.filt_syntax.specs.declared.parse.SyntaxFault.{SyntaxFault}
use Rattle.filt_syntax.specs.declared.parse.SyntaxFault.TheVariants as faults
use Rattle.filt_syntax.specs.declared.refused_token.Tear.{Tear}
use Rattle.filt_syntax.specs.declared.refused_token.Torn.{Torn}
use Rattle.filt_syntax.specs.declared.refused_token.Torn.TheVariants as torns
use Rattle.filt_syntax.specs.RefusedToken.{CanFollow, some_prefix, some_address, EndInAddress, IsCount, IsPast, IsPastFirst, IsPastAt, IsBadBehind, IsBadFrom, tear_of}
use Rattle.filt_syntax.specs.Inside.{is_address_word}
use Rattle.filt_syntax.specs.Inside.{IsToldAs}

-- ---- the last word

pub last_is : (a b : List Word) (v w : Word) → a ++ v ∷ [] ≡ b ++ w ∷ [] → (a ≡ b) × (v ≡ w)
last_is a b v w e = elim (fronts a (v ∷ []) b (w ∷ []) e) [
  | inl h ↦ let same : v ≡ w = let p = h.1 in cc in (h.0, same)
  | inr h ↦ elim h [
    | inl l ↦ absurd (omega (arith, ap (λ (u : List Word). length u) l.rest, length-append l.more (v ∷ [])))
    | inr l ↦ absurd (omega (arith, ap (λ (u : List Word). length u) l.rest, length-append l.more (w ∷ [])))
  ]
]

address_word : (w : Word) → is_address_word w ≡ true → (at : ℕ) × (addr : Addr) × (w ≡ words.Ip at addr)
address_word (words.Ip at addr) e = (at, addr, refl)
address_word (words.Name at start len) e = absurd cc
address_word (words.Number at value) e = absurd cc
address_word (words.Text at start len) e = absurd cc
address_word (words.Prefix at net) e = absurd cc
address_word (words.BadPrefix at) e = absurd cc
address_word (words.Attribute at a) e = absurd cc
address_word (words.Constant at c) e = absurd cc
address_word (words.Symbol s) e = absurd cc
address_word (words.Placed at s) e = absurd cc

pub ends_is : (f : Form) (before front : List Word) (at : ℕ) (addr : Addr) (asked : Word) (b : Bool) → before ≡ front ++ words.Ip at addr ∷ [] → asked ≡ some_prefix → IsTrue b ↔ CanFollow f front asked → IsTrue b ↔ EndInAddress f before
ends_is f before front at addr asked b cut is told = (
  λ t. record { front = front; at = at; addr = addr; cut = cut; prefix = subst (λ (w : Word). CanFollow f front w) is (told.0 t) },
  λ e. told.1 (subst (λ (w : Word). CanFollow f front w) (sym is) (subst (λ (u : List Word). CanFollow f u some_prefix) (last_is e.front front (words.Ip e.at e.addr) (words.Ip at addr) (sym e.cut ∙ cut)).0 e.prefix)),
)

-- an address stood behind these words
pub place_is : (f : Form) (before : List Word) (w asked : Word) (b : Bool) → is_address_word w ≡ true → asked ≡ some_prefix → IsTrue b ↔ CanFollow f before asked → IsTrue b ↔ EndInAddress f (before ++ w ∷ [])
place_is f before w asked b e is told =
    let p = address_word w e in
    ends_is f (before ++ w ∷ []) before p.0 p.1 asked b (ap (λ (x : Word). before ++ x ∷ []) p.2) is told

-- another word did
pub no_place : (f : Form) (before : List Word) (w : Word) → is_address_word w ≡ false → IsTrue false ↔ EndInAddress f (before ++ w ∷ [])
no_place f before w e = (
  λ yes. absurd (false≢true yes),
  λ h. absurd (false≢true (sym e ∙ ap is_address_word (last_is before h.front w (words.Ip h.at h.addr) h.cut).1)),
)

-- or none
pub none_ends : (f : Form) (ws : List Word) → length ws ≡ 0 → IsTrue false ↔ EndInAddress f ws
none_ends f ws none = (
  λ yes. absurd (false≢true yes),
  λ h. absurd (omega (arith, none, ap (λ (u : List Word). length u) h.cut, length-append h.front (words.Ip h.at h.addr ∷ []))),
)

-- ---- counts

pub counted : (P : Type 0) (b : Bool) (most n : ℕ) → IsTrue b ↔ P → n ≡ cond b most 0 → IsCount P most n
counted P true most n told is = inl (told.0 refl, is)
counted P false most n told is = inr (λ p. false≢true (told.1 p), is)

abbrev Alone : Form → List Word → Word → Word → Type 0
Alone f before one other = CanFollow f before one × (CanFollow f before other → ⊥)

-- the one word can't stand behind the words
pub alone_not : (f : Form) (before : List Word) (one other : Word) (can : Bool) → can ≡ false → IsTrue can ↔ CanFollow f before one → IsTrue false ↔ Alone f before one other
alone_not f before one other can is told = (λ yes. absurd (false≢true yes), λ h. absurd (false≢true (sym is ∙ told.1 h.0)))

-- it can, and the other is asked behind the same words
pub alone_by : (f : Form) (before again : List Word) (one other : Word) (can can_other : Bool) → can ≡ true → again ≡ before → IsTrue can ↔ CanFollow f before one → IsTrue can_other ↔ CanFollow f again other → IsTrue (not can_other) ↔ Alone f before one other
alone_by f before again one other can true is same told never = (
  λ yes. absurd (false≢true yes),
  λ h. absurd (h.1 (subst (λ (u : List Word). CanFollow f u other) same (never.0 refl))),
)
alone_by f before again one other can false is same told never = (
  λ yes. (told.0 is, λ h. false≢true (never.1 (subst (λ (u : List Word). CanFollow f u other) (sym same) h))),
  λ h. refl,
)

alone_is : (f : Form) (before : List Word) (a b one other : Word) (found : Bool) → a ≡ one → b ≡ other → IsTrue found ↔ Alone f before a b → IsTrue found ↔ Alone f before one other
alone_is f before a b one other found is same told =
    subst (λ (w : Word). IsTrue found ↔ Alone f before one w) same (subst (λ (w : Word). IsTrue found ↔ Alone f before w b) is told)

pub prefix_past : (f : Form) (before : List Word) (torn : Torn) (slash : Bool) (a b : Word) (found : Bool) (n : ℕ) → torn ≡ torns.Prefix → a ≡ some_address → b ≡ some_prefix → IsTrue found ↔ Alone f before a b → n ≡ cond found 1 0 → IsPast f before torn slash n
prefix_past f before torn slash a b found n is one other told c =
    subst (λ (t : Torn). IsPast f before t slash n) (sym is) (counted (Alone f before some_address some_prefix) found 1 n (alone_is f before a b some_address some_prefix found one other told) c)

pub address_past : (f : Form) (before : List Word) (torn : Torn) (slash : Bool) (a b : Word) (found : Bool) (most n : ℕ) → torn ≡ torns.Address → a ≡ some_prefix → b ≡ some_address → IsTrue found ↔ Alone f before a b → most ≡ (if slash then 2 else 1) → n ≡ cond found most 0 → IsPast f before torn slash n
address_past f before torn slash a b found most n is one other told size c =
    subst (λ (t : Torn). IsPast f before t slash n) (sym is) (counted (Alone f before some_prefix some_address) found (if slash then 2 else 1) n (alone_is f before a b some_prefix some_address found one other told) (c ∙ ap (λ (m : ℕ). cond found m 0) size))

-- ---- the first of some words

past_there : (f : Form) (before rest : List Word) (n : ℕ) → IsPast f before (tear_of rest).torn (tear_of rest).slash n → IsPastFirst f before rest n
past_there f before [] n h = h
past_there f before (w ∷ ws) n h = h

pub tear_is : (tear : Tear) (rest words : List Word) → tear ≡ tear_of rest → rest ≡ words → tear ≡ tear_of words
tear_is tear rest words is same = is ∙ ap tear_of same

pub bad_there : (f : Form) (ws before : List Word) (place start : ℕ) (tear : Tear) (e : SyntaxFault) → before ≡ take place ws → tear ≡ tear_of (drop place ws) → IsBadBehind f before tear start e → IsBadFrom f ws place start e
bad_there f ws before place start tear (faults.Bad at) is same h =
    let P : Tear → Type 0 = λ t. IsPast f (take place ws) t.torn t.slash h.0 in
    (h.0, past_there f (take place ws) (drop place ws) h.0 (subst P same (subst (λ (u : List Word). IsPast f u tear.torn tear.slash h.0) is h.1)), h.2)
bad_there f ws before place start tear (faults.TooDeep at) is same h = absurd h
bad_there f ws before place start tear (faults.Unsupported at) is same h = absurd h
bad_there f ws before place start tear faults.Memory is same h = tt

-- ---- one count

one_count : (P : Type 0) (most m n : ℕ) → IsCount P most m → IsCount P most n → m ≡ n
one_count P most m n (inl h) (inl g) = h.1 ∙ sym g.1
one_count P most m n (inr h) (inr g) = h.1 ∙ sym g.1
one_count P most m n (inl h) (inr g) = absurd (g.0 h.0)
one_count P most m n (inr h) (inl g) = absurd (h.0 g.0)

pub one_past : (f : Form) (before : List Word) (torn : Torn) (slash : Bool) (m n : ℕ) → IsPast f before torn slash m → IsPast f before torn slash n → m ≡ n
one_past f before torns.Prefix slash m n h g = one_count (Alone f before some_address some_prefix) 1 m n h g
one_past f before torns.Address slash m n h g = one_count (Alone f before some_prefix some_address) (if slash then 2 else 1) m n h g
one_past f before torns.Slash slash m n h g = one_count (EndInAddress f before) 1 m n h g
one_past f before torns.Other slash m n h g = h ∙ sym g

one_past_first : (f : Form) (before rest : List Word) (m n : ℕ) → IsPastFirst f before rest m → IsPastFirst f before rest n → m ≡ n
one_past_first f before [] m n h g = h ∙ sym g
one_past_first f before (w ∷ ws) m n h g = one_past f before _ _ m n h g

pub one_past_at : (f : Form) (ws : List Word) (place m n : ℕ) → IsPastAt f ws place m → IsPastAt f ws place n → m ≡ n
one_past_at f ws place m n h g = one_past_first f _ (drop place ws) m n h g

-- ---- first tokens are no further than the end

pub record Below (end : ℕ) (starts : List ℕ) : Type 0 where
  pub below : (place : ℕ) → slice_index_or starts place end ≤ end

below_none : (end place : ℕ) → slice_index_or [] place end ≤ end
below_none end zero = omega arith
below_none end (suc place) = omega arith

below_more : (end start : ℕ) (starts : List ℕ) → start ≤ end → ((place : ℕ) → slice_index_or starts place end ≤ end) → (place : ℕ) → slice_index_or (start ∷ starts) place end ≤ end
below_more end start starts low rest zero = low
below_more end start starts low rest (suc place) = rest place

pub below_words : (text : List ℕ) (end i skip : ℕ) (ts : List Token) → i + length ts ≤ end → (place : ℕ) → slice_index_or (map (λ word. word.0) (words_from text i skip ts)) place end ≤ end
below_words text end i skip [] low place = below_none end place
below_words text end i (suc skip) (t ∷ ts) low place = below_words text end (i + 1) skip ts (omega (arith, low)) place
below_words text end i zero (t ∷ ts) low place =
    below_more end i (map (λ word. word.0) (words_from text (i + 1) ((first_word text t ts).1 - 1) ts)) (omega (arith, low))
    (below_words text end (i + 1) ((first_word text t ts).1 - 1) ts (omega (arith, low))) place

-- ---- a refusal, told by tokens

pub bad_told : (f : Form) (ws : List Word) (starts : List ℕ) (end place start : ℕ) (fault told : SyntaxFault) → fault ≡ faults.Bad place → start ≡ slice_index_or starts place end → IsBadFrom f ws place start told → IsToldAs f ws starts end fault told
bad_told f ws starts end place start fault (faults.Bad at) is same h =
    subst (λ (e : SyntaxFault). IsToldAs f ws starts end e (faults.Bad at)) (sym is) (inr (h.0, h.1, ap (λ (n : ℕ). faults.Bad n) (h.2 ∙ ap (λ (n : ℕ). n + h.0) same)))
bad_told f ws starts end place start fault (faults.TooDeep at) is same h = absurd h
bad_told f ws starts end place start fault (faults.Unsupported at) is same h = absurd h
bad_told f ws starts end place start fault faults.Memory is same h = inl refl
