-- What a refusal says of the texts that begin with the same tokens.
use Rattle.std.proofs.Common.{◌≡◌, ℕ, suc, ◌+◌, ◌-◌, ◌≤◌, true, List, [], ◌∷◌, ◌++◌, length, map, take, drop, Some, refl, sym, ap, subst, ◌∙◌, arith, append_assoc, append-nil, inl, inr}
use Rattle.std.proofs.lemmas.List.{length-append, length-take, take-append-drop}
use Rattle.conf_lex.specs.Symbols.{is_else}
use Rattle.conf_scan.specs.declared.token.Token.{Token}
use Rattle.conf_scan.specs.declared.token.TokenKind.{TokenKind}
use Rattle.conf_scan.specs.declared.token.TokenKind.TheVariants as token_kinds
use Rattle.conf_lex.specs.declared.word.Word.{Word}
use Rattle.conf_lex.specs.Kind.{Kind, kind_of}
use Rattle.conf_lex.specs.Grammar.{ParseTree, yield, DerivesLongest}
use Rattle.conf_lex.specs.Sentences.{IsLast}
use Rattle.conf_lex.proofs.Unique.{fronts}
use Rattle.expr_syntax.specs.Syntax.{rule}
use Rattle.filt_syntax.specs.declared.parse.SyntaxFault.TheVariants as faults
use Rattle.filt_syntax.specs.RefusedToken.{CanFollow, some_prefix, IsPastFirst}
use Rattle.conf_syntax.specs.Syntax.{config}
use Rattle.conf_words.specs.Significant.{significant, significant_of, significant_words}
use Rattle.conf_tree.specs.Sentence.{IsStop, IsRefused}
use Rattle.conf_laws.specs.Alike.{IsAlike, AreAlike, colon_next, IsBadPrefix, DecideAlike, IsNoSentence}
use Rattle.conf_words.specs.declared.significant.Region.{Region}
use Rattle.conf_words.specs.declared.significant.Region.TheVariants as regions
use Rattle.conf_laws.proofs.KindTrees.{kinds_of, same_words}
use Rattle.conf_laws.proofs.Marks.{Mark, mark, marks, marks_both, one_mark, same_marks, sym_of, colon_first, behind_kind, first_kind, heard, heard_is, heard_both, front_heard, state, IsNext, place_at}
use Rattle.conf_laws.proofs.ByTokens.{IsBad, kinds_both, refuted}

-- ---- lists

pub len_map : {A B : Type 0} (f : A → B) (xs : List A) → length (map f xs) ≡ length xs
len_map f [] = refl
len_map f (x ∷ xs) = ap (λ (n : ℕ). suc n) (len_map f xs)

abbrev Halves : List Kind → List Kind → List Kind → List Kind → Type 0
Halves a b c d = (a ≡ c) × (b ≡ d)

halves : (a b c d : List Kind) → a ++ b ≡ c ++ d → length a ≡ length c → Halves a b c d
halves [] b [] d e len = (refl, e)
halves [] b (k ∷ c) d e len = absurd (omega (arith, len))
halves (k ∷ a) b [] d e len = absurd (omega (arith, len))
halves (k ∷ a) b (j ∷ c) d e len =
    let head : k ≡ j = cc in
    let tail : a ++ b ≡ c ++ d = cc in
    let h = halves a b c d tail (omega (arith, len)) in
    (rw (head, h.0) refl, h.1)

pub record Gone (a r g t : List Mark) : Type 0 where
  pub gone : List Mark
  pub whole : g ≡ a ++ gone
  pub rest : r ≡ gone ++ t

pub gone_of : (a r g t : List Mark) → a ++ r ≡ g ++ t → length a ≤ length g → Gone a r g t
gone_of [] r g t e low = record { gone = g; whole = refl; rest = e }
gone_of (m ∷ a) r [] t e low = absurd (omega (arith, low))
gone_of (m ∷ a) r (n ∷ g) t e low =
    let head : m ≡ n = cc in
    let tail : a ++ r ≡ g ++ t = cc in
    let h = gone_of a r g t tail (omega (arith, low)) in
    record { gone = h.gone; whole = ap (λ (l : List Mark). n ∷ l) h.whole ∙ ap (λ (k : Mark). k ∷ (a ++ h.gone)) (sym head); rest = h.rest }

pub same_front : (a b s : List Word) → a ++ s ≡ b ++ s → a ≡ b
same_front a b s e = elim (fronts a s b s e) [
  | inl h ↦ h.0
  | inr h ↦ elim h [
    | inl l ↦ absurd (omega (arith, ap (λ (u : List Word). length u) l.rest, length-append l.more s))
    | inr l ↦ absurd (omega (arith, ap (λ (u : List Word). length u) l.rest, length-append l.more s))
  ]
]

-- ---- the end of the text

stopped_never : (significant rest : List Word) → IsStop significant rest → (tree : ParseTree) → DerivesLongest rule tree config → yield tree ≡ significant → ⊥
stopped_never significant [] s tree fits e = s.unfinished refl tree fits (e ∙ s.front ∙ append-nil s.before)
stopped_never significant (w ∷ ws) s tree fits e =
    s.last (tree, ws, fits, e ∙ s.front ∙ sym (append_assoc s.before (w ∷ []) ws))

pub by_end : (text other : List ℕ) (tokens seen : List Token) (token : ℕ) → IsRefused text tokens (faults.Bad token) → AreAlike text tokens other seen → IsNoSentence other seen
by_end text other tokens seen token h are tree fits e =
    let kinds : kinds_of (yield tree) ≡ kinds_of (significant_words text tokens) =
    ap kinds_of e ∙ heard_is other regions.Statements 0 0 seen ∙ ap (heard regions.Statements 0) (sym (same_marks text other tokens seen are)) ∙ sym (heard_is text regions.Statements 0 0 tokens) in
    let x = same_words tree config (significant_words text tokens) fits kinds in
    stopped_never (significant_words text tokens) (drop h.0 (significant_words text tokens)) h.1.stops.stop x.0 x.1 x.2

-- ---- a token

bad_is : (text : List ℕ) (t : Token) (back : List Token) → IsBad (mark text t) (marks text back) → IsBadPrefix text t back
bad_is text t [] b = absurd (let never = b.second in cc)
bad_is text t (u ∷ []) b = absurd (let never = b.third in cc)
bad_is text t (u ∷ v ∷ ts) b =
    let third : Some v.kind ≡ Some (token_kinds.Number b.n) = b.third in
    let number : v.kind ≡ token_kinds.Number b.n = cc in
    (b.addr, b.n, b.first, b.second, number, b.none)

is_bad : (text : List ℕ) (t : Token) (back : List Token) → IsBadPrefix text t back → IsBad (mark text t) (marks text back)
is_bad text t [] h = absurd h
is_bad text t (u ∷ []) h = absurd h
is_bad text t (u ∷ v ∷ ts) h = record { addr = h.0; n = h.1; first = h.2; second = h.3; third = ap (λ (k : TokenKind). Some k) h.4; none = h.5 }

colon_is : (text : List ℕ) (ts : List Token) → colon_first (marks text ts) ≡ colon_next text ts
colon_is text [] = refl
colon_is text (t ∷ ts) = refl

none_heard : (st : Region × ℕ) (m : Mark) (ms : List Mark) → IsNext st (m ∷ ms) → [] ≡ heard st.0 st.1 (m ∷ ms) → ⊥
none_heard st m ms next e =
    let first : heard st.0 st.1 (m ∷ ms) ≡ heard st.0 0 (m ∷ ms) = ap (λ (n : ℕ). heard st.0 n (m ∷ ms)) next.0 in
    let k = first_kind m ms in
    let second : heard st.0 0 (m ∷ ms) ≡ k.0 ∷ heard (behind_kind st.0 k.0) (k.1 - 1) ms = rw next.1 refl in
    let all = e ∙ first ∙ second in
    cc

no_gone : (st : Region × ℕ) (gone : List Mark) (m : Mark) (ms : List Mark) → IsNext st (gone ++ m ∷ ms) → [] ≡ heard st.0 st.1 (gone ++ m ∷ ms) → ⊥
no_gone st [] m ms next e = none_heard st m ms next e
no_gone st (g ∷ gone) m ms next e = none_heard st g (gone ++ m ∷ ms) next e

-- by the words that are left
by_words : (front gone : List Mark) (before rest : List Word) (m : Mark) (xs ys : List Mark) (tree : ParseTree) → DerivesLongest rule tree config
    → kinds_of before ≡ front_heard regions.Statements 0 front (gone ++ m ∷ xs)
    → IsNext (state regions.Statements 0 front (gone ++ m ∷ xs)) (gone ++ m ∷ xs)
    → kinds_of rest ≡ heard (state regions.Statements 0 front (gone ++ m ∷ xs)).0 (state regions.Statements 0 front (gone ++ m ∷ xs)).1 (gone ++ m ∷ xs)
    → IsLast rule config before rest → IsPastFirst config before rest (length gone)
    → kinds_of (yield tree) ≡ heard regions.Statements 0 (front ++ (gone ++ m ∷ ys))
    → (is_else (sym_of m) ≡ true → colon_first xs ≡ colon_first ys) → (length gone ≡ 0 → IsBad m xs → CanFollow config before some_prefix → IsBad m ys) → ⊥
by_words front gone before [] m xs ys tree fits are next kinds last past reads colons bad = no_gone (state regions.Statements 0 front (gone ++ m ∷ xs)) gone m xs next kinds
by_words front gone before (w ∷ ws) m xs ys tree fits are next kinds last past reads colons bad =
    refuted front gone before w ws m xs ys tree fits are next kinds last past reads colons bad

pub by_tokens : (text other : List ℕ) (front back seen more : List Token) (t u : Token) → IsRefused text (front ++ t ∷ back) (faults.Bad (length front)) → AreAlike text front other seen → IsAlike text t other u → DecideAlike text front t back other u more → IsNoSentence other (seen ++ u ∷ more)
by_tokens text other front back seen more t u h are is decide tree fits e =
    let tokens = front ++ t ∷ back in
    let b = h.1 in
    let significant_all = significant_words text tokens in
    let low : h.0 ≤ length (significant_of text tokens) = omega (arith, b.stops.within, len_map (λ (p : ℕ × Word). p.1) (significant_of text tokens)) in
    let a = place_at text regions.Statements 0 0 tokens (length tokens) h.0 (omega arith) low in
    let start : b.start ≡ 0 + length a.front = b.stops.token ∙ a.at in
    let xs = marks text back in
    let ys = marks other more in
    let m = mark text t in
    let cut : a.front ++ a.rest ≡ marks text front ++ m ∷ xs = sym a.cut ∙ marks_both text front (t ∷ back) in
    let g = gone_of a.front a.rest (marks text front) (m ∷ xs) cut (omega (arith, start, b.token, len_map (mark text) front)) in
    let size : b.past ≡ length g.gone = omega (arith, start, b.token, len_map (mark text) front, ap (λ (l : List Mark). length l) g.whole, length-append a.front g.gone) in
    let st = state regions.Statements 0 a.front a.rest in
    let all : kinds_of (take h.0 significant_all) ++ kinds_of (drop h.0 significant_all) ≡ front_heard regions.Statements 0 a.front a.rest ++ heard st.0 st.1 a.rest =
    sym (kinds_both (take h.0 significant_all) (drop h.0 significant_all)) ∙ ap kinds_of (take-append-drop h.0 significant_all) ∙ heard_is text regions.Statements 0 0 tokens
    ∙ ap (heard regions.Statements 0) a.cut ∙ heard_both regions.Statements 0 a.front a.rest in
    let two = halves (kinds_of (take h.0 significant_all)) (kinds_of (drop h.0 significant_all)) (front_heard regions.Statements 0 a.front a.rest) (heard st.0 st.1 a.rest) all
    (omega (arith, len_map kind_of (take h.0 significant_all), length-take h.0 significant_all, b.stops.within, a.count)) in
    let s = b.stops.stop in
    let before : s.before ≡ take h.0 significant_all = same_front s.before (take h.0 significant_all) (drop h.0 significant_all) (sym s.front ∙ sym (take-append-drop h.0 significant_all)) in
    let last : IsLast rule config (take h.0 significant_all) (drop h.0 significant_all) = subst (λ (v : List Word). IsLast rule config v (drop h.0 significant_all)) before s.last in
    let past : IsPastFirst config (take h.0 significant_all) (drop h.0 significant_all) (length g.gone) = subst (λ (n : ℕ). IsPastFirst config (take h.0 significant_all) (drop h.0 significant_all) n) size b.is_past in
    let marked : marks other (seen ++ u ∷ more) ≡ a.front ++ (g.gone ++ m ∷ ys) =
    marks_both other seen (u ∷ more) ∙ ap (λ (l : List Mark). l ++ mark other u ∷ ys) (sym (same_marks text other front seen are))
    ∙ ap (λ (k : Mark). marks text front ++ k ∷ ys) (sym (one_mark text other t u is))
    ∙ ap (λ (l : List Mark). l ++ m ∷ ys) g.whole ∙ append_assoc a.front g.gone (m ∷ ys) in
    let reads : kinds_of (yield tree) ≡ heard regions.Statements 0 (a.front ++ (g.gone ++ m ∷ ys)) =
    ap kinds_of e ∙ heard_is other regions.Statements 0 0 (seen ++ u ∷ more) ∙ ap (heard regions.Statements 0) marked in
    let colons : is_else (sym_of m) ≡ true → colon_first xs ≡ colon_first ys = λ el. colon_is text back ∙ decide.else_sign el ∙ sym (colon_is other more) in
    let bad : length g.gone ≡ 0 → IsBad m xs → CanFollow config (take h.0 significant_all) some_prefix → IsBad m ys =
    λ none k can. subst (λ (n : Mark). IsBad n ys) (sym (one_mark text other t u is))
    (is_bad other u more (decide.bad_prefix (bad_is text t back k) (h.0, omega (arith, b.token, size, none, b.stops.token), can))) in
    by_words a.front g.gone (take h.0 significant_all) (drop h.0 significant_all) m xs ys tree fits
    (subst (λ (r : List Mark). kinds_of (take h.0 significant_all) ≡ front_heard regions.Statements 0 a.front r) g.rest two.0)
    (subst (λ (r : List Mark). IsNext (state regions.Statements 0 a.front r) r) g.rest a.next)
    (subst (λ (r : List Mark). kinds_of (drop h.0 significant_all) ≡ heard (state regions.Statements 0 a.front r).0 (state regions.Statements 0 a.front r).1 r) g.rest two.1)
    last past reads colons bad
