-- What stands before a refused word begins a configuration.
use Rattle.std.proofs.Common.{cond, ◌≡◌, ℕ, zero, suc, ◌+◌, ◌-◌, ◌≤◌, Bool, true, false, ◌&&◌, List, [], ◌∷◌, ◌++◌, length, take, drop, Option, Some, None, refl, sym, ap, subst, ◌∙◌, arith, append_assoc, append-nil, inl, inr, ◌<◌, ◌⊎◌}
use Rattle.std.specs.Prelude.{if◌then◌else◌}
use Rattle.std.proofs.lemmas.List.{length-append, length-take, take-append-drop}
use Rattle.conf_lex.specs.Symbols.{is_else, is_slash}
use Rattle.conf_scan.specs.Lex.{Lexes}
use Rattle.conf_scan.specs.Spans.{IsSpan}
use Rattle.conf_scan.specs.Spans.{slice_of}
use Rattle.conf_lex.specs.declared.symbol.Symbol.TheVariants as symbols
use Rattle.conf_scan.specs.declared.token.Token.{Token}
use Rattle.conf_lex.specs.declared.word.Word.{Word}
use Rattle.conf_lex.specs.Kind.{Kind, IsSymbol, kind_of}
use Rattle.conf_lex.specs.Grammar.{ParseTree, yield, DerivesLongest, Derives, too_deep}
use Rattle.conf_lex.specs.Sentences.{IsBegunWithin, IsTooDeep}
use Rattle.expr_syntax.specs.Syntax.{rule}
use Rattle.conf_syntax.specs.Syntax.{config}
use Rattle.conf_words.specs.Significant.{significant_of, significant_words, token_of}
use Rattle.conf_tree.specs.Sentence.{StopsAt}
use Rattle.conf_laws.specs.Alike.{AreAlike}
use Rattle.conf_words.specs.declared.significant.Region.{Region}
use Rattle.conf_words.specs.declared.significant.Region.TheVariants as regions
use Rattle.conf_laws.proofs.Decided.{sentences}
use Rattle.conf_laws.proofs.KindTrees.{kinds_of, same_words, within_alike}
use Rattle.conf_laws.proofs.Marks.{Mark, mark, marks, marks_both, sym_of, alone, colon_first, slash_first, sort_first, behind_one, folded, no_second, or_kind, first_kind, behind_kind, is_significant_kind, heard, heard_is, heard_both, front_heard, state, IsNext, place_at}
use Rattle.conf_laws.proofs.ByTokens.{cut_kinds, front_both, kinds_both, last_kind}
use Rattle.conf_laws.proofs.TokenLaw.{gone_of, len_map, same_front}
use Rattle.conf_laws.proofs.Levels.{Opens, config_opens, never_within}
use Rattle.conf_laws.specs.Spaced.{AreSpellings, spaced}
use Rattle.conf_laws.specs.Begun.{BeginSome, IsConfigOrDeeper}
use Rattle.conf_laws.proofs.Spaced.{read_back, shape_spaced}
use Rattle.conf_laws.proofs.Pieces.{Good}
use Rattle.conf_laws.proofs.Complete.{words_of, completed, fits_spells}
use Rattle.conf_laws.proofs.Regions.{Run, config_run}
use Rattle.conf_laws.proofs.ElseColon.{no_colon_behind}
use Rattle.conf_laws.proofs.Joined.{spell, spelled, spellings_both, calm_slash, calm_number, after, run_behind, Near, front_near, Tail, near_tail, open_colon, Off, kept}

-- ---- a front of marks, completed

-- behind the front these words make a sentence
pub record Core (c : List Mark) (W : List Word) (gs : List Good) : Type 0 where
  pub all : List Good
  pub tree : ParseTree
  pub fits : DerivesLongest rule tree config
  pub reads : kinds_of (yield tree) ≡ heard regions.Statements 0 (c ++ spell all)
  pub front : front_heard regions.Statements 0 c (spell all) ≡ kinds_of W
  pub done : (state regions.Statements 0 c (spell all)).1 ≡ 0
  pub kinds : kinds_of (yield tree) ≡ kinds_of W ++ kinds_of (words_of gs)
  pub same : (g : Good) (hs : List Good) → gs ≡ g ∷ hs → is_significant_kind (regions.Inside 0) (kind_of g.0.0) ≡ false → all ≡ gs

off_colon : (q : Region) (W : List Word) (fh : List Kind) (gs : List Good) (t : ParseTree) → Derives rule t config → yield t ≡ W ++ words_of gs → kinds_of W ≡ fh → (tail : Tail q gs) → Off q fh (spell tail.all)
off_colon q W fh gs t h reads are tail colon =
    let x = tail.colon colon in (
      open_colon q x.4,
      λ js e.
          let l = last_kind W js (IsSymbol symbols.Else) (are ∙ e) in
          no_colon_behind t h l.front l.word x.0.0.0 (words_of x.1)
          (reads ∙ ap (λ (u : List Word). u ++ words_of gs) l.cut ∙ ap (λ (u : List Good). (l.front ++ l.word ∷ []) ++ words_of u) x.2 ∙ append_assoc l.front (l.word ∷ []) (x.0.0.0 ∷ words_of x.1)) l.kind x.3,
    )

pub core : (c rest : List Mark) (W : List Word) (gs : List Good) (t : ParseTree) → Derives rule t config → yield t ≡ W ++ words_of gs → kinds_of W ≡ front_heard regions.Statements 0 c rest → (state regions.Statements 0 c rest).1 ≡ 0 → Core c W gs
core c rest W gs t h reads are done =
    let S = regions.Statements in
    let q = (state regions.Statements 0 c rest).0 in
    let p = after regions.Statements (kinds_of W) in
    let fh = front_heard regions.Statements 0 c rest in
    let near : Near (state regions.Statements 0 c rest).0 (after regions.Statements (kinds_of W)) =
    subst (λ (l : List Kind). Near (state regions.Statements 0 c rest).0 (after regions.Statements l)) (sym are) (front_near regions.Statements regions.Statements 0 c rest (inl (refl, refl))) in
    let run : Run regions.Statements (kinds_of W ++ kinds_of (words_of gs)) regions.Statements =
    subst (λ (l : List Kind). Run regions.Statements l regions.Statements) (ap kinds_of reads ∙ kinds_both W (words_of gs)) (config_run t h) in
    let tail = near_tail q p regions.Statements gs near (run_behind regions.Statements regions.Statements (kinds_of W) (kinds_of (words_of gs)) run) in
    let k = kept regions.Statements 0 c rest (spell tail.all) done (calm_slash tail.all) (calm_number tail.all) (off_colon q W fh gs t h reads are tail) in
    let u = sentences t h in
    record {
      all = tail.all;
      tree = u.0;
      fits = u.1;
      reads = ap kinds_of (u.2 ∙ reads) ∙ kinds_both W (words_of gs) ∙ ap (λ (l : List Kind). l ++ kinds_of (words_of gs)) (are ∙ sym k.heard)
          ∙ ap (λ (l : List Kind). front_heard regions.Statements 0 c (spell tail.all) ++ l) (sym tail.heard ∙ ap (λ (n : ℕ). heard q n (spell tail.all)) (sym done) ∙ ap (λ (s : Region × ℕ). heard s.0 s.1 (spell tail.all)) (sym k.state))
          ∙ sym (heard_both regions.Statements 0 c (spell tail.all));
      front = k.heard ∙ sym are;
      done = ap (λ (s : Region × ℕ). s.1) k.state ∙ done;
      kinds = ap kinds_of (u.2 ∙ reads) ∙ kinds_both W (words_of gs);
      same = tail.same;
    }

-- ---- levels

-- Where a tree of these words opens too many levels, it isn't within the first marks.
abbrev pub LateIn : List Mark → List Mark → Type 0
LateIn ms zs =
    (u : ParseTree) (r : List Word) → DerivesLongest rule u config → too_deep u 64 ≡ Some r → (o : Opens u r)
    → kinds_of (yield u) ≡ heard regions.Statements 0 (ms ++ zs)
    → (front rest : List Mark) → ms ++ zs ≡ front ++ rest → IsNext (state regions.Statements 0 front rest) rest
    → length (front_heard regions.Statements 0 front rest) ≡ length o.before → length front < length ms → ⊥

is_inside : (one two before : List Word) (w : Word) (more : List Word) → one ++ two ≡ before ++ w ∷ more → length before < length one → (m : List Word) × (one ≡ before ++ w ∷ m)
is_inside [] two before w more e low = absurd (omega (arith, low))
is_inside (x ∷ one) two [] w more e low = let head : x ≡ w = cc in (one, ap (λ (u : Word). u ∷ one) head)
is_inside (x ∷ one) two (y ∷ before) w more e low =
    let head : x ≡ y = cc in
    let tail : one ++ two ≡ before ++ w ∷ more = cc in
    let i = is_inside one two before w more tail (omega (arith, low)) in
    (i.0, ap (λ (u : Word). u ∷ one) head ∙ ap (λ (l : List Word). y ∷ l) i.1)

next_significant : (q : Region) (s : ℕ) (m : Mark) (ms rest : List Mark) → s ≡ 0 → is_significant_kind q (first_kind m (ms ++ rest)).0 ≡ true → 1 ≤ length (front_heard q s (m ∷ ms) rest)
next_significant q zero m ms rest none says =
    let k = first_kind m (ms ++ rest) in
    let fh = front_heard (behind_kind q k.0) (k.1 - 1) ms rest in
    let significant : front_heard q 0 (m ∷ ms) rest ≡ k.0 ∷ fh = ap (λ (b : Bool). cond b (k.0 ∷ fh) fh) says in
    omega (arith, ap (λ (l : List Kind). length l) significant)
next_significant q (suc s) m ms rest none says = absurd (omega (arith, none))

gone_next : (c ns front gone : List Mark) → length front < length c → c ≡ front ++ gone → IsNext (state regions.Statements 0 front (gone ++ ns)) (gone ++ ns) → length (front_heard regions.Statements 0 front (gone ++ ns)) < length (front_heard regions.Statements 0 c ns)
gone_next c ns front [] low cut next = absurd (omega (arith, low, ap (λ (l : List Mark). length l) (cut ∙ append-nil front)))
gone_next c ns front (m ∷ gone) low cut next =
    let st = state regions.Statements 0 front (m ∷ (gone ++ ns)) in
    let all : front_heard regions.Statements 0 c ns ≡ front_heard regions.Statements 0 front (m ∷ (gone ++ ns)) ++ front_heard st.0 st.1 (m ∷ gone) ns =
    ap (λ (l : List Mark). front_heard regions.Statements 0 l ns) cut ∙ front_both regions.Statements 0 front (m ∷ gone) ns in
    omega (arith, ap (λ (l : List Kind). length l) all, length-append (front_heard regions.Statements 0 front (m ∷ (gone ++ ns))) (front_heard st.0 st.1 (m ∷ gone) ns), next_significant st.0 st.1 m gone ns next.0 next.1)

-- the word isn't within a front that begins a configuration within the levels
pub front_late : (c ns : List Mark) (W : List Word) → IsBegunWithin rule 64 config W → front_heard regions.Statements 0 c ns ≡ kinds_of W
    → (u : ParseTree) (r : List Word) → DerivesLongest rule u config → too_deep u 64 ≡ Some r → (o : Opens u r) → kinds_of (yield u) ≡ heard regions.Statements 0 (c ++ ns)
    → (front rest : List Mark) → c ++ ns ≡ front ++ rest → IsNext (state regions.Statements 0 front rest) rest
    → length (front_heard regions.Statements 0 front rest) ≡ length o.before → length front < length c → ⊥
front_late c ns W b are u r h e o reads front rest cut next size low =
    let g = gone_of front rest c ns (sym cut) (omega (arith, low)) in
    let st = state regions.Statements 0 c ns in
    let more = gone_next c ns front g.gone low g.whole (subst (λ (l : List Mark). IsNext (state regions.Statements 0 front l) l) g.rest next) in
    let all : kinds_of (yield u) ≡ kinds_of W ++ heard st.0 st.1 ns = reads ∙ heard_both regions.Statements 0 c ns ∙ ap (λ (l : List Kind). l ++ heard st.0 st.1 ns) are in
    let x = cut_kinds (yield u) (kinds_of W) (heard st.0 st.1 ns) all in
    let shorter : length o.before < length x.one =
    omega (arith, more, size, ap (λ (l : List Mark). length (front_heard regions.Statements 0 front l)) g.rest, ap (λ (l : List Kind). length l) are, ap (λ (l : List Kind). length l) x.are, len_map kind_of x.one, len_map kind_of W) in
    let i = is_inside x.one x.two o.before o.opener o.more (sym x.cut ∙ o.reads) shorter in
    never_within x.one o.before i.0 u r (within_alike config 64 W x.one (sym x.are) b) h e o i.1

-- ---- the text of marks

alike_of : (text other : List ℕ) (ts us : List Token) → marks text ts ≡ marks other us → AreAlike text ts other us
alike_of text other [] [] e = tt
alike_of text other [] (u ∷ us) e = absurd cc
alike_of text other (t ∷ ts) [] e = absurd cc
alike_of text other (t ∷ ts) (u ∷ us) e =
    let head : mark text t ≡ mark other u = cc in
    let tail : marks text ts ≡ marks other us = cc in
    (record { kind = ap (λ (m : Mark). m.1) head; bytes = ap (λ (m : Mark). m.0) head }, alike_of text other ts us tail)

record Halves (other : List ℕ) (us : List Token) (xs ys : List Mark) : Type 0 where
  seen : List Token
  more : List Token
  cut : us ≡ seen ++ more
  first : marks other seen ≡ xs

halves_of : (other : List ℕ) (us : List Token) (xs ys : List Mark) → marks other us ≡ xs ++ ys → Halves other us xs ys
halves_of other us [] ys e = record { seen = []; more = us; cut = refl; first = refl }
halves_of other [] (x ∷ xs) ys e = absurd cc
halves_of other (u ∷ us) (x ∷ xs) ys e =
    let head : mark other u ≡ x = cc in
    let tail : marks other us ≡ xs ++ ys = cc in
    let h = halves_of other us xs ys tail in
    record { seen = u ∷ h.seen; more = h.more; cut = ap (λ (l : List Token). u ∷ l) h.cut; first = ap (λ (m : Mark). m ∷ marks other h.seen) head ∙ ap (λ (l : List Mark). x ∷ l) h.first }

drop_front : (front rest : List Word) → drop (length front) (front ++ rest) ≡ rest
drop_front [] rest = refl
drop_front (x ∷ front) rest = drop_front front rest

at_least : (a b : ℕ) → (a < b → ⊥) → b ≤ a
at_least a b never = elim (cases_le a b) [ inl low ↦ low | inr high ↦ absurd (never high) ]
  where
    cases_le : (a b : ℕ) → (b ≤ a) ⊎ (a < b)
    cases_le a zero = inl (omega arith)
    cases_le zero (suc b) = inr (omega arith)
    cases_le (suc a) (suc b) = elim (cases_le a b) [ inl low ↦ inl (omega (arith, low)) | inr high ↦ inr (omega (arith, high)) ]

-- a text whose words are a sentence is a configuration or refused for its levels
levels_of : (other : List ℕ) (tokens : List Token) (ms zs : List Mark) (u : ParseTree) → Lexes 0 other tokens → marks other tokens ≡ ms ++ zs → LateIn ms zs → DerivesLongest rule u config → yield u ≡ significant_words other tokens → (d : Option (List Word)) → too_deep u 64 ≡ d → IsConfigOrDeeper other tokens (length ms) u
levels_of other tokens ms zs u lexes are late h reads None e = inl (tokens, lexes, record { fits = h; whole = reads; levels = e })
levels_of other tokens ms zs u lexes are late h reads (Some r) e =
    let o = config_opens u r h e in
    let ws = significant_words other tokens in
    let significant : significant_words other tokens ≡ o.before ++ o.opener ∷ o.more = sym reads ∙ o.reads in
    let rest : drop (length o.before) (significant_words other tokens) ≡ o.opener ∷ o.more = ap (drop (length o.before)) significant ∙ drop_front o.before (o.opener ∷ o.more) in
    let within : length o.before ≤ length (significant_words other tokens) = omega (arith, ap (λ (l : List Word). length l) significant, length-append o.before (o.opener ∷ o.more)) in
    let low : length o.before ≤ length (significant_of other tokens) = omega (arith, within, len_map (λ (p : ℕ × Word). p.1) (significant_of other tokens)) in
    let a = place_at other regions.Statements 0 0 tokens (length tokens) (length o.before) (omega arith) low in
    let kinds : kinds_of (yield u) ≡ heard regions.Statements 0 (ms ++ zs) = ap kinds_of reads ∙ heard_is other regions.Statements 0 0 tokens ∙ ap (heard regions.Statements 0) are in
    let deep : IsTooDeep rule 64 config (significant_words other tokens) (drop (length o.before) (significant_words other tokens)) = record {
      before = o.before;
      opener = o.opener;
      behind = o.more;
      tree = u;
      more = o.more;
      front = significant ∙ ap (λ (l : List Word). o.before ++ l) (sym rest);
      opens = rest;
      fits = h;
      begun = o.reads;
      levels = e ∙ ap (λ (x : List Word). Some x) o.is;
    } in
    inr (
      token_of other tokens (length o.before),
      (length o.before, record { within = within; deep = deep; token = refl }),
      at_least (token_of other tokens (length o.before)) (length ms)
          (λ less. late u r h e o kinds a.front a.rest (sym are ∙ a.cut) a.next a.count (omega (arith, less, a.at))),
    )

-- marks that are a sentence are a text
pub text_of : (text : List ℕ) (front : List Token) (zs : List Mark) (tree : ParseTree) → AreSpellings (marks text front) → AreSpellings zs → DerivesLongest rule tree config → kinds_of (yield tree) ≡ heard regions.Statements 0 (marks text front ++ zs) → LateIn (marks text front) zs → BeginSome text front
text_of text front zs tree one two fits reads late =
    let r = read_back (marks text front ++ zs) (spellings_both (marks text front) zs one two) in
    let other = spaced (marks text front ++ zs) in
    let are : marks (spaced (marks text front ++ zs)) r.0 ≡ marks text front ++ zs = r.2 in
    let h = halves_of other r.0 (marks text front) zs are in
    let kinds : kinds_of (yield tree) ≡ kinds_of (significant_words (spaced (marks text front ++ zs)) (h.seen ++ h.more)) =
    reads ∙ ap (heard regions.Statements 0) (sym are ∙ ap (marks other) h.cut) ∙ sym (heard_is other regions.Statements 0 0 (h.seen ++ h.more)) in
    let x = same_words tree config (significant_words other (h.seen ++ h.more)) fits kinds in
    let lexes : Lexes 0 (spaced (marks text front ++ zs)) (h.seen ++ h.more) = subst (λ (l : List Token). Lexes 0 (spaced (marks text front ++ zs)) l) h.cut r.1 in
    let size : length (marks text front) ≡ length h.seen = omega (arith, ap (λ (l : List Mark). length l) h.first, len_map (mark other) h.seen) in
    record {
      other = other;
      seen = h.seen;
      more = h.more;
      tree = x.0;
      lexes = lexes;
      alike = alike_of text other front h.seen (sym h.first);
      fits = x.1;
      reads = x.2;
      levels = subst (λ (n : ℕ). IsConfigOrDeeper other (h.seen ++ h.more) n x.0) size
          (levels_of other (h.seen ++ h.more) (marks text front) zs x.0 lexes (sym (ap (marks other) h.cut) ∙ are) late x.1 x.2 (too_deep x.0 64) refl);
    }

-- ---- the words before a place

pub halves : (a b c d : List Kind) → a ++ b ≡ c ++ d → length a ≡ length c → (a ≡ c) × (b ≡ d)
halves [] b [] d e len = (refl, e)
halves [] b (k ∷ c) d e len = absurd (omega (arith, len))
halves (k ∷ a) b [] d e len = absurd (omega (arith, len))
halves (k ∷ a) b (j ∷ c) d e len =
    let head : k ≡ j = cc in
    let tail : a ++ b ≡ c ++ d = cc in
    let h = halves a b c d tail (omega (arith, len)) in
    (rw (head, h.0) refl, h.1)

mark_halves : (a b c d : List Mark) → a ++ b ≡ c ++ d → length a ≡ length c → (a ≡ c) × (b ≡ d)
mark_halves [] b [] d e len = (refl, e)
mark_halves [] b (k ∷ c) d e len = absurd (omega (arith, len))
mark_halves (k ∷ a) b [] d e len = absurd (omega (arith, len))
mark_halves (k ∷ a) b (j ∷ c) d e len =
    let head : k ≡ j = cc in
    let tail : a ++ b ≡ c ++ d = cc in
    let h = mark_halves a b c d tail (omega (arith, len)) in
    (ap (λ (m : Mark). m ∷ a) head ∙ ap (λ (l : List Mark). j ∷ l) h.0, h.1)

-- a word has no more marks than there are
few_if : (b c : Bool) (o : Option Kind) (k : Kind) (ms : List Mark) → colon_first ms ≡ c → ((or_kind o k).1 - 1 ≤ length ms) → (if b && c then (IsSymbol symbols.ElseColon, 2) else or_kind o k).1 - 1 ≤ length ms
few_if true true o k [] is few = absurd cc
few_if true true o k (m ∷ ms) is few = omega arith
few_if true false o k ms is few = few
few_if false c o k ms is few = few

few_fold : (m k : Mark) (ms : List Mark) (o : Option Kind) → folded m.1 (slash_first ms) (sort_first (behind_one ms)) ≡ o → (or_kind o (alone m.0 m.1)).1 - 1 ≤ length ms
few_fold m k ms None e = omega arith
few_fold m k [] (Some j) e = absurd (let never = sym (no_second m.1 false) ∙ e in cc)
few_fold m k (n ∷ []) (Some j) e = absurd (let never = sym (no_second m.1 (is_slash (sym_of n))) ∙ e in cc)
few_fold m k (n ∷ l ∷ ms) (Some j) e = omega arith

few : (m : Mark) (ms : List Mark) → (first_kind m ms).1 - 1 ≤ length ms
few m ms = few_if (is_else (sym_of m)) (colon_first ms) (folded m.1 (slash_first ms) (sort_first (behind_one ms))) (alone m.0 m.1) ms refl (few_fold m m ms (folded m.1 (slash_first ms) (sort_first (behind_one ms))) refl)

all_done : (r : Region) (skip : ℕ) (c : List Mark) → skip ≤ length c → (state r skip c []).1 ≡ 0
all_done r skip [] low = omega (arith, low)
all_done r (suc skip) (m ∷ ms) low = all_done r skip ms (omega (arith, low))
all_done r zero (m ∷ ms) low =
    let j = first_kind m (ms ++ []) in
    all_done (behind_kind r j.0) (j.1 - 1) ms (omega (arith, few m (ms ++ []), ap (λ (l : List Mark). length l) (append-nil ms)))

done_at : (c rest : List Mark) → IsNext (state regions.Statements 0 c rest) rest → (state regions.Statements 0 c rest).1 ≡ 0
done_at c [] next = all_done regions.Statements 0 c (omega arith)
done_at c (m ∷ rest) next = next.0

-- The words before a place, as marks.
pub record Before (text : List ℕ) (tokens : List Token) (place start : ℕ) : Type 0 where
  pub front : List Mark
  pub rest : List Mark
  pub cut : marks text tokens ≡ front ++ rest
  pub at : start ≡ length front
  pub are : kinds_of (take place (significant_words text tokens)) ≡ front_heard regions.Statements 0 front rest
  pub left : kinds_of (drop place (significant_words text tokens)) ≡ heard (state regions.Statements 0 front rest).0 (state regions.Statements 0 front rest).1 rest
  pub next : IsNext (state regions.Statements 0 front rest) rest
  pub done : (state regions.Statements 0 front rest).1 ≡ 0
  pub begun : IsBegunWithin rule 64 config (take place (significant_words text tokens))

pub before_place : (text : List ℕ) (tokens : List Token) (place start : ℕ) → StopsAt text tokens place start → Before text tokens place start
before_place text tokens place start s =
    let ws = significant_words text tokens in
    let low : place ≤ length (significant_of text tokens) = omega (arith, s.within, len_map (λ (p : ℕ × Word). p.1) (significant_of text tokens)) in
    let a = place_at text regions.Statements 0 0 tokens (length tokens) place (omega arith) low in
    let st = state regions.Statements 0 a.front a.rest in
    let all : kinds_of (take place ws) ++ kinds_of (drop place ws) ≡ front_heard regions.Statements 0 a.front a.rest ++ heard st.0 st.1 a.rest =
    sym (kinds_both (take place ws) (drop place ws)) ∙ ap kinds_of (take-append-drop place ws) ∙ heard_is text regions.Statements 0 0 tokens
    ∙ ap (heard regions.Statements 0) a.cut ∙ heard_both regions.Statements 0 a.front a.rest in
    let two = halves (kinds_of (take place ws)) (kinds_of (drop place ws)) (front_heard regions.Statements 0 a.front a.rest) (heard st.0 st.1 a.rest) all
    (omega (arith, len_map kind_of (take place ws), length-take place ws, s.within, a.count)) in
    let before : s.stop.before ≡ take place ws = same_front s.stop.before (take place ws) (drop place ws) (sym s.stop.front ∙ sym (take-append-drop place ws)) in
    let b = s.stop.begun in
    record {
      front = a.front;
      rest = a.rest;
      cut = a.cut;
      at = omega (arith, s.token, a.at);
      are = two.0;
      left = two.1;
      next = a.next;
      done = done_at a.front a.rest a.next;
      begun = subst (λ (u : List Word). IsBegunWithin rule 64 config u) before b;
    }

-- these marks begin a configuration
pub record Ends (ms : List Mark) : Type 0 where
  pub zs : List Mark
  pub tree : ParseTree
  pub fits : DerivesLongest rule tree config
  pub spellings : AreSpellings zs
  pub reads : kinds_of (yield tree) ≡ heard regions.Statements 0 (ms ++ zs)
  pub late : LateIn ms zs

pub begun_ends : (c rest : List Mark) (W : List Word) → kinds_of W ≡ front_heard regions.Statements 0 c rest → (state regions.Statements 0 c rest).1 ≡ 0 → IsBegunWithin rule 64 config W → Ends c
begun_ends c rest W are done b =
    let x = completed b.0 W b.1 (fits_spells b.0 config b.2) b.3 in
    let k = core c rest W x.good x.tree x.spells x.reads are done in
    record { zs = spell k.all; tree = k.tree; fits = k.fits; spellings = spelled k.all; reads = k.reads; late = front_late c (spell k.all) W b k.front }

module _ (slices : (text : List ℕ) (front back : List Token) (t : Token) → Lexes 0 text (front ++ t ∷ back) → IsSpan text t) where
  spelled_from : (text : List ℕ) (pre front back : List Token) → Lexes 0 text (pre ++ (front ++ back)) → AreSpellings (marks text front)
  spelled_from text pre [] back lexes = tt
  spelled_from text pre (t ∷ ts) back lexes =
      let s = slices text pre (ts ++ back) t lexes in (
        record { sort = s.sort; shape = shape_spaced s.sort (slice_of text t) (drop (t.at + t.len) text) s.token.shape; value = s.value },
        spelled_from text (pre ++ t ∷ []) ts back (subst (λ (l : List Token). Lexes 0 text l) (sym (append_assoc pre (t ∷ []) (ts ++ back))) lexes),
      )

  pub spelled_front : (text : List ℕ) (front back : List Token) → Lexes 0 text (front ++ back) → AreSpellings (marks text front)
  spelled_front text front back lexes = spelled_from text [] front back lexes

  -- the tokens before a word that is refused
  pub before_word : (text : List ℕ) (front back : List Token) (place : ℕ) → Lexes 0 text (front ++ back) → StopsAt text (front ++ back) place (length front) → BeginSome text front
  before_word text front back place lexes s =
      let a = before_place text (front ++ back) place (length front) s in
      let m = mark_halves (marks text front) (marks text back) a.front a.rest (sym (marks_both text front back) ∙ a.cut) (omega (arith, a.at, len_map (mark text) front)) in
      let e = begun_ends a.front a.rest (take place (significant_words text (front ++ back))) a.are a.done a.begun in
      let x : Ends (marks text front) = subst Ends (sym m.0) e in
      text_of text front x.zs x.tree (spelled_front text front back lexes) x.spellings x.fits x.reads x.late
