-- The tokens before a refused word, and behind them those of a completion.
use Rattle.std.proofs.Common.{◌≡◌, ℕ, zero, suc, ◌-◌, Bool, true, false, cond, ◌&&◌, List, [], ◌∷◌, ◌++◌, Option, Some, None, refl, sym, ap, subst, ◌∙◌, arith, inl, inr, ◌⊎◌}
use Rattle.std.specs.Prelude.{if◌then◌else◌, codes}
use Rattle.conf_lex.specs.Symbols.{symbol_of, is_else, is_colon, is_slash}
use Rattle.conf_lex.specs.Words.{kind_symbol}
use Rattle.conf_lex.specs.declared.symbol.Symbol.{Symbol}
use Rattle.conf_lex.specs.declared.symbol.Symbol.TheVariants as symbols
use Rattle.conf_scan.specs.declared.token.TokenKind.{TokenKind}
use Rattle.conf_scan.specs.declared.token.TokenKind.TheVariants as token_kinds
use Rattle.conf_lex.specs.declared.word.Word.TheVariants as words
use Rattle.conf_lex.specs.Kind.{Kind, IsSymbol, kind_of, symbol, name}
use Rattle.conf_words.specs.declared.significant.Region.{Region}
use Rattle.conf_words.specs.declared.significant.Region.TheVariants as regions
use Rattle.conf_laws.proofs.KindTrees.{kinds_of}
use Rattle.conf_laws.proofs.Marks.{Mark, sym_of, alone, unquoted, spelled_kind, colon_first, slash_first, sort_first, behind_one, folded, or_kind, first_kind, no_slash, behind_kind, is_significant_kind, heard, front_heard, state}
use Rattle.conf_laws.proofs.ByTokens.{is_open}
use Rattle.conf_laws.specs.Spaced.{AreSpellings}
use Rattle.conf_laws.proofs.Pieces.{Good, sign_piece, sign_closebrace, is_number}
use Rattle.conf_laws.proofs.Complete.{words_of}
use Rattle.conf_laws.proofs.Regions.{Run}

-- ---- completions as marks

abbrev pub spell : List Good → List Mark
spell [] = []
spell (g ∷ gs) = g.0.1 ++ spell gs

pub spellings_both : (xs ys : List Mark) → AreSpellings xs → AreSpellings ys → AreSpellings (xs ++ ys)
spellings_both [] ys one two = two
spellings_both (x ∷ xs) ys one two = (one.0, spellings_both xs ys one.1 two)

pub spelled : (gs : List Good) → AreSpellings (spell gs)
spelled [] = tt
spelled (g ∷ gs) = spellings_both g.0.1 (spell gs) g.1.spelled (spelled gs)

pub calm_slash : (gs : List Good) → slash_first (spell gs) ≡ false
calm_slash [] = refl
calm_slash (g ∷ gs) = g.1.no_slash (spell gs)

pub calm_number : (gs : List Good) → is_number (sort_first (spell gs)) ≡ false
calm_number [] = refl
calm_number (g ∷ gs) = g.1.no_number (spell gs)

-- where each word says something, just these are heard
pub heard_run : (r s : Region) (gs : List Good) → Run r (kinds_of (words_of gs)) s → heard r 0 (spell gs) ≡ kinds_of (words_of gs)
heard_run r s [] run = refl
heard_run r s (g ∷ gs) run =
    let k = kind_of g.0.0 in
    g.1.heard r (spell gs) (calm_slash gs)
    ∙ ap (λ (b : Bool). cond b (k ∷ heard (behind_kind r k) 0 (spell gs)) (heard (behind_kind r k) 0 (spell gs))) run.0
    ∙ ap (λ (l : List Kind). k ∷ l) (heard_run (behind_kind r k) s gs run.1)

-- ---- the region behind the words that say something

abbrev pub after : Region → List Kind → Region
after r [] = r
after r (k ∷ ks) = after (behind_kind r k) ks

pub run_behind : (r s : Region) (ks js : List Kind) → Run r (ks ++ js) s → Run (after r ks) js s
run_behind r s [] js run = run
run_behind r s (k ∷ ks) js run = run_behind (behind_kind r k) s ks js run.1

abbrev shallow : Region → Bool
shallow (regions.Inside (suc n)) = false
shallow _ = true

-- one region, or both within the braces of a device
abbrev pub Near : Region → Region → Type 0
Near q p = ((q ≡ p) × (shallow p ≡ true)) ⊎ ((n : ℕ) × (q ≡ regions.Inside n) × (p ≡ regions.Inside 0))

inside_stays : (n : ℕ) (k : Kind) → is_significant_kind (regions.Inside n) k ≡ false → (m : ℕ) × (behind_kind (regions.Inside n) k ≡ regions.Inside m)
inside_stays zero k none = by (symbol symbols.OpenBrace k) refl
  where
    by : (b : Bool) → symbol symbols.OpenBrace k ≡ b → (m : ℕ) × (behind_kind (regions.Inside zero) k ≡ regions.Inside m)
    by true is = (1, rw (none, is) refl)
    by false is = (0, rw (none, is) refl)
inside_stays (suc n) k none = by (symbol symbols.CloseBrace k) (symbol symbols.OpenBrace k) refl refl
  where
    by : (b c : Bool) → symbol symbols.CloseBrace k ≡ b → symbol symbols.OpenBrace k ≡ c → (m : ℕ) × (behind_kind (regions.Inside (suc n)) k ≡ regions.Inside m)
    by true c is isnt = (n, rw is refl)
    by false true is isnt = (suc (suc n), rw (is, isnt) refl)
    by false false is isnt = (suc n, rw (is, isnt) refl)

unsaid_same : (q : Region) (k : Kind) → shallow q ≡ true → is_significant_kind q k ≡ false → Near (behind_kind q k) q
unsaid_same regions.Statements k flat none = absurd cc
unsaid_same regions.Log k flat none = inl (rw none refl, refl)
unsaid_same regions.Protocol k flat none = absurd cc
unsaid_same regions.Device k flat none = absurd cc
unsaid_same regions.Named k flat none = absurd cc
unsaid_same (regions.Inside zero) k flat none = let s = inside_stays 0 k none in inr (s.0, s.1, refl)
unsaid_same (regions.Inside (suc n)) k flat none = absurd cc

unsaid_near : (q p : Region) (k : Kind) → Near q p → is_significant_kind q k ≡ false → Near (behind_kind q k) p
unsaid_near q p k (inl h) none =
    let n : Near (behind_kind q k) q = unsaid_same q k (ap shallow h.0 ∙ h.1) none in
    subst (λ (r : Region). Near (behind_kind q k) r) h.0 n
unsaid_near q p k (inr h) none =
    let s = inside_stays h.0 k (ap (λ (r : Region). is_significant_kind r k) (sym h.1) ∙ none) in
    inr (s.0, ap (λ (r : Region). behind_kind r k) h.1 ∙ s.1, h.2)

shallow_cond : (b : Bool) (r q : Region) → shallow r ≡ true → shallow q ≡ true → shallow (cond b r q) ≡ true
shallow_cond true r q e h = e
shallow_cond false r q e h = h

shallow_behind : (p : Region) (k : Kind) → shallow p ≡ true → is_significant_kind p k ≡ true → shallow (behind_kind p k) ≡ true
shallow_behind regions.Statements k flat says = shallow_cond (symbol symbols.Log k) _ _ refl (shallow_cond (symbol symbols.Protocol k) _ _ refl refl)
shallow_behind regions.Log k flat says = shallow_cond (symbol symbols.Semicolon k) _ _ refl refl
shallow_behind regions.Protocol k flat says = shallow_cond (symbol symbols.Device k) _ _ refl refl
shallow_behind regions.Device k flat says = shallow_cond (name k) _ _ refl (shallow_cond (symbol symbols.OpenBrace k) _ _ refl refl)
shallow_behind regions.Named k flat says = shallow_cond (symbol symbols.OpenBrace k) _ _ refl refl
shallow_behind (regions.Inside zero) k flat says = rw says refl
shallow_behind (regions.Inside (suc n)) k flat says = absurd cc

significant_same : (n : ℕ) (k : Kind) → is_significant_kind (regions.Inside n) k ≡ true → n ≡ 0
significant_same zero k says = refl
significant_same (suc n) k says = absurd cc

significant_flat : (q p : Region) (k : Kind) → q ≡ p → shallow p ≡ true → is_significant_kind q k ≡ true → Near (behind_kind q k) (behind_kind p k)
significant_flat q p k same flat says = inl (ap (λ (r : Region). behind_kind r k) same, shallow_behind p k flat (ap (λ (r : Region). is_significant_kind r k) (sym same) ∙ says))

significant_near : (q p : Region) (k : Kind) → Near q p → is_significant_kind q k ≡ true → Near (behind_kind q k) (behind_kind p k)
significant_near q p k (inl h) says = significant_flat q p k h.0 h.1 says
significant_near q p k (inr h) says =
    let flat = significant_same h.0 k (ap (λ (r : Region). is_significant_kind r k) (sym h.1) ∙ says) in
    significant_flat q p k (h.1 ∙ ap (λ (n : ℕ). regions.Inside n) flat ∙ sym h.2) (ap shallow h.2) says

near_step : (q p : Region) (k : Kind) (fh : List Kind) (s : Region) → Near q p → (Near (behind_kind q k) (behind_kind p k) → Near s (after (behind_kind p k) fh)) → (Near (behind_kind q k) p → Near s (after p fh)) → (b : Bool) → is_significant_kind q k ≡ b → Near s (after p (cond b (k ∷ fh) fh))
near_step q p k fh s near one other true says = one (significant_near q p k near says)
near_step q p k fh s near one other false none = other (unsaid_near q p k near none)

-- the region behind a front, by the kinds that are heard of it
pub front_near : (q p : Region) (skip : ℕ) (c rest : List Mark) → Near q p → Near (state q skip c rest).0 (after p (front_heard q skip c rest))
front_near q p skip [] rest near = near
front_near q p (suc skip) (m ∷ ms) rest near = front_near q p skip ms rest near
front_near q p zero (m ∷ ms) rest near =
    let k = first_kind m (ms ++ rest) in
    near_step q p k.0 (front_heard (behind_kind q k.0) (k.1 - 1) ms rest) (state (behind_kind q k.0) (k.1 - 1) ms rest).0 near
    (λ n. front_near (behind_kind q k.0) (behind_kind p k.0) (k.1 - 1) ms rest n)
    (λ n. front_near (behind_kind q k.0) p (k.1 - 1) ms rest n) (is_significant_kind q k.0) refl

-- ---- braces that a device's block wants closed

abbrev pub braces : ℕ → List Good
braces zero = []
braces (suc n) = ((words.Symbol symbols.CloseBrace, (codes "}", token_kinds.Punctuation) ∷ []), sign_piece symbols.CloseBrace (codes "}") sign_closebrace (refl, λ e. refl) refl refl) ∷ braces n

closed : (n : ℕ) (gs : List Good) → heard (regions.Inside n) 0 (spell (braces n ++ gs)) ≡ heard (regions.Inside 0) 0 (spell gs)
closed zero gs = refl
closed (suc n) gs =
    (sign_piece symbols.CloseBrace (codes "}") sign_closebrace (refl, λ e. refl) refl refl).heard (regions.Inside (suc n)) (spell (braces n ++ gs)) (calm_slash (braces n ++ gs)) ∙ closed n gs

brace_no_colon : (rest : List Mark) → colon_first ((codes "}", token_kinds.Punctuation) ∷ rest) ≡ false
unfolding symbol_of
brace_no_colon rest = refl

unsaid : (gs : List Good) (s : Region) → Run (regions.Inside 0) (kinds_of (words_of gs)) s → (g : Good) (hs : List Good) → gs ≡ g ∷ hs → is_significant_kind (regions.Inside 0) (kind_of g.0.0) ≡ false → ⊥
unsaid [] s run g hs e none = cc
unsaid (x ∷ gs) s run g hs e none =
    let same : x ≡ g = cc in
    let never : is_significant_kind (regions.Inside 0) (kind_of x.0.0) ≡ false = ap (λ (y : Good). is_significant_kind (regions.Inside 0) (kind_of y.0.0)) same ∙ none in
    let yes : is_significant_kind (regions.Inside 0) (kind_of x.0.0) ≡ true = run.0 in
    let both : true ≡ false = sym yes ∙ never in
    cc

-- what is heard of a completion behind a front, with the braces that are open
pub record Tail (q : Region) (gs : List Good) : Type 0 where
  pub all : List Good
  pub heard : heard q 0 (spell all) ≡ kinds_of (words_of gs)
  pub colon : colon_first (spell all) ≡ true → (g : Good) × (hs : List Good) × (gs ≡ g ∷ hs) × (kind_of g.0.0 ≡ IsSymbol symbols.Colon) × (is_significant_kind q (IsSymbol symbols.Colon) ≡ true)
  pub same : (g : Good) (hs : List Good) → gs ≡ g ∷ hs → is_significant_kind (regions.Inside 0) (kind_of g.0.0) ≡ false → all ≡ gs

tail_of : (q s : Region) (gs : List Good) → Run q (kinds_of (words_of gs)) s → Tail q gs
tail_of q s gs run = record { all = gs; heard = heard_run q s gs run; colon = λ e. by gs run e; same = λ g hs e none. refl }
  where
    by : (gs : List Good) → Run q (kinds_of (words_of gs)) s → colon_first (spell gs) ≡ true → (g : Good) × (hs : List Good) × (gs ≡ g ∷ hs) × (kind_of g.0.0 ≡ IsSymbol symbols.Colon) × (is_significant_kind q (IsSymbol symbols.Colon) ≡ true)
    by [] run e = absurd cc
    by (g ∷ gs) run e =
        let is = g.1.colon (spell gs) e in
        (g, gs, refl, is, ap (is_significant_kind q) (sym is) ∙ run.0)

pub near_tail : (q p s : Region) (gs : List Good) → Near q p → Run p (kinds_of (words_of gs)) s → Tail q gs
near_tail q p s gs (inl h) run = tail_of q s gs (subst (λ (r : Region). Run r (kinds_of (words_of gs)) s) (sym h.0) run)
near_tail q p s gs (inr h) run = subst (λ (r : Region). Tail r gs) (sym h.1) (by h.0)
  where
    inner : Run (regions.Inside 0) (kinds_of (words_of gs)) s
    inner = subst (λ (r : Region). Run r (kinds_of (words_of gs)) s) h.2 run

    by : (n : ℕ) → Tail (regions.Inside n) gs
    by zero = tail_of (regions.Inside 0) s gs inner
    by (suc n) = record { all = braces (suc n) ++ gs; heard = closed (suc n) gs ∙ heard_run (regions.Inside 0) s gs inner; colon = λ e. absurd (let never : false ≡ true = sym (brace_no_colon (spell (braces n ++ gs))) ∙ e in cc); same = λ g hs e none. absurd (unsaid gs s inner g hs e none) }

-- ---- a front with a completion behind it

pub open_colon : (q : Region) → is_significant_kind q (IsSymbol symbols.Colon) ≡ true → is_open q ≡ true
open_colon regions.Statements e = refl
open_colon regions.Log e = absurd cc
open_colon regions.Protocol e = refl
open_colon regions.Device e = refl
open_colon regions.Named e = refl
open_colon (regions.Inside zero) e = absurd cc
open_colon (regions.Inside (suc n)) e = absurd cc

open_else : (r : Region) → is_open (behind_kind r (IsSymbol symbols.Else)) ≡ true → is_significant_kind r (IsSymbol symbols.Else) ≡ true
open_else regions.Statements e = refl
open_else regions.Log e = absurd cc
open_else regions.Protocol e = refl
open_else regions.Device e = refl
open_else regions.Named e = refl
open_else (regions.Inside zero) e = absurd cc
open_else (regions.Inside (suc n)) e = absurd cc

-- no colon comes behind an `else` that ends the front
abbrev pub Off : Region → List Kind → List Mark → Type 0
Off q ks ns = colon_first ns ≡ true → (is_open q ≡ true) × ((js : List Kind) → ks ≡ js ++ IsSymbol symbols.Else ∷ [] → ⊥)

fold_none : (k : TokenKind) (b : Bool) (o : Option TokenKind) → is_number o ≡ false → folded k b o ≡ None
fold_none (token_kinds.Ip addr) true None e = refl
fold_none (token_kinds.Ip addr) true (Some (token_kinds.Number n)) e = absurd cc
fold_none (token_kinds.Ip addr) true (Some token_kinds.Name) e = refl
fold_none (token_kinds.Ip addr) true (Some token_kinds.QuotedName) e = refl
fold_none (token_kinds.Ip addr) true (Some (token_kinds.Ip a)) e = refl
fold_none (token_kinds.Ip addr) true (Some token_kinds.Text) e = refl
fold_none (token_kinds.Ip addr) true (Some token_kinds.Punctuation) e = refl
fold_none (token_kinds.Ip addr) false o e = refl
fold_none token_kinds.Name b o e = refl
fold_none token_kinds.QuotedName b o e = refl
fold_none (token_kinds.Number n) b o e = refl
fold_none token_kinds.Text b o e = refl
fold_none token_kinds.Punctuation b o e = refl

size_one : (o : Option Kind) (k : Kind) → (or_kind o k).1 - 1 ≡ 0 → or_kind o k ≡ (k, 1)
size_one None k e = refl
size_one (Some j) k e = absurd (omega (arith, e))

size_two : (o : Option Kind) (k : Kind) → ((or_kind o k).1 - 1) - 1 ≡ 0 → or_kind o k ≡ (k, 1)
size_two None k e = refl
size_two (Some j) k e = absurd (omega (arith, e))

else_is : (slice : List ℕ) (k : TokenKind) → is_else (kind_symbol slice k) ≡ true → alone slice k ≡ IsSymbol symbols.Else
else_is slice token_kinds.Name e = spelled (unquoted slice) (symbol_of slice) e
  where
    spelled : (k : Kind) (o : Option Symbol) → is_else o ≡ true → spelled_kind k o ≡ IsSymbol symbols.Else
    spelled k (Some symbols.Else) e = refl
    spelled k (Some _) e = absurd cc
    spelled k None e = absurd cc
else_is slice token_kinds.Punctuation e = spelled (unquoted slice) (symbol_of slice) e
  where
    spelled : (k : Kind) (o : Option Symbol) → is_else o ≡ true → spelled_kind k o ≡ IsSymbol symbols.Else
    spelled k (Some symbols.Else) e = refl
    spelled k (Some _) e = absurd cc
    spelled k None e = absurd cc
else_is slice token_kinds.QuotedName e = absurd cc
else_is slice (token_kinds.Number n) e = absurd cc
else_is slice (token_kinds.Ip addr) e = absurd cc
else_is slice token_kinds.Text e = absurd cc

-- the word that the last mark of a front is, with other marks behind it
module _ (r : Region) (m : Mark) (rest ns : List Mark) (slash : slash_first ns ≡ false) where
  abbrev made : Bool → Option Kind → Kind × ℕ
  made b o = if b then (IsSymbol symbols.ElseColon, 2) else or_kind o (alone m.0 m.1)

  abbrev old_fold : Option Kind
  old_fold = folded m.1 (slash_first rest) (sort_first (behind_one rest))

  abbrev new_fold : Option Kind
  new_fold = folded m.1 (slash_first ns) (sort_first (behind_one ns))

  new_none : folded m.1 (slash_first ns) (sort_first (behind_one ns)) ≡ None
  new_none = ap (λ (b : Bool). folded m.1 b (sort_first (behind_one ns))) slash ∙ no_slash m.1 (sort_first (behind_one ns))

  no_sign : (b c : Bool) → is_else (sym_of m) ≡ b → colon_first ns ≡ false → (is_else (sym_of m) && colon_first ns) ≡ false
  no_sign true c is colon = rw (is, colon) refl
  no_sign false c is colon = rw is refl

  no_else : (c : Bool) → is_else (sym_of m) ≡ false → (is_else (sym_of m) && colon_first ns) ≡ false
  no_else c is = rw is refl

  old_alone : (b : Bool) (o : Option Kind) → (made b o).1 - 1 ≡ 0 → (b ≡ false) × (made b o ≡ (alone m.0 m.1, 1))
  old_alone true o e = absurd (omega (arith, e))
  old_alone false o e = (refl, size_one o (alone m.0 m.1) e)

  last_first : (first_kind m rest).1 - 1 ≡ 0 → Off (behind_kind r (first_kind m rest).0) (cond (is_significant_kind r (first_kind m rest).0) ((first_kind m rest).0 ∷ []) []) ns → first_kind m ns ≡ first_kind m rest
  last_first one off =
      let old = old_alone (is_else (sym_of m) && colon_first rest) (folded m.1 (slash_first rest) (sort_first (behind_one rest))) one in
      by (is_else (sym_of m)) (colon_first ns) refl refl old.1
    where
      by : (b c : Bool) → is_else (sym_of m) ≡ b → colon_first ns ≡ c → first_kind m rest ≡ (alone m.0 m.1, 1) → first_kind m ns ≡ first_kind m rest
      by true true is colon old =
          let o = off colon in
          let k : (first_kind m rest).0 ≡ IsSymbol symbols.Else = ap (λ (j : Kind × ℕ). j.0) old ∙ else_is m.0 m.1 is in
          let says : is_significant_kind r (IsSymbol symbols.Else) ≡ true = open_else r (ap (λ (j : Kind). is_open (behind_kind r j)) (sym k) ∙ o.0) in
          let ends : cond (is_significant_kind r (first_kind m rest).0) ((first_kind m rest).0 ∷ []) [] ≡ [] ++ IsSymbol symbols.Else ∷ [] =
          ap (λ (j : Kind). cond (is_significant_kind r j) (j ∷ []) []) k ∙ ap (λ (b : Bool). cond b (IsSymbol symbols.Else ∷ []) []) says in
          absurd (o.1 [] ends)
      by true false is colon old = ap (λ (b : Bool). made b (folded m.1 (slash_first ns) (sort_first (behind_one ns)))) (no_sign true false is colon) ∙ ap (λ (o : Option Kind). or_kind o (alone m.0 m.1)) new_none ∙ sym old
      by false c is colon old = ap (λ (b : Bool). made b (folded m.1 (slash_first ns) (sort_first (behind_one ns)))) (no_else (colon_first ns) is) ∙ ap (λ (o : Option Kind). or_kind o (alone m.0 m.1)) new_none ∙ sym old

-- and that of the mark before the last
before_first : (m n : Mark) (rest ns : List Mark) → is_number (sort_first ns) ≡ false → ((first_kind m (n ∷ rest)).1 - 1) - 1 ≡ 0 → first_kind m (n ∷ ns) ≡ first_kind m (n ∷ rest)
before_first m n rest ns number one = by (is_else (sym_of m) && is_colon (sym_of n)) refl
  where
    by : (b : Bool) → (is_else (sym_of m) && is_colon (sym_of n)) ≡ b → first_kind m (n ∷ ns) ≡ first_kind m (n ∷ rest)
    by true is = rw is refl
    by false is =
        let old : or_kind (folded m.1 (is_slash (sym_of n)) (sort_first rest)) (alone m.0 m.1) ≡ (alone m.0 m.1, 1) =
        size_two (folded m.1 (is_slash (sym_of n)) (sort_first rest)) (alone m.0 m.1) (rw is at one) in
        let new : folded m.1 (is_slash (sym_of n)) (sort_first ns) ≡ None = fold_none m.1 (is_slash (sym_of n)) (sort_first ns) number in
        rw is (ap (λ (o : Option Kind). or_kind o (alone m.0 m.1)) new ∙ sym old)

-- ---- all of a front

pub record Kept (r : Region) (skip : ℕ) (c rest ns : List Mark) : Type 0 where
  pub heard : front_heard r skip c ns ≡ front_heard r skip c rest
  pub state : state r skip c ns ≡ state r skip c rest

kept_more : (r : Region) (m : Mark) (ms rest ns : List Mark) → first_kind m (ms ++ ns) ≡ first_kind m (ms ++ rest)
    → Kept (behind_kind r (first_kind m (ms ++ rest)).0) ((first_kind m (ms ++ rest)).1 - 1) ms rest ns → Kept r zero (m ∷ ms) rest ns
kept_more r m ms rest ns same k =
    let j = first_kind m (ms ++ rest) in
    record {
      heard = ap (λ (i : Kind × ℕ). cond (is_significant_kind r i.0) (i.0 ∷ front_heard (behind_kind r i.0) (i.1 - 1) ms ns) (front_heard (behind_kind r i.0) (i.1 - 1) ms ns)) same
          ∙ ap (λ (l : List Kind). cond (is_significant_kind r j.0) (j.0 ∷ l) l) k.heard;
      state = ap (λ (i : Kind × ℕ). state (behind_kind r i.0) (i.1 - 1) ms ns) same ∙ k.state;
    }

off_more : (q : Region) (b : Bool) (k : Kind) (ks : List Kind) (ns : List Mark) → Off q (cond b (k ∷ ks) ks) ns → Off q ks ns
off_more q b k ks ns off colon = ((off colon).0, λ js e. by b (off colon).1 js e)
  where
    by : (b : Bool) → ((js : List Kind) → cond b (k ∷ ks) ks ≡ js ++ IsSymbol symbols.Else ∷ [] → ⊥) → (js : List Kind) → ks ≡ js ++ IsSymbol symbols.Else ∷ [] → ⊥
    by true never js e = never (k ∷ js) (ap (λ (l : List Kind). k ∷ l) e)
    by false never js e = never js e

pub kept : (r : Region) (skip : ℕ) (c rest ns : List Mark) → (state r skip c rest).1 ≡ 0 → slash_first ns ≡ false → is_number (sort_first ns) ≡ false → Off (state r skip c rest).0 (front_heard r skip c rest) ns → Kept r skip c rest ns
kept r skip [] rest ns done slash number off = record { heard = refl; state = refl }
kept r (suc skip) (m ∷ ms) rest ns done slash number off =
    let k = kept r skip ms rest ns done slash number off in
    record { heard = k.heard; state = k.state }
kept r zero (m ∷ []) rest ns done slash number off =
    kept_more r m [] rest ns (last_first r m rest ns slash done off) (record { heard = refl; state = rest_state })
  where
    rest_state : state (behind_kind r (first_kind m rest).0) ((first_kind m rest).1 - 1) [] ns ≡ state (behind_kind r (first_kind m rest).0) ((first_kind m rest).1 - 1) [] rest
    rest_state = refl
kept r zero (m ∷ n ∷ []) rest ns done slash number off =
    let j = first_kind m (n ∷ rest) in
    let more = off_more (state r zero (m ∷ n ∷ []) rest).0 (is_significant_kind r j.0) j.0 (front_heard (behind_kind r j.0) (j.1 - 1) (n ∷ []) rest) ns off in
    kept_more r m (n ∷ []) rest ns (before_first m n rest ns number (two (behind_kind r j.0) (j.1 - 1) done))
    (kept (behind_kind r j.0) (j.1 - 1) (n ∷ []) rest ns done slash number more)
  where
    two : (q : Region) (k : ℕ) → (state q k (n ∷ []) rest).1 ≡ 0 → k - 1 ≡ 0
    two q zero e = refl
    two q (suc k) e = omega (arith, e)
kept r zero (m ∷ n ∷ o ∷ ms) rest ns done slash number off =
    let j = first_kind m (n ∷ o ∷ (ms ++ rest)) in
    let more = off_more (state r zero (m ∷ n ∷ o ∷ ms) rest).0 (is_significant_kind r j.0) j.0 (front_heard (behind_kind r j.0) (j.1 - 1) (n ∷ o ∷ ms) rest) ns off in
    kept_more r m (n ∷ o ∷ ms) rest ns refl
    (kept (behind_kind r j.0) (j.1 - 1) (n ∷ o ∷ ms) rest ns done slash number more)
