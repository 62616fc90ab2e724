-- A grammar looks at kinds alone: trees of words of the same kinds, of an address with a slash behind it in whose place
-- a prefix stands, and of no prefix that is bad.
use Rattle.std.proofs.Common.{◌≡◌, ℕ, zero, suc, ◌≤◌, Bool, true, false, ◌&&◌, ◌||◌, List, [], ◌∷◌, ◌++◌, length, Option, Some, None, map, refl, sym, ap, subst, ◌∙◌, append_assoc, arith}
use Rattle.std.proofs.lemmas.List.{length-append}
use Rattle.conf_lex.specs.declared.word.Word.{Word}
use Rattle.conf_lex.specs.Kind.{Kind, IsNoPrefix, kind_of}
use Rattle.conf_lex.specs.Grammar.{Terminal, Epsilon, Seq, Alt, Repeat, Nested, ParseTree, Leaf, NoWords, Pair, Left, Right, Single, Snoc, Deeper, yield, begins, is_blank, or_later, too_deep, can_continue, can_continue_in, DerivesLongest}
use Rattle.conf_lex.specs.Sentences.{IsBegun, IsBegunWithin}
use Rattle.conf_lex.proofs.Checks.{and_true, not, not_true}
use Rattle.expr_syntax.specs.Syntax.{rule}
use Rattle.expr_syntax.specs.Levels.{Level, Form, group_level}
use Rattle.conf_syntax.specs.Syntax.{config}

-- ---- words of the same kinds

abbrev pub kinds_of : List Word → List Kind
kinds_of ws = map kind_of ws

record Split (xs ys vs : List Word) : Type 0 where
  one : List Word
  two : List Word
  cut : vs ≡ one ++ two
  first : kinds_of xs ≡ kinds_of one
  second : kinds_of ys ≡ kinds_of two

split : (xs ys vs : List Word) → kinds_of (xs ++ ys) ≡ kinds_of vs → Split xs ys vs
split [] ys vs e = record { one = []; two = vs; cut = refl; first = refl; second = e }
split (x ∷ xs) ys [] e = absurd cc
split (x ∷ xs) ys (v ∷ vs) e =
    let head : kind_of x ≡ kind_of v = cc in
    let tail : kinds_of (xs ++ ys) ≡ kinds_of vs = cc in
    let s = split xs ys vs tail in
    record { one = v ∷ s.one; two = s.two; cut = ap (λ (l : List Word). v ∷ l) s.cut; first = ap2 head s.first; second = s.second }
  where
    ap2 : {k j : Kind} {ks js : List Kind} → k ≡ j → ks ≡ js → k ∷ ks ≡ j ∷ js
    ap2 e f = cc

blank_same : (xs ys : List Word) → kinds_of xs ≡ kinds_of ys → is_blank xs ≡ is_blank ys
blank_same [] [] e = refl
blank_same [] (y ∷ ys) e = absurd cc
blank_same (x ∷ xs) [] e = absurd cc
blank_same (x ∷ xs) (y ∷ ys) e = refl

begins_same : (p q : Kind → Bool) → ((k : Kind) → p k ≡ q k) → (xs ys : List Word) → kinds_of xs ≡ kinds_of ys → begins p xs ≡ begins q ys
begins_same p q same [] [] e = refl
begins_same p q same [] (y ∷ ys) e = absurd cc
begins_same p q same (x ∷ xs) [] e = absurd cc
begins_same p q same (x ∷ xs) (y ∷ ys) e = let head : kind_of x ≡ kind_of y = cc in same (kind_of x) ∙ ap q head

one_word : (w : Word) (vs : List Word) → kinds_of (w ∷ []) ≡ kinds_of vs → (v : Word) × (vs ≡ v ∷ []) × (kind_of w ≡ kind_of v)
one_word w [] e = absurd cc
one_word w (v ∷ []) e = let head : kind_of w ≡ kind_of v = cc in (v, refl, head)
one_word w (v ∷ x ∷ vs) e = let rest : [] ≡ kind_of x ∷ kinds_of vs = cc in absurd cc

none_left : (vs : List Word) → kinds_of [] ≡ kinds_of vs → vs ≡ []
none_left [] e = refl
none_left (v ∷ vs) e = absurd cc

-- the same number of words from the first on that opens a level too many
abbrev SameDeep : Option (List Word) → Option (List Word) → Type 0
SameDeep None None = Unit {0}
SameDeep (Some xs) (Some ys) = length xs ≡ length ys
SameDeep _ _ = ⊥

later_same : (d e g h : Option (List Word)) (xs ys : List Word) → SameDeep d e → length xs ≡ length ys → SameDeep g h → SameDeep (or_later d xs g) (or_later e ys h)
later_same None None g h xs ys one len two = two
later_same (Some us) (Some vs) g h xs ys one len two = omega (arith, one, len, length-append us xs, length-append vs ys)
later_same _ _ g h xs ys one len two = absurd one

len_same : (xs ys : List Word) → kinds_of xs ≡ kinds_of ys → length ys ≡ length xs
len_same [] [] e = refl
len_same [] (y ∷ ys) e = absurd cc
len_same (x ∷ xs) [] e = absurd cc
len_same (x ∷ xs) (y ∷ ys) e = let tail : kinds_of xs ≡ kinds_of ys = cc in ap (λ (n : ℕ). suc n) (len_same xs ys tail)

-- a tree of the form, of these words, with which the same words go on
record Alike (t : ParseTree) (f : Form) (vs : List Word) : Type 0 where
  tree : ParseTree
  fits : DerivesLongest rule tree f
  reads : yield tree ≡ vs
  on : (k : Kind) → can_continue rule tree f k ≡ can_continue rule t f k
  inside : (k : Kind) → can_continue_in rule tree f k ≡ can_continue_in rule t f k
  deep : (n : ℕ) → SameDeep (too_deep tree n) (too_deep t n)

pub both_same : (a b c d e f : Bool) → a ≡ b → c ≡ d → e ≡ f → (a || (c && e)) ≡ (b || (d && f))
both_same a b c d e f p q r = rw (p, q, r) refl

pub or_same : (a b c : Bool) → a ≡ b → (a || c) ≡ (b || c)
or_same a b c e = rw e refl

apart_same : (p q : Kind → Bool) → ((k : Kind) → p k ≡ q k) → (xs ys : List Word) → kinds_of xs ≡ kinds_of ys → begins q xs ≡ false → begins p ys ≡ false
apart_same p q same xs ys e h = sym (begins_same q p (λ k. sym (same k)) xs ys e) ∙ h

alike : (t : ParseTree) (f : Form) (vs : List Word) → DerivesLongest rule t f → kinds_of (yield t) ≡ kinds_of vs → Alike t f vs
alike (Leaf w) (Terminal p) vs h e =
    let v = one_word w vs e in
    record { tree = Leaf v.0; fits = ap p (sym v.2) ∙ h; reads = sym v.1; on = λ k. refl; inside = λ k. refl; deep = λ n. tt }
alike NoWords Epsilon vs h e = record { tree = NoWords; fits = tt; reads = sym (none_left vs e); on = λ k. refl; inside = λ k. refl; deep = λ n. tt }
alike (Pair a b) (Seq f g) vs h e =
    let s = split (yield a) (yield b) vs e in
    let x = alike a f s.one h.0 s.first in
    let y = alike b g s.two h.1 s.second in
    let back : kinds_of (yield b) ≡ kinds_of (yield y.tree) = s.second ∙ ap kinds_of (sym y.reads) in
    record {
      tree = Pair x.tree y.tree;
      fits = (x.fits, y.fits, apart_same (can_continue rule x.tree f) (can_continue rule a f) x.on (yield b) (yield y.tree) back h.2);
      reads = ap (λ (l : List Word). l ++ yield y.tree) x.reads ∙ ap (λ (l : List Word). s.one ++ l) y.reads ∙ sym s.cut;
      on = λ k. both_same _ _ _ _ _ _ (y.on k) (sym (blank_same (yield b) (yield y.tree) back)) (x.on k);
      inside = λ k. refl;
      deep = λ n. later_same (too_deep x.tree n) (too_deep a n) (too_deep y.tree n) (too_deep b n) (yield y.tree) (yield b) (x.deep n) (len_same (yield b) (yield y.tree) back) (y.deep n);
    }
alike (Left a) (Alt f g) vs h e =
    let x = alike a f vs h e in
    record { tree = Left x.tree; fits = x.fits; reads = x.reads; on = x.on; inside = λ k. refl; deep = x.deep }
alike (Right b) (Alt f g) vs h e =
    let y = alike b g vs h e in
    let back : kinds_of (yield b) ≡ kinds_of (yield y.tree) = e ∙ ap kinds_of (sym y.reads) in
    record { tree = Right y.tree; fits = y.fits; reads = y.reads; on = λ k. both_same _ _ _ _ _ _ (y.on k) (sym (blank_same (yield b) (yield y.tree) back)) refl; inside = λ k. refl; deep = y.deep }
alike (Single a) (Repeat f g) vs h e =
    let x = alike a f vs h e in
    record { tree = Single x.tree; fits = x.fits; reads = x.reads; on = λ k. or_same _ _ _ (x.on k); inside = x.on; deep = x.deep }
alike (Snoc t b) (Repeat f g) vs h e =
    let s = split (yield t) (yield b) vs e in
    let x = alike t (Repeat f g) s.one h.0 s.first in
    let y = alike b g s.two h.1 s.second in
    let back : kinds_of (yield b) ≡ kinds_of (yield y.tree) = s.second ∙ ap kinds_of (sym y.reads) in
    record {
      tree = Snoc x.tree y.tree;
      fits = (x.fits, y.fits, apart_same (can_continue_in rule x.tree (Repeat f g)) (can_continue_in rule t (Repeat f g)) x.inside (yield b) (yield y.tree) back h.2);
      reads = ap (λ (l : List Word). l ++ yield y.tree) x.reads ∙ ap (λ (l : List Word). s.one ++ l) y.reads ∙ sym s.cut;
      on = λ k. or_same _ _ _ (y.on k);
      inside = y.on;
      deep = λ n. later_same (too_deep x.tree n) (too_deep t n) (too_deep y.tree n) (too_deep b n) (yield y.tree) (yield b) (x.deep n) (len_same (yield b) (yield y.tree) back) (y.deep n);
    }
alike (Deeper w t) (Nested p n) [] h e = absurd cc
alike (Deeper w t) (Nested p n) (v ∷ vs) h e =
    let head : kind_of w ≡ kind_of v = cc in
    let tail : kinds_of (yield t) ≡ kinds_of vs = cc in
    let x = alike t (rule n) vs h.1 tail in
    let len : length (yield x.tree) ≡ length (yield t) = ap (λ (l : List Word). length l) x.reads ∙ len_same (yield t) vs tail in
    record { tree = Deeper v x.tree; fits = (ap p (sym head) ∙ h.0, x.fits); reads = ap (λ (l : List Word). v ∷ l) x.reads; on = x.on; inside = λ k. refl; deep = λ k. inner k x.tree len x.deep }
  where
    inner : (k : ℕ) (u : ParseTree) → length (yield u) ≡ length (yield t) → ((m : ℕ) → SameDeep (too_deep u m) (too_deep t m)) → SameDeep (too_deep (Deeper v u) k) (too_deep (Deeper w t) k)
    inner zero u len same = ap (λ (m : ℕ). suc m) len
    inner (suc k) u len same = same k
alike _ _ vs h e = absurd h

-- a tree of other words of the same kinds
pub same_words : (t : ParseTree) (f : Form) (vs : List Word) → DerivesLongest rule t f → kinds_of (yield t) ≡ kinds_of vs → (u : ParseTree) × DerivesLongest rule u f × (yield u ≡ vs)
same_words t f vs h e = let x = alike t f vs h e in (x.tree, x.fits, x.reads)

append_kinds : (xs ys more : List Word) → kinds_of xs ≡ kinds_of ys → kinds_of (xs ++ more) ≡ kinds_of (ys ++ more)
append_kinds [] [] more e = refl
append_kinds [] (y ∷ ys) more e = absurd cc
append_kinds (x ∷ xs) [] more e = absurd cc
append_kinds (x ∷ xs) (y ∷ ys) more e =
    let head : kind_of x ≡ kind_of y = cc in
    let tail : kinds_of xs ≡ kinds_of ys = cc in
    let rest = append_kinds xs ys more tail in cc

-- what is begun by words is begun by others of the same kinds
pub begun_alike : (f : Form) (xs ys : List Word) → kinds_of xs ≡ kinds_of ys → IsBegun rule f xs → IsBegun rule f ys
begun_alike f xs ys e b =
    let x = alike b.0 f (ys ++ b.1) b.2 (ap kinds_of b.3 ∙ append_kinds xs ys b.1 e) in
    (x.tree, b.1, x.fits, x.reads)

-- what is begun within the levels is begun so by others of the same kinds
pub within_alike : (f : Form) (k : ℕ) (xs ys : List Word) → kinds_of xs ≡ kinds_of ys → IsBegunWithin rule k f xs → IsBegunWithin rule k f ys
within_alike f k xs ys e b =
    let x = alike b.0 f (ys ++ b.1) b.2 (ap kinds_of b.3 ∙ append_kinds xs ys b.1 e) in
    (x.tree, b.1, x.fits, x.reads, λ deep s. low (too_deep x.tree k) (too_deep b.0 k) (x.deep k) deep s b.4)
  where
    low : (d e : Option (List Word)) → SameDeep d e → (us : List Word) → d ≡ Some us → ((vs : List Word) → e ≡ Some vs → length vs ≤ length b.1) → length us ≤ length b.1
    low (Some ds) (Some es) same us is most =
        let one : ds ≡ us = cc in
        omega (arith, same, most es refl, ap (λ (l : List Word). length l) one)
    low None e same us is most = absurd cc
    low _ _ same us is most = absurd same

-- ---- no bad prefix

abbrev takes_none : Form → Bool
takes_none (Terminal p) = not (p IsNoPrefix)
takes_none Epsilon = true
takes_none (Seq f g) = takes_none f && takes_none g
takes_none (Alt f g) = takes_none f && takes_none g
takes_none (Repeat f g) = takes_none f && takes_none g
takes_none (Nested p n) = not (p IsNoPrefix)

levels_take_none : (n : Level) → takes_none (rule n) ≡ true
levels_take_none group_level = refl
levels_take_none _ = refl

-- none of the words is a bad prefix
abbrev HasNone : List Word → Type 0
HasNone [] = Unit {0}
HasNone (w ∷ ws) = (kind_of w ≡ IsNoPrefix → ⊥) × HasNone ws

has_none_both : (xs ys : List Word) → HasNone xs → HasNone ys → HasNone (xs ++ ys)
has_none_both [] ys h g = g
has_none_both (x ∷ xs) ys h g = (h.0, has_none_both xs ys h.1 g)

never_taken : (p : Kind → Bool) (w : Word) → not (p IsNoPrefix) ≡ true → p (kind_of w) ≡ true → kind_of w ≡ IsNoPrefix → ⊥
never_taken p w none takes is =
    let no : p IsNoPrefix ≡ false = not_true (p IsNoPrefix) none in
    let other : p IsNoPrefix ≡ true = ap p (sym is) ∙ takes in
    cc

fits_none : (t : ParseTree) (f : Form) → takes_none f ≡ true → DerivesLongest rule t f → HasNone (yield t)
fits_none (Leaf w) (Terminal p) e h = (never_taken p w e h, tt)
fits_none NoWords Epsilon e h = tt
fits_none (Pair a b) (Seq f g) e h = let c = and_true (takes_none f) (takes_none g) e in has_none_both (yield a) (yield b) (fits_none a f c.0 h.0) (fits_none b g c.1 h.1)
fits_none (Left a) (Alt f g) e h = fits_none a f (and_true (takes_none f) (takes_none g) e).0 h
fits_none (Right b) (Alt f g) e h = fits_none b g (and_true (takes_none f) (takes_none g) e).1 h
fits_none (Single a) (Repeat f g) e h = fits_none a f (and_true (takes_none f) (takes_none g) e).0 h
fits_none (Snoc t b) (Repeat f g) e h = has_none_both (yield t) (yield b) (fits_none t (Repeat f g) e h.0) (fits_none b g (and_true (takes_none f) (takes_none g) e).1 h.1)
fits_none (Deeper w t) (Nested p n) e h = (never_taken p w e h.0, fits_none t (rule n) (levels_take_none n) h.1)
fits_none _ _ e h = absurd h

has_none_at : (before : List Word) (w : Word) (more : List Word) → HasNone (before ++ w ∷ more) → kind_of w ≡ IsNoPrefix → ⊥
has_none_at [] w more h is = h.0 is
has_none_at (v ∷ before) w more h is = has_none_at before w more h.1 is

pub never_bad_prefix : (before : List Word) (w : Word) → kind_of w ≡ IsNoPrefix → IsBegun rule config (before ++ w ∷ []) → ⊥
never_bad_prefix before w is b =
    has_none_at before w b.1 (subst HasNone (b.3 ∙ append_assoc before (w ∷ []) b.1) (fits_none b.0 config refl b.2)) is
