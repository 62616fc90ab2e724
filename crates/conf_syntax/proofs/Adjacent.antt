-- Words that no tree has side by side, where none before them is of the kinds that let them.
use Rattle.std.proofs.Common.{◌≡◌, Bool, true, false, not, ◌||◌, ◌&&◌, List, [], ◌∷◌, ◌++◌, length, refl, sym, ap, subst, ◌∙◌, append_assoc, append-nil, arith, inl, inr}
use Rattle.std.proofs.lemmas.List.{length-append}
use Rattle.conf_lex.specs.declared.word.Word.{Word}
use Rattle.conf_lex.specs.Kind.{Kind, kind_of}
use Rattle.conf_lex.specs.Grammar.{Terminal, Epsilon, Seq, Alt, Repeat, Nested, ParseTree, Leaf, NoWords, Pair, Left, Right, Single, Snoc, Deeper, yield, first_set, DerivesLongest}
use Rattle.conf_lex.specs.Sentences.{IsBegun}
use Rattle.conf_lex.proofs.Good.{Front, Solid, fits_front}
use Rattle.conf_lex.proofs.Checks.{all_of, kinds, is_kind, all_in, and_true, or_cases, or_left, or_right}
use Rattle.conf_lex.proofs.Unique.{fronts}
use Rattle.expr_syntax.specs.Syntax.{rule}
use Rattle.expr_syntax.specs.Levels.{Level, Form}
use Rattle.expr_syntax.proofs.Tested.{checked, solid_at}
use Rattle.conf_syntax.specs.Pairs.{has}
use Rattle.conf_syntax.proofs.Ends.{implied, ends, ends_so, not_both}

-- ---- two words among those of two trees

pub data Place (x y front : List Word) (u w : Word) (more : List Word) : Type 0 where
  in_first : (rest : List Word) → x ≡ front ++ u ∷ w ∷ rest → Place x y front u w more
  between : x ≡ front ++ u ∷ [] → y ≡ w ∷ more → Place x y front u w more
  in_second : (rest : List Word) → front ≡ x ++ rest → y ≡ rest ++ u ∷ w ∷ more → Place x y front u w more

by_rest : (x y front : List Word) (u w : Word) (more : List Word) (v : Word) (rest : List Word) → x ≡ front ++ v ∷ rest → u ∷ w ∷ more ≡ v ∷ (rest ++ y) → Place x y front u w more
by_rest x y front u w more v [] cut e =
    let same : v ≡ u = cc in
    let behind : y ≡ w ∷ more = cc in
    between (cut ∙ ap (λ (z : Word). front ++ z ∷ []) same) behind
by_rest x y front u w more v (z ∷ rest) cut e =
    let same : v ≡ u = cc in
    let next : z ≡ w = cc in
    in_first rest (cut ∙ ap (λ (a : Word). front ++ a ∷ z ∷ rest) same ∙ ap (λ (a : Word). front ++ u ∷ a ∷ rest) next)

pub place_of : (x y front : List Word) (u w : Word) (more : List Word) → x ++ y ≡ front ++ u ∷ w ∷ more → Place x y front u w more
place_of x y front u w more e = elim (fronts x y front (u ∷ w ∷ more) e) [
  | inl same ↦ in_second [] (sym same.0 ∙ sym (append-nil x)) same.1
  | inr other ↦ elim other [
    | inl l ↦ by_rest x y front u w more l.word l.more l.front l.rest
    | inr l ↦ in_second (l.word ∷ l.more) l.front l.rest
  ]
]

too_few : (v : Word) (front : List Word) (u w : Word) (more : List Word) → v ∷ [] ≡ front ++ u ∷ w ∷ more → ⊥
too_few v front u w more e = omega (arith, ap (λ (u : List Word). length u) e, length-append front (u ∷ w ∷ more))

none_fewer : (front : List Word) (u w : Word) (more : List Word) → [] ≡ front ++ u ∷ w ∷ more → ⊥
none_fewer front u w more e = omega (arith, ap (λ (u : List Word). length u) e, length-append front (u ∷ w ∷ more))

-- ---- some word of a kind

has_left : (c : Kind → Bool) (xs ys : List Word) → has c xs ≡ true → has c (xs ++ ys) ≡ true
has_left c [] ys e = absurd cc
has_left c (x ∷ xs) ys e = elim (or_cases (c (kind_of x)) (has c xs) e) [
  | inl h ↦ or_left _ _ h
  | inr h ↦ or_right _ _ (has_left c xs ys h)
]

pub has_right : (c : Kind → Bool) (xs ys : List Word) → has c ys ≡ true → has c (xs ++ ys) ≡ true
has_right c [] ys e = e
has_right c (x ∷ xs) ys e = or_right _ _ (has_right c xs ys e)

none_right : (c : Kind → Bool) (xs ys : List Word) → has c (xs ++ ys) ≡ false → has c ys ≡ false
none_right c xs ys none = by (has c ys) refl
  where
    by : (b : Bool) → has c ys ≡ b → has c ys ≡ false
    by true e = absurd (not_both _ (has_right c xs ys e) none)
    by false e = e

-- each kind and none

abbrev pub any : Kind → Bool
any k = true

abbrev pub no_kind : Kind → Bool
no_kind k = false

pub has_none : (ws : List Word) → has no_kind ws ≡ false
has_none [] = refl
has_none (w ∷ ws) = has_none ws

-- the kinds of the word before, of the one behind it, of those that let them, and the levels that are looked at
module _ (a b c : Kind → Bool) (inside : Level → Bool) where
  -- no word that passes the one test stands before one that passes the other
  abbrev pub apart : (Kind → Bool) → (Kind → Bool) → Bool
  apart p q = all_of kinds (λ k. not (b k) || not (q k)) || all_of kinds (λ k. not (a k) || not (p k))

  -- each tree has a word that lets them
  abbrev pub lets : Form → Bool
  lets (Terminal p) = all_of kinds (λ k. not (p k) || c k)
  lets Epsilon = false
  lets (Seq f g) = lets f || lets g
  lets (Alt f g) = lets f && lets g
  lets (Repeat f g) = lets f
  lets (Nested p n) = false

  -- no tree has the two side by side without
  abbrev pub fine : Form → Bool
  fine (Terminal p) = true
  fine Epsilon = true
  fine (Seq f g) = fine f && (lets f || (fine g && apart (ends f) (first_set g)))
  fine (Alt f g) = fine f && fine g
  fine (Repeat f g) = fine f && (lets f || (fine g && apart (ends (Repeat f g)) (first_set g)))
  fine (Nested p n) = apart p (first_set (rule n)) && inside n

  not_passed : (p q : Kind → Bool) (k : Kind) → all_of kinds (λ j. not (p j) || not (q j)) ≡ true → p k ≡ true → q k ≡ true → ⊥
  not_passed p q k all is also =
      let off = implied _ _ (all_in (λ j. not (p j) || not (q j)) k kinds (is_kind k) all) is in
      let neither : true ≡ false = sym off ∙ ap not also in
      cc

  apart_so : (p q : Kind → Bool) (j k : Kind) → apart p q ≡ true → a j ≡ true → b k ≡ true → p j ≡ true → q k ≡ true → ⊥
  apart_so p q j k ok is_a is_b before behind = elim (or_cases _ _ ok) [
    | inl h ↦ not_passed b q k h is_b behind
    | inr h ↦ not_passed a p j h is_a before
  ]

  lets_so : (t : ParseTree) (f : Form) → lets f ≡ true → DerivesLongest rule t f → has c (yield t) ≡ true
  lets_so (Leaf v) (Terminal p) ok fits = or_left _ _ (implied _ _ (all_in (λ j. not (p j) || c j) (kind_of v) kinds (is_kind (kind_of v)) ok) fits)
  lets_so (Pair x y) (Seq f g) ok fits = elim (or_cases _ _ ok) [
    | inl h ↦ has_left c (yield x) (yield y) (lets_so x f h fits.0)
    | inr h ↦ has_right c (yield x) (yield y) (lets_so y g h fits.1)
  ]
  lets_so (Left x) (Alt f g) ok fits = lets_so x f (and_true _ _ ok).0 fits
  lets_so (Right y) (Alt f g) ok fits = lets_so y g (and_true _ _ ok).1 fits
  lets_so (Single x) (Repeat f g) ok fits = lets_so x f ok fits
  lets_so (Snoc t y) (Repeat f g) ok fits = has_left c (yield t) (yield y) (lets_so t (Repeat f g) ok fits.0)
  lets_so NoWords Epsilon ok fits = absurd cc
  lets_so (Deeper v t) (Nested p n) ok fits = absurd cc
  lets_so _ _ ok fits = absurd fits

  first_is : (t : ParseTree) (f : Form) → Solid f → DerivesLongest rule t f → (w : Word) (more : List Word) → yield t ≡ w ∷ more → first_set f (kind_of w) ≡ true
  first_is t f solid fits w more e = subst (λ (u : List Word). Front f u) e (fits_front rule t f solid fits)

  rest_has_none : (x front rest : List Word) (u : Word) → front ≡ x ++ rest → has c (front ++ u ∷ []) ≡ false → has c (x ++ (rest ++ u ∷ [])) ≡ false
  rest_has_none x front rest u before none = ap (has c) (sym (append_assoc x rest (u ∷ [])) ∙ ap (λ (v : List Word). v ++ u ∷ []) (sym before)) ∙ none

  module _ (rules : (n : Level) → inside n ≡ true → fine (rule n) ≡ true) where
    pub apart_words : (t : ParseTree) (f : Form) → Solid f → fine f ≡ true → DerivesLongest rule t f → (front : List Word) (u w : Word) (more : List Word) → yield t ≡ front ++ u ∷ w ∷ more → a (kind_of u) ≡ true → b (kind_of w) ≡ true → has c (front ++ u ∷ []) ≡ false → ⊥
    apart_words (Leaf v) (Terminal p) solid ok fits front u w more e is_a is_b none = too_few v front u w more e
    apart_words NoWords Epsilon solid ok fits front u w more e is_a is_b none = none_fewer front u w more e
    apart_words (Pair x y) (Seq f g) solid ok fits front u w more e is_a is_b none =
        let parts = and_true (fine f) _ ok in
        elim (place_of (yield x) (yield y) front u w more e) [
          | in_first rest cut ↦ apart_words x f solid.0 parts.0 fits.0 front u w rest cut is_a is_b none
          | between cut next ↦ elim (or_cases (lets f) _ parts.1) [
            | inl h ↦ not_both _ (subst (λ (v : List Word). has c v ≡ true) cut (lets_so x f h fits.0)) none
            | inr h ↦ apart_so (ends f) (first_set g) (kind_of u) (kind_of w) (and_true (fine g) _ h).1 is_a is_b (ends_so x f solid.0 fits.0 front u cut) (first_is y g solid.1 fits.1 w more next)
          ]
          | in_second rest before cut ↦
              let rest_none = rest_has_none (yield x) front rest u before none in
              elim (or_cases (lets f) _ parts.1) [
                | inl h ↦ not_both _ (has_left c (yield x) (rest ++ u ∷ []) (lets_so x f h fits.0)) rest_none
                | inr h ↦ apart_words y g solid.1 (and_true (fine g) _ h).0 fits.1 rest u w more cut is_a is_b (none_right c (yield x) (rest ++ u ∷ []) rest_none)
              ]
        ]
    apart_words (Left x) (Alt f g) solid ok fits front u w more e is_a is_b none = apart_words x f solid.0 (and_true (fine f) _ ok).0 fits front u w more e is_a is_b none
    apart_words (Right y) (Alt f g) solid ok fits front u w more e is_a is_b none = apart_words y g solid.1 (and_true (fine f) _ ok).1 fits front u w more e is_a is_b none
    apart_words (Single x) (Repeat f g) solid ok fits front u w more e is_a is_b none =
        apart_words x f solid.0 (and_true (fine f) _ ok).0 fits front u w more e is_a is_b none
    apart_words (Snoc t y) (Repeat f g) solid ok fits front u w more e is_a is_b none =
        let parts = and_true (fine f) _ ok in
        elim (place_of (yield t) (yield y) front u w more e) [
          | in_first rest cut ↦ apart_words t (Repeat f g) solid ok fits.0 front u w rest cut is_a is_b none
          | between cut next ↦ elim (or_cases (lets f) _ parts.1) [
            | inl h ↦ not_both _ (subst (λ (v : List Word). has c v ≡ true) cut (lets_so t (Repeat f g) h fits.0)) none
            | inr h ↦ apart_so (ends (Repeat f g)) (first_set g) (kind_of u) (kind_of w) (and_true (fine g) _ h).1 is_a is_b (ends_so t (Repeat f g) solid fits.0 front u cut) (first_is y g solid.1 fits.1 w more next)
          ]
          | in_second rest before cut ↦
              let rest_none = rest_has_none (yield t) front rest u before none in
              elim (or_cases (lets f) _ parts.1) [
                | inl h ↦ not_both _ (has_left c (yield t) (rest ++ u ∷ []) (lets_so t (Repeat f g) h fits.0)) rest_none
                | inr h ↦ apart_words y g solid.1 (and_true (fine g) _ h).0 fits.1 rest u w more cut is_a is_b (none_right c (yield t) (rest ++ u ∷ []) rest_none)
              ]
        ]
    apart_words (Deeper v t) (Nested p n) solid ok fits [] u w more e is_a is_b none =
        let same : v ≡ u = cc in
        let next : yield t ≡ w ∷ more = cc in
        let passes : p (kind_of u) ≡ true = ap (λ (z : Word). p (kind_of z)) (sym same) ∙ fits.0 in
        apart_so p (first_set (rule n)) (kind_of u) (kind_of w) (and_true _ _ ok).0 is_a is_b passes (first_is t (rule n) (solid_at (rule n) (checked.checks n)) fits.1 w more next)
    apart_words (Deeper v t) (Nested p n) solid ok fits (z ∷ front) u w more e is_a is_b none =
        let next : yield t ≡ front ++ u ∷ w ∷ more = cc in
        apart_words t (rule n) (solid_at (rule n) (checked.checks n)) (rules n (and_true (apart p (first_set (rule n))) (inside n) ok).1) fits.1 front u w more next is_a is_b (none_right c (z ∷ []) (front ++ u ∷ []) none)
    apart_words _ _ solid ok fits front u w more e is_a is_b none = absurd fits

    pub never_begun : (f : Form) → Solid f → fine f ≡ true → (front : List Word) (u w : Word) → a (kind_of u) ≡ true → b (kind_of w) ≡ true → has c (front ++ u ∷ []) ≡ false → IsBegun rule f ((front ++ u ∷ []) ++ w ∷ []) → ⊥
    never_begun f solid ok front u w is_a is_b none begun =
        apart_words begun.0 f solid ok begun.2 front u w begun.1 (begun.3 ∙ append_assoc (front ++ u ∷ []) (w ∷ []) begun.1 ∙ append_assoc front (u ∷ []) (w ∷ begun.1)) is_a is_b none
