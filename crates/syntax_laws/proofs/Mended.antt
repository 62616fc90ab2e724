-- Where the only words that both go on with a part and begin what follows it are those of one tail, a word that opens
-- a level and what stands in it, each tree of the grammar alone has a tree of the same words that fits: the one in
-- which the nearest part that can take the tail has it.
use Rattle.std.proofs.Common.{◌≡◌, Bool, true, false, ◌&&◌, ◌||◌, List, [], ◌∷◌, ◌++◌, refl, sym, ap, subst, ◌∙◌, append_assoc, append-nil, inl, inr}
use Rattle.conf_lex.specs.declared.word.Word.{Word}
use Rattle.conf_lex.specs.Kind.{Kind, kind_of}
use Rattle.conf_lex.specs.Grammar.{Form, Terminal, Epsilon, Seq, Alt, Repeat, Nested, ParseTree, Leaf, NoWords, Pair, Left, Right, Single, Snoc, Deeper, yield, begins, first_set, is_blank, can_continue, can_continue_in, DerivesLongest, Derives}
use Rattle.conf_lex.proofs.Good.{fits_front, begins-append}
use Rattle.conf_lex.proofs.Chains.{full_blank}
use Rattle.conf_lex.proofs.Checks.{check, Checked, more, not, not_true, and_true, or_cases, all_of, all_in, kinds, is_kind, solid_of, goes_more, goes_inner}
use Rattle.conf_lex.proofs.Exact.{begins_none, blank_is, bool_cases}
use Rattle.syntax_laws.proofs.Spelled.{apart, front_starts}

-- ---- the test

module _ {L : Type 0} (tail : Kind → Bool) (is_inside : L → Bool) where
  -- no word of the tail's kinds begins the form
  abbrev pub untailed : Form L → Bool
  untailed f = all_of kinds (λ k. not (tail k && first_set f k))

  -- what stands in the tail's level stands in the form's
  abbrev pub opens : Form L → Bool
  opens (Nested p n) = is_inside n
  opens _ = false

  -- wherever a tail could go on with a tree of the form, the tree may have it
  abbrev pub takes : Form L → Bool
  takes (Terminal p) = true
  takes Epsilon = true
  takes (Seq f g) = takes f && takes g
  takes (Alt f g) = (takes f && takes g) && (opens f || untailed f)
  takes (Repeat f g) = (takes f && takes g) && untailed g
  takes (Nested p n) = true

  -- a form that is the tail, or nothing
  abbrev pub ends : Form L → Bool
  ends (Alt (Nested p n) Epsilon) = is_inside n
  ends _ = false

  -- no word goes on with a part and begins what follows it, but the tail's where it follows
  abbrev pub decides : (L → Kind → Bool) → Form L → Bool
  decides after (Terminal p) = true
  decides after Epsilon = true
  decides after (Seq f g) = (decides after f && decides after g) && (all_of kinds (λ k. not (more after f k && first_set g k)) || ((takes f && ends g) && all_of kinds (λ k. not (more after f k && first_set g k) || tail k)))
  decides after (Alt f g) = decides after f && decides after g
  decides after (Repeat f g) = (decides after f && decides after g) && all_of kinds (λ k. not ((more after f k || more after g k) && first_set g k))
  decides after (Nested p n) = true

-- ---- words of trees

behind : (a b x more : List Word) → x ≡ b ++ more → a ++ x ≡ (a ++ b) ++ more
behind a b x more e = rw e (sym (append_assoc a b more))

before_blank : (a b x more : List Word) → b ≡ [] → x ≡ a ++ more → x ++ b ≡ (a ++ b) ++ more
before_blank a b x more none e = rw (none, append-nil a, append-nil x) e

both_same : (a b x y : List Word) → x ≡ a → y ≡ b → x ++ y ≡ a ++ b
both_same a b x y e h = rw (e, h) refl

not_both : (a b : Bool) → (a && b) ≡ false → a ≡ true → b ≡ true → ⊥
not_both true b e h i = absurd cc
not_both false b e h i = absurd cc

only_then : (a b c : Bool) → (not (a && b) || c) ≡ true → a ≡ true → b ≡ true → c ≡ true
only_then true true c e h i = e
only_then true false c e h i = absurd cc
only_then false b c e h i = absurd cc

module _ {L : Type 0} (rule : L → Form L) (model : L → ParseTree) (after : L → Kind → Bool) (checked : Checked rule model after) (tail : Kind → Bool) (is_inside : L → Bool) (inside : L) (inside_is : (n : L) → is_inside n ≡ true → n ≡ inside) (taking : (n : L) → takes tail is_inside (rule n) ≡ true) where
  module _ (w : Word) (s : ParseTree) (last : tail (kind_of w) ≡ true) (body : DerivesLongest rule s (rule inside)) where
    never_tail : (f : Form L) → untailed tail is_inside f ≡ true → first_set f (kind_of w) ≡ true → ⊥
    never_tail f e first = not_both (tail (kind_of w)) (first_set f (kind_of w)) (not_true _ (all_in (λ k. not (tail k && first_set f k)) (kind_of w) kinds (is_kind (kind_of w)) e)) last first

    -- the tail as a tree of the form
    opened : (f : Form L) → opens tail is_inside f ≡ true → first_set f (kind_of w) ≡ true → (u : ParseTree) × DerivesLongest rule u f × (yield u ≡ w ∷ yield s)
    opened (Nested p n) o first = (Deeper w s, (first, subst (λ (m : L). DerivesLongest rule s (rule m)) (sym (inside_is n o)) body), refl)
    opened _ o first = absurd cc

    alone : (f : Form L) → (opens tail is_inside f || untailed tail is_inside f) ≡ true → first_set f (kind_of w) ≡ true → (u : ParseTree) × DerivesLongest rule u f × (yield u ≡ w ∷ yield s)
    alone f e first = elim (or_cases (opens tail is_inside f) (untailed tail is_inside f) e) [
      | inl o ↦ opened f o first
      | inr never ↦ absurd (never_tail f never first)
    ]

    -- a tree that has the tail too
    taken : (t : ParseTree) (f : Form L) → check model after f ≡ true → takes tail is_inside f ≡ true → DerivesLongest rule t f → can_continue rule t f (kind_of w) ≡ true → (u : ParseTree) × DerivesLongest rule u f × (yield u ≡ yield t ++ w ∷ yield s)
    taken (Pair a b) (Seq f g) ok may fits on =
        let c = and_true _ _ (and_true _ _ ok).0 in
        let m = and_true _ _ may in
        elim (bool_cases (is_blank (yield b) && can_continue rule a f (kind_of w))) [
          | inl first ↦
              let parts = and_true (is_blank (yield b)) (can_continue rule a f (kind_of w)) first in
              let none : yield b ≡ [] = blank_is (yield b) parts.0 in
              let x = taken a f c.0 m.0 fits.0 parts.1 in
              (Pair x.0 b, (x.1, fits.1, begins_none (can_continue rule x.0 f) (yield b) none), before_blank (yield a) (yield b) (yield x.0) (w ∷ yield s) none x.2)
          | inr second ↦
              let goes : can_continue rule b g (kind_of w) ≡ true = elim (or_cases (can_continue rule b g (kind_of w)) (is_blank (yield b) && can_continue rule a f (kind_of w)) on) [ inl x ↦ x | inr x ↦ absurd cc ] in
              let y = taken b g c.1 m.1 fits.1 goes in
              let stop : begins (can_continue rule a f) (yield b ++ w ∷ yield s) ≡ false = begins-append (can_continue rule a f) (yield b) (w ∷ yield s) fits.2 (λ blank. let e : (is_blank (yield b) && can_continue rule a f (kind_of w)) ≡ false = second in rw blank at e) in
              (Pair a y.0, (fits.0, y.1, rw y.2 stop), behind (yield a) (yield b) (yield y.0) (w ∷ yield s) y.2)
        ]
    taken (Left a) (Alt f g) ok may fits on =
        let c = and_true _ _ (and_true _ _ ok).0 in
        let m = and_true _ _ (and_true _ _ may).0 in
        let x = taken a f c.0 m.0 fits on in
        (Left x.0, x.1, x.2)
    taken (Right b) (Alt f g) ok may fits on =
        let c : (check model after f ≡ true) × (check model after g ≡ true) = and_true _ _ (and_true _ _ ok).0 in
        let both : ((takes tail is_inside f && takes tail is_inside g) ≡ true) × ((opens tail is_inside f || untailed tail is_inside f) ≡ true) = and_true _ _ may in
        let m : (takes tail is_inside f ≡ true) × (takes tail is_inside g ≡ true) = and_true _ _ both.0 in
        elim (or_cases (can_continue rule b g (kind_of w)) (is_blank (yield b) && first_set f (kind_of w)) on) [
          | inl goes ↦ let y = taken b g c.1 m.1 fits goes in (Right y.0, y.1, y.2)
          | inr first ↦
              let parts = and_true (is_blank (yield b)) (first_set f (kind_of w)) first in
              let none : yield b ≡ [] = blank_is (yield b) parts.0 in
              let x = alone f both.1 parts.1 in
              (Left x.0, x.1, x.2 ∙ ap (λ (u : List Word). u ++ w ∷ yield s) (sym none))
        ]
    taken (Single a) (Repeat f g) ok may fits on =
        let c : (check model after f ≡ true) × (check model after g ≡ true) = and_true _ _ (and_true _ _ ok).0 in
        let both : ((takes tail is_inside f && takes tail is_inside g) ≡ true) × (untailed tail is_inside g ≡ true) = and_true _ _ may in
        let m : (takes tail is_inside f ≡ true) × (takes tail is_inside g ≡ true) = and_true _ _ both.0 in
        elim (or_cases (can_continue rule a f (kind_of w)) (first_set g (kind_of w)) on) [
          | inl goes ↦ let x = taken a f c.0 m.0 fits goes in (Single x.0, x.1, x.2)
          | inr first ↦ absurd (never_tail g both.1 first)
        ]
    taken (Snoc t b) (Repeat f g) ok may fits on =
        let c : (check model after f ≡ true) × (check model after g ≡ true) = and_true _ _ (and_true _ _ ok).0 in
        let both : ((takes tail is_inside f && takes tail is_inside g) ≡ true) × (untailed tail is_inside g ≡ true) = and_true _ _ may in
        let m : (takes tail is_inside f ≡ true) × (takes tail is_inside g ≡ true) = and_true _ _ both.0 in
        elim (or_cases (can_continue rule b g (kind_of w)) (first_set g (kind_of w)) on) [
          | inl goes ↦
              let y = taken b g c.1 m.1 fits.1 goes in
              let solid = solid_of rule model after (Repeat f g) ok in
              let full : is_blank (yield b) ≡ false = full_blank g (yield b) solid.2 (fits_front rule b g solid.1 fits.1) in
              let stop : begins (can_continue_in rule t (Repeat f g)) (yield b ++ w ∷ yield s) ≡ false = begins-append (can_continue_in rule t (Repeat f g)) (yield b) (w ∷ yield s) fits.2 (λ blank. absurd cc) in
              (Snoc t y.0, (fits.0, y.1, rw y.2 stop), behind (yield t) (yield b) (yield y.0) (w ∷ yield s) y.2)
          | inr first ↦ absurd (never_tail g both.1 first)
        ]
    taken (Deeper v t) (Nested p n) ok may fits on =
        let x = taken t (rule n) (checked.checks n) (taking n) fits.1 on in
        (Deeper v x.0, (fits.0, x.1), ap (λ (u : List Word). v ∷ u) x.2)
    taken (Leaf v) (Terminal p) ok may fits on = absurd cc
    taken NoWords Epsilon ok may fits on = absurd cc
    taken _ _ ok may fits on = absurd fits

  -- a tree and the tail behind it
  tailed : (f g : Form L) (a b : ParseTree) → check model after f ≡ true → takes tail is_inside f ≡ true → ends tail is_inside g ≡ true → ((k : Kind) → more after f k ≡ true → first_set g k ≡ true → tail k ≡ true) → DerivesLongest rule a f → DerivesLongest rule b g → (u : ParseTree) × DerivesLongest rule u (Seq f g) × (yield u ≡ yield a ++ yield b)
  tailed f (Alt (Nested p n) Epsilon) a (Left (Deeper w s)) ok may e only left right = elim (bool_cases (can_continue rule a f (kind_of w))) [
    | inl on ↦
        let first : (p (kind_of w) || false) ≡ true = rw right.0 refl in
        let last = only (kind_of w) (goes_more rule model after checked a f (kind_of w) (solid_of rule model after f ok) left on) first in
        let body : DerivesLongest rule s (rule inside) = subst (λ (m : L). DerivesLongest rule s (rule m)) (inside_is n e) right.1 in
        let x = taken w s last body a f ok may left on in
        (Pair x.0 (Right NoWords), (x.1, tt, refl), append-nil (yield x.0) ∙ x.2)
    | inr off ↦ (Pair a (Left (Deeper w s)), (left, right, off), refl)
  ]
  tailed f (Alt (Nested p n) Epsilon) a (Right NoWords) ok may e only left right = (Pair a (Right NoWords), (left, right, refl), refl)
  tailed f (Alt (Nested p n) Epsilon) a (Right _) ok may e only left right = absurd right
  tailed f (Alt (Nested p n) Epsilon) a (Left _) ok may e only left right = absurd right
  tailed f (Alt (Nested p n) Epsilon) a _ ok may e only left right = absurd right
  tailed f _ a b ok may e only left right = absurd cc

  module _ (deciding : (n : L) → decides tail is_inside after (rule n) ≡ true) where
    beside : (f g : Form L) (a b : ParseTree) → check model after f ≡ true → check model after g ≡ true → (all_of kinds (λ k. not (more after f k && first_set g k)) || ((takes tail is_inside f && ends tail is_inside g) && all_of kinds (λ k. not (more after f k && first_set g k) || tail k))) ≡ true → DerivesLongest rule a f → DerivesLongest rule b g → (u : ParseTree) × DerivesLongest rule u (Seq f g) × (yield u ≡ yield a ++ yield b)
    beside f g a b ok next one left right = elim (or_cases (all_of kinds (λ k. not (more after f k && first_set g k))) ((takes tail is_inside f && ends tail is_inside g) && all_of kinds (λ k. not (more after f k && first_set g k) || tail k)) one) [
      | inl strict ↦ (
        Pair a b,
        (
          left,
          right,
          apart (can_continue rule a f) (more after f) (first_set g) (yield b)
              (λ k. goes_more rule model after checked a f k (solid_of rule model after f ok) left)
              (λ k. not_true _ (all_in (λ j. not (more after f j && first_set g j)) k kinds (is_kind k) strict))
              (front_starts g (yield b) (fits_front rule b g (solid_of rule model after g next) right)),
        ),
        refl,
      )
      | inr x ↦
          let both = and_true _ _ x in
          let may = and_true _ _ both.0 in
          tailed f g a b ok may.0 may.1 (λ k. only_then (more after f k) (first_set g k) (tail k) (all_in (λ j. not (more after f j && first_set g j) || tail j) k kinds (is_kind k) both.1)) left right
    ]

    pub mended : (t : ParseTree) (f : Form L) → check model after f ≡ true → decides tail is_inside after f ≡ true → Derives rule t f → (u : ParseTree) × DerivesLongest rule u f × (yield u ≡ yield t)
    mended (Leaf w) (Terminal p) ok one h = (Leaf w, h, refl)
    mended NoWords Epsilon ok one h = (NoWords, h, refl)
    mended (Pair a b) (Seq f g) ok one h =
        let c = and_true _ _ (and_true _ _ ok).0 in
        let d = and_true _ _ one in
        let parts = and_true _ _ d.0 in
        let x = mended a f c.0 parts.0 h.0 in
        let y = mended b g c.1 parts.1 h.1 in
        let z = beside f g x.0 y.0 c.0 c.1 d.1 x.1 y.1 in
        (z.0, z.1, z.2 ∙ both_same (yield a) (yield b) (yield x.0) (yield y.0) x.2 y.2)
    mended (Left a) (Alt f g) ok one h = let x = mended a f (and_true _ _ (and_true _ _ ok).0).0 (and_true _ _ one).0 h in (Left x.0, x.1, x.2)
    mended (Right b) (Alt f g) ok one h = let x = mended b g (and_true _ _ (and_true _ _ ok).0).1 (and_true _ _ one).1 h in (Right x.0, x.1, x.2)
    mended (Single a) (Repeat f g) ok one h = let x = mended a f (and_true _ _ (and_true _ _ ok).0).0 (and_true _ _ (and_true _ _ one).0).0 h in (Single x.0, x.1, x.2)
    mended (Snoc t b) (Repeat f g) ok one h =
        let c = and_true _ _ (and_true _ _ ok).0 in
        let d = and_true _ _ one in
        let parts = and_true _ _ d.0 in
        let x = mended t (Repeat f g) ok one h.0 in
        let y = mended b g c.1 parts.1 h.1 in (
          Snoc x.0 y.0,
          (
            x.1,
            y.1,
            apart (can_continue_in rule x.0 (Repeat f g)) (λ k. more after f k || more after g k) (first_set g) (yield y.0)
                (λ k. goes_inner rule model after checked x.0 f g k (solid_of rule model after (Repeat f g) ok) x.1)
                (λ k. not_true _ (all_in (λ j. not ((more after f j || more after g j) && first_set g j)) k kinds (is_kind k) d.1))
                (front_starts g (yield y.0) (fits_front rule y.0 g (solid_of rule model after g c.1) y.1)),
          ),
          both_same (yield t) (yield b) (yield x.0) (yield y.0) x.2 y.2,
        )
    mended (Deeper w t) (Nested p n) ok one h = let x = mended t (rule n) (checked.checks n) (deciding n) h.1 in (Deeper w x.0, (h.0, x.1), ap (λ (u : List Word). w ∷ u) x.2)
    mended _ _ ok one h = absurd h
