-- Where the next word always decides, a tree of the grammar alone fits.
use Rattle.std.proofs.Common.{◌≡◌, Bool, true, false, ◌&&◌, ◌||◌, List, [], ◌∷◌, refl}
use Rattle.conf_lex.specs.declared.word.Word.{Word}
use Rattle.conf_lex.specs.Kind.{Kind, kind_of}
use Rattle.conf_lex.specs.Grammar.{Form, Terminal, Epsilon, Seq, Alt, Repeat, Nested, ParseTree, Leaf, NoWords, Pair, Left, Right, Single, Snoc, Deeper, yield, begins, first_set, can_continue, can_continue_in, DerivesLongest, Derives}
use Rattle.conf_lex.proofs.Good.{Front, fits_front}
use Rattle.conf_lex.proofs.Checks.{check, Checked, more, not, not_true, and_true, all_of, all_in, kinds, is_kind, solid_of, goes_more, goes_inner}

-- no word goes on with a part and begins what follows it, in the rules that are asked for
abbrev pub strict : {L : Type 0} → (L → Bool) → (L → Kind → Bool) → Form L → Bool
strict asked after (Terminal p) = true
strict asked after Epsilon = true
strict asked after (Seq f g) = (strict asked after f && strict asked after g) && all_of kinds (λ k. not (more after f k && first_set g k))
strict asked after (Alt f g) = strict asked after f && strict asked after g
strict asked after (Repeat f g) = (strict asked after f && strict asked after g) && all_of kinds (λ k. not ((more after f k || more after g k) && first_set g k))
strict asked after (Nested p n) = asked n

pub apart : (p m s : Kind → Bool) (xs : List Word) → ((k : Kind) → p k ≡ true → m k ≡ true) → ((k : Kind) → (m k && s k) ≡ false) → ((w : Word) (ys : List Word) → xs ≡ w ∷ ys → s (kind_of w) ≡ true) → begins p xs ≡ false
apart p m s [] up off front = refl
apart p m s (w ∷ ws) up off front = low (p (kind_of w)) (m (kind_of w)) (s (kind_of w)) (up (kind_of w)) (off (kind_of w)) (front w ws refl)
  where
    low : (a b c : Bool) → (a ≡ true → b ≡ true) → (b && c) ≡ false → c ≡ true → a ≡ false
    low false b c up off front = refl
    low true b c up off front = let yes = up refl in let both : (true && true) ≡ false = rw (yes, front) at off in absurd cc

pub front_starts : {L : Type 0} (f : Form L) (xs : List Word) → Front f xs → (w : Word) (ys : List Word) → xs ≡ w ∷ ys → first_set f (kind_of w) ≡ true
front_starts f xs h w ys e = rw e at h

module _ {L : Type 0} (rule : L → Form L) (model : L → ParseTree) (after : L → Kind → Bool) (checked : Checked rule model after) (asked : L → Bool) (rules : (n : L) → asked n ≡ true → strict asked after (rule n) ≡ true) where
  pub spelled_fits : (t : ParseTree) (f : Form L) → check model after f ≡ true → strict asked after f ≡ true → Derives rule t f → DerivesLongest rule t f
  spelled_fits (Leaf w) (Terminal p) ok one h = h
  spelled_fits NoWords Epsilon ok one h = tt
  spelled_fits (Pair a b) (Seq f g) ok one h =
      let c = and_true _ _ (and_true _ _ ok).0 in
      let s = and_true _ _ one in
      let parts = and_true _ _ s.0 in
      let left = spelled_fits a f c.0 parts.0 h.0 in
      let right = spelled_fits b g c.1 parts.1 h.1 in (
        left,
        right,
        apart (can_continue rule a f) (more after f) (first_set g) (yield b)
            (λ k. goes_more rule model after checked a f k (solid_of rule model after f c.0) left)
            (λ k. not_true _ (all_in (λ j. not (more after f j && first_set g j)) k kinds (is_kind k) s.1))
            (front_starts g (yield b) (fits_front rule b g (solid_of rule model after g c.1) right)),
      )
  spelled_fits (Left a) (Alt f g) ok one h = spelled_fits a f (and_true _ _ (and_true _ _ ok).0).0 (and_true _ _ one).0 h
  spelled_fits (Right b) (Alt f g) ok one h = spelled_fits b g (and_true _ _ (and_true _ _ ok).0).1 (and_true _ _ one).1 h
  spelled_fits (Single a) (Repeat f g) ok one h = spelled_fits a f (and_true _ _ (and_true _ _ ok).0).0 (and_true _ _ (and_true _ _ one).0).0 h
  spelled_fits (Snoc t b) (Repeat f g) ok one h =
      let c = and_true _ _ (and_true _ _ ok).0 in
      let s = and_true _ _ one in
      let parts = and_true _ _ s.0 in
      let left = spelled_fits t (Repeat f g) ok one h.0 in
      let right = spelled_fits b g c.1 parts.1 h.1 in (
        left,
        right,
        apart (can_continue_in rule t (Repeat f g)) (λ k. more after f k || more after g k) (first_set g) (yield b)
            (λ k. goes_inner rule model after checked t f g k (solid_of rule model after (Repeat f g) ok) left)
            (λ k. not_true _ (all_in (λ j. not ((more after f j || more after g j) && first_set g j)) k kinds (is_kind k) s.1))
            (front_starts g (yield b) (fits_front rule b g (solid_of rule model after g c.1) right)),
      )
  spelled_fits (Deeper w t) (Nested p n) ok one h = (h.0, spelled_fits t (rule n) (checked.checks n) (rules n one) h.1)
  spelled_fits _ _ ok one h = absurd h
