-- The last word of a tree's words.
use Rattle.std.proofs.Common.{◌≡◌, Bool, true, false, ◌||◌, ◌&&◌, not, List, [], ◌∷◌, ◌++◌, length, refl, sym, ap, subst, ◌∙◌, append-nil, arith, ◌⊎◌, inl, inr}
use Rattle.std.proofs.lemmas.List.{length-append}
use Rattle.conf_lex.specs.declared.word.Word.{Word}
use Rattle.conf_lex.specs.Kind.{Kind, kind_of}
use Rattle.conf_lex.specs.Grammar.{Terminal, Epsilon, Seq, Alt, Repeat, Nested, ParseTree, Leaf, NoWords, Pair, Left, Right, Single, Snoc, Deeper, yield, nullable, DerivesLongest}
use Rattle.conf_lex.proofs.Good.{Front, Solid, fits_front}
use Rattle.conf_lex.proofs.Checks.{or_left, or_right, and_both}
use Rattle.conf_lex.proofs.Unique.{fronts}
use Rattle.expr_syntax.specs.Syntax.{rule}
use Rattle.expr_syntax.specs.Levels.{Form}

-- ---- truths

pub implied : (a b : Bool) → (not a || b) ≡ true → a ≡ true → b ≡ true
implied true b e h = e
implied false b e h = absurd cc

pub not_is : (b : Bool) → not b ≡ true → b ≡ false
not_is true e = absurd cc
not_is false e = refl

pub stops_low : (a b : Bool) → (a ≡ true → b ≡ true) → b ≡ false → a ≡ false
stops_low true b h e = let yes = h refl in absurd cc
stops_low false b h e = refl

pub not_both : (b : Bool) → b ≡ true → b ≡ false → ⊥
not_both b is other = let both : true ≡ false = sym is ∙ other in cc

-- ---- the last of several words

first_of : Word → List Word → Word
first_of d [] = d
first_of d (w ∷ ws) = w

behind_first : List Word → List Word
behind_first [] = []
behind_first (w ∷ ws) = ws

pub last_same : (a b : List Word) (v w : Word) → a ++ v ∷ [] ≡ b ++ w ∷ [] → v ≡ w
unfolding first_of behind_first
last_same [] [] v w e = ap (first_of v) e
last_same [] (y ∷ b) v w e = absurd (omega (arith, ap (λ (l : List Word). length l) e, length-append b (w ∷ [])))
last_same (x ∷ a) [] v w e = absurd (omega (arith, ap (λ (l : List Word). length l) e, length-append a (v ∷ [])))
last_same (x ∷ a) (y ∷ b) v w e = last_same a b v w (ap behind_first e)

-- ---- the last of a tree's words

-- the kinds of the last words of a form's trees
abbrev pub ends : Form → Kind → Bool
ends (Terminal p) k = p k
ends Epsilon k = false
ends (Seq f g) k = ends g k || (nullable g && ends f k)
ends (Alt f g) k = ends f k || ends g k
ends (Repeat f g) k = ends f k || ends g k
ends (Nested p n) k = true

-- the last of the words of two lists is the last of the second, or else of the first
pub record InSecond (a b g : List Word) (w : Word) : Type 0 where
  pub before : List Word
  pub cut : b ≡ before ++ w ∷ []
  pub whole : g ≡ a ++ before

single_word : (w v : Word) (u r : List Word) → w ∷ [] ≡ v ∷ (u ++ r) → r ≡ []
single_word w v [] [] e = refl
single_word w v [] (x ∷ r) e = absurd cc
single_word w v (x ∷ u) r e = absurd cc

pub in_second : (a b g : List Word) (w : Word) → a ++ b ≡ g ++ w ∷ [] → InSecond a b g w ⊎ ((b ≡ []) × (a ≡ g ++ w ∷ []))
in_second a b g w e = elim (fronts a b g (w ∷ []) e) [
  | inl h ↦ inl (record { before = []; cut = h.1; whole = sym h.0 ∙ sym (append-nil a) })
  | inr x ↦ elim x [
    | inl l ↦ let none = single_word w l.word l.more b l.rest in inr (none, sym (append-nil a) ∙ ap (λ (u : List Word). a ++ u) (sym none) ∙ e)
    | inr l ↦ inl (record { before = l.word ∷ l.more; cut = l.rest; whole = l.front })
  ]
]

no_words_end : (g : List Word) (w : Word) → [] ≡ g ++ w ∷ [] → ⊥
no_words_end g w e = omega (arith, ap (λ (u : List Word). length u) e, length-append g (w ∷ []))

nullable_by : (f : Form) (t : ParseTree) → Solid f → DerivesLongest rule t f → yield t ≡ [] → nullable f ≡ true
nullable_by f t solid fits none = subst (λ (u : List Word). Front f u) none (fits_front rule t f solid fits)

pub ends_so : (t : ParseTree) (f : Form) → Solid f → DerivesLongest rule t f → (g : List Word) (w : Word) → yield t ≡ g ++ w ∷ [] → ends f (kind_of w) ≡ true
ends_so (Leaf v) (Terminal p) solid fits g w e = ap (λ (u : Word). p (kind_of u)) (sym (last_same [] g v w e)) ∙ fits
ends_so NoWords Epsilon solid fits g w e = absurd (no_words_end g w e)
ends_so (Pair a b) (Seq f h) solid fits g w e = elim (in_second (yield a) (yield b) g w e) [
  | inl second ↦ or_left _ _ (ends_so b h solid.1 fits.1 second.before w second.cut)
  | inr first ↦ or_right _ _ (and_both _ _ (nullable_by h b solid.1 fits.1 first.0) (ends_so a f solid.0 fits.0 g w first.1))
]
ends_so (Left a) (Alt f h) solid fits g w e = or_left _ _ (ends_so a f solid.0 fits g w e)
ends_so (Right b) (Alt f h) solid fits g w e = or_right _ _ (ends_so b h solid.1 fits g w e)
ends_so (Single a) (Repeat f h) solid fits g w e = or_left _ _ (ends_so a f solid.0 fits g w e)
ends_so (Snoc t b) (Repeat f h) solid fits g w e = elim (in_second (yield t) (yield b) g w e) [
  | inl second ↦ or_right _ _ (ends_so b h solid.1 fits.1 second.before w second.cut)
  | inr first ↦ ends_so t (Repeat f h) solid fits.0 g w first.1
]
ends_so (Deeper v t) (Nested p n) solid fits g w e = refl
ends_so _ _ solid fits g w e = absurd fits
