-- Grammars whose next word decides: forms (`Form`, over a type of levels), the trees of a form
-- (`ParseTree`), and what stands at the front of some words (`Derives`, and `DerivesLongest`, where
-- no part stops while the next word could go on with it).
-- Not modelled: which forms BIRD's languages have (filt_syntax, conf_tree), and grammars that want
-- more than one word.
-- From: own.
-- Example: of the form `{ NAME }` the words `a b 1` have a tree at their front, of two names.
use Rattle.std.specs.Prelude.{◌≡◌, ℕ, Bool, true, false, ◌&&◌, ◌||◌, List, [], ◌∷◌, ◌++◌, Option}
use Rattle.std.specs.Prelude.{Some, None}
use Rattle.std.proofs.Common.{zero, suc}
use Rattle.conf_lex.specs.Kind.{Kind, kind_of}
use Rattle.conf_lex.specs.declared.word.Word.{Word}

-- Why words are refused at a place.
pub data Why : Type 0 where
  Bad : Why
  TooDeep : Why

-- A form of words, in a grammar whose levels are L: one word of some kinds, nothing, one form after
-- another, a choice, a form and any number of another, or a word that opens a level and what the
-- rule of this level gives inside.
pub data Form (L : Type 0) : Type 0 where
  Terminal : (Kind → Bool) → Form L
  Epsilon : Form L
  Seq : Form L → Form L → Form L
  Alt : Form L → Form L → Form L
  Repeat : Form L → Form L → Form L
  Nested : (Kind → Bool) → L → Form L

pub data ParseTree : Type 0 where
  Leaf : Word → ParseTree
  NoWords : ParseTree
  Pair : ParseTree → ParseTree → ParseTree
  Left : ParseTree → ParseTree
  Right : ParseTree → ParseTree
  Single : ParseTree → ParseTree
  Snoc : ParseTree → ParseTree → ParseTree
  Deeper : Word → ParseTree → ParseTree

-- the words of a tree
abbrev pub yield : ParseTree → List Word
yield (Leaf w) = w ∷ []
yield NoWords = []
yield (Pair a b) = yield a ++ yield b
yield (Left a) = yield a
yield (Right b) = yield b
yield (Single a) = yield a
yield (Snoc t b) = yield t ++ yield b
yield (Deeper w t) = w ∷ yield t

-- whether the next word is of these kinds
abbrev pub begins : (Kind → Bool) → List Word → Bool
begins p [] = false
begins p (w ∷ ws) = p (kind_of w)

abbrev pub nullable : {L : Type 0} → Form L → Bool
nullable (Terminal p) = false
nullable Epsilon = true
nullable (Seq a b) = nullable a && nullable b
nullable (Alt a b) = nullable a || nullable b
nullable (Repeat a b) = nullable a
nullable (Nested p n) = false

-- the kinds that a form can begin with
abbrev pub first_set : {L : Type 0} → Form L → Kind → Bool
first_set (Terminal p) k = p k
first_set Epsilon k = false
first_set (Seq a b) k = first_set a k || (nullable a && first_set b k)
first_set (Alt a b) k = first_set a k || first_set b k
first_set (Repeat a b) k = first_set a k || (nullable a && first_set b k)
first_set (Nested p n) k = p k

abbrev pub is_blank : List Word → Bool
is_blank [] = true
is_blank (w ∷ ws) = false

-- one list, with more behind it, or else another
abbrev pub or_later : Option (List Word) → List Word → Option (List Word) → Option (List Word)
or_later None more later = later
or_later (Some ws) more later = Some (ws ++ more)

-- the words of a tree from the first on that opens a level, when no more than k may be open
abbrev pub too_deep : ParseTree → ℕ → Option (List Word)
too_deep (Leaf w) k = None
too_deep NoWords k = None
too_deep (Pair a b) k = or_later (too_deep a k) (yield b) (too_deep b k)
too_deep (Left a) k = too_deep a k
too_deep (Right b) k = too_deep b k
too_deep (Single a) k = too_deep a k
too_deep (Snoc t b) k = or_later (too_deep t k) (yield b) (too_deep b k)
too_deep (Deeper w t) zero = Some (w ∷ yield t)
too_deep (Deeper w t) (suc k) = too_deep t k

module _ {L : Type 0} (rule : L → Form L) where
  -- whether a word of kind k could go on with the tree
  abbrev pub can_continue : ParseTree → Form L → Kind → Bool
  can_continue (Pair a b) (Seq f g) k =
      can_continue b g k || (is_blank (yield b) && can_continue a f k)
  can_continue (Left a) (Alt f g) k = can_continue a f k
  can_continue (Right b) (Alt f g) k = can_continue b g k || (is_blank (yield b) && first_set f k)
  can_continue (Single a) (Repeat f g) k = can_continue a f k || first_set g k
  can_continue (Snoc t b) (Repeat f g) k = can_continue b g k || first_set g k
  can_continue (Deeper w t) (Nested p n) k = can_continue t (rule n) k
  can_continue _ _ k = false

  -- whether it could go on with the last part of a chain
  abbrev pub can_continue_in : ParseTree → Form L → Kind → Bool
  can_continue_in (Single a) (Repeat f g) k = can_continue a f k
  can_continue_in (Snoc t b) (Repeat f g) k = can_continue b g k
  can_continue_in _ _ k = false

  -- The tree is one of the form, and no part of it stops where the next word could go on with it.
  abbrev pub DerivesLongest : ParseTree → Form L → Type 0
  DerivesLongest (Leaf w) (Terminal p) = p (kind_of w) ≡ true
  DerivesLongest NoWords Epsilon = Unit {0}
  DerivesLongest (Pair a b) (Seq f g) =
      DerivesLongest a f × DerivesLongest b g × (begins (can_continue a f) (yield b) ≡ false)
  DerivesLongest (Left a) (Alt f g) = DerivesLongest a f
  DerivesLongest (Right b) (Alt f g) = DerivesLongest b g
  DerivesLongest (Single a) (Repeat f g) = DerivesLongest a f
  DerivesLongest (Snoc t b) (Repeat f g) =
      DerivesLongest t (Repeat f g) × DerivesLongest b g
      × (begins (can_continue_in t (Repeat f g)) (yield b) ≡ false)
  DerivesLongest (Deeper w t) (Nested p n) = (p (kind_of w) ≡ true) × DerivesLongest t (rule n)
  DerivesLongest _ _ = ⊥

  -- The tree is one of the form, by the grammar alone.
  abbrev pub Derives : ParseTree → Form L → Type 0
  Derives (Leaf w) (Terminal p) = p (kind_of w) ≡ true
  Derives NoWords Epsilon = Unit {0}
  Derives (Pair a b) (Seq f g) = Derives a f × Derives b g
  Derives (Left a) (Alt f g) = Derives a f
  Derives (Right b) (Alt f g) = Derives b g
  Derives (Single a) (Repeat f g) = Derives a f
  Derives (Snoc t b) (Repeat f g) = Derives t (Repeat f g) × Derives b g
  Derives (Deeper w t) (Nested p n) = (p (kind_of w) ≡ true) × Derives t (rule n)
  Derives _ _ = ⊥
