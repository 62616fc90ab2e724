-- What a tree that fits a form is made of, with bounds of its parts.
use Rattle.std.proofs.Common.{◌≡◌, ℕ, suc, ◌+◌, ◌≤◌, ◌<◌, ◌^◌, Bool, true, false, length, refl, sym, ap, ◌∙◌, arith, ◌⊎◌, inl, inr}
use Rattle.std.proofs.lemmas.List.{length-append}
use Rattle.conf_lex.specs.declared.symbol.Symbol.{Symbol}
use Rattle.conf_lex.specs.declared.symbol.Symbol.TheVariants as symbols
use Rattle.conf_lex.specs.declared.word.Word.{Word}
use Rattle.conf_lex.specs.declared.word.Word.TheVariants as words
use Rattle.conf_ast.specs.declared.named.Name.{Name}
use Rattle.conf_lex.specs.Symbols.{is_placed}
use Rattle.conf_lex.specs.Kind.{Kind, kind_of, symbol, name}
use Rattle.conf_lex.specs.Grammar.{Form, Terminal, Epsilon, Seq, Alt, Nested, ParseTree, Leaf, NoWords, Pair, Left, Right, Single, Snoc, Deeper, yield, nullable, DerivesLongest}
use Rattle.conf_lex.proofs.Good.{Solid, fits_front}
use Rattle.conf_lex.proofs.Chains.{full_words}
use Rattle.conf_lex.proofs.Symbols.{same_symbol, not_placed, other_word, is_symbol_word}

-- ---- bounds

-- how many parts a tree has
abbrev pub size : ParseTree → ℕ
size (Leaf w) = 1
size NoWords = 1
size (Pair a b) = 1 + size a + size b
size (Left a) = 1 + size a
size (Right b) = 1 + size b
size (Single a) = 1 + size a
size (Snoc t b) = 1 + size t + size b
size (Deeper w t) = 1 + size t

-- so many parts at most, and no more words than a list can hold
pub record Small (n : ℕ) (t : ParseTree) : Type 0 where
  pub parts : size t ≤ n
  pub short : length (yield t) < 2 ^ 63

pub more_room : (n : ℕ) (t : ParseTree) → Small n t → Small (suc n) t
more_room n t s = record { parts = omega (arith, s.parts); short = s.short }

pub some_size : (t : ParseTree) → 1 ≤ size t
some_size (Leaf w) = omega arith
some_size NoWords = omega arith
some_size (Pair a b) = omega arith
some_size (Left a) = omega arith
some_size (Right b) = omega arith
some_size (Single a) = omega arith
some_size (Snoc t b) = omega arith
some_size (Deeper w t) = omega arith

left_small : (n : ℕ) (a b : ParseTree) → Small (suc n) (Pair a b) → Small n a
left_small n a b s = record { parts = omega (arith, s.parts); short = omega (arith, s.short, length-append (yield a) (yield b)) }

right_small : (n : ℕ) (a b : ParseTree) → Small (suc n) (Pair a b) → Small n b
right_small n a b s = record { parts = omega (arith, s.parts); short = omega (arith, s.short, length-append (yield a) (yield b)) }

pub chain_small : (n : ℕ) (t b : ParseTree) → Small (suc n) (Snoc t b) → Small n t
chain_small n t b s = record { parts = omega (arith, s.parts); short = omega (arith, s.short, length-append (yield t) (yield b)) }

pub part_small : (n : ℕ) (t b : ParseTree) → Small (suc n) (Snoc t b) → Small n b
part_small n t b s = record { parts = omega (arith, s.parts); short = omega (arith, s.short, length-append (yield t) (yield b)) }

pub start_small : (n : ℕ) (a : ParseTree) → Small (suc n) (Single a) → Small n a
start_small n a s = record { parts = omega (arith, s.parts); short = s.short }

-- ---- words

pub record IsWord (p : Kind → Bool) (t : ParseTree) : Type 0 where
  pub word : Word
  pub is : t ≡ Leaf word
  pub passes : p (kind_of word) ≡ true

pub placed_word : (w : Word) (wanted : Symbol) → is_placed wanted ≡ true → symbol wanted (kind_of w) ≡ true → (at : ℕ) × (w ≡ words.Placed at wanted)
placed_word (words.Placed at s) wanted placed e = (at, ap (λ (r : Symbol). words.Placed at r) (sym (same_symbol wanted s (not_placed at s wanted (is_placed s) refl placed ∙ e))))
placed_word (words.Symbol s) wanted placed e = absurd (let off = other_word (words.Symbol s) wanted placed (λ at r is. cc) in cc)
placed_word _ wanted placed e = absurd cc

pub name_word : (w : Word) → name (kind_of w) ≡ true → (n : Name) × (w ≡ words.Name n.at n.start n.len)
name_word (words.Name at start len) e = (record { at = at; start = start; len = len }, refl)
name_word (words.Symbol symbols.Router) e = absurd cc
name_word (words.Placed at symbols.Router) e = absurd cc
name_word _ e = absurd cc

-- ---- forms

-- one part under a sign of the tree
pub record IsPart {L : Type 0} (rule : L → Form L) (n : ℕ) (wrap : ParseTree → ParseTree) (f : Form L) (t : ParseTree) : Type 0 where
  pub part : ParseTree
  pub is : t ≡ wrap part
  pub small : Small n part
  pub fits : DerivesLongest rule part f

pub record IsBoth {L : Type 0} (rule : L → Form L) (n : ℕ) (f g : Form L) (t : ParseTree) : Type 0 where
  pub left : ParseTree
  pub right : ParseTree
  pub is : t ≡ Pair left right
  pub left_small : Small n left
  pub right_small : Small n right
  pub left_fits : DerivesLongest rule left f
  pub right_fits : DerivesLongest rule right g

pub record IsInside {L : Type 0} (rule : L → Form L) (n : ℕ) (p : Kind → Bool) (level : L) (t : ParseTree) : Type 0 where
  pub word : Word
  pub part : ParseTree
  pub is : t ≡ Deeper word part
  pub passes : p (kind_of word) ≡ true
  pub small : Small n part
  pub fits : DerivesLongest rule part (rule level)

module _ {L : Type 0} (rule : L → Form L) where
  pub one_is : (t : ParseTree) (p : Kind → Bool) → DerivesLongest rule t (Terminal p) → IsWord p t
  one_is (Leaf w) p h = record { word = w; is = refl; passes = h }
  one_is _ p h = absurd h

  pub empty_is : (t : ParseTree) → DerivesLongest rule t Epsilon → t ≡ NoWords
  empty_is NoWords h = refl
  empty_is _ h = absurd h

  pub seq_is : (n : ℕ) (t : ParseTree) (f g : Form L) → Small (suc n) t → DerivesLongest rule t (Seq f g) → IsBoth rule n f g t
  seq_is n (Pair a b) f g s h = record { left = a; right = b; is = refl; left_small = left_small n a b s; right_small = right_small n a b s; left_fits = h.0; right_fits = h.1 }
  seq_is n _ f g s h = absurd h

  pub either_is : (n : ℕ) (t : ParseTree) (f g : Form L) → Small (suc n) t → DerivesLongest rule t (Alt f g) → IsPart rule n Left f t ⊎ IsPart rule n Right g t
  either_is n (Left a) f g s h = inl (record { part = a; is = refl; small = record { parts = omega (arith, s.parts); short = s.short }; fits = h })
  either_is n (Right b) f g s h = inr (record { part = b; is = refl; small = record { parts = omega (arith, s.parts); short = s.short }; fits = h })
  either_is n _ f g s h = absurd h

  pub nest_is : (n : ℕ) (t : ParseTree) (p : Kind → Bool) (level : L) → Small (suc n) t → DerivesLongest rule t (Nested p level) → IsInside rule n p level t
  nest_is n (Deeper w t) p level s h = record { word = w; part = t; is = refl; passes = h.0; small = record { parts = omega (arith, s.parts); short = omega (arith, s.short) }; fits = h.1 }
  nest_is n _ p level s h = absurd h

  -- one symbol, which carries no place
  pub symbol_is : (t : ParseTree) (s : Symbol) → is_placed s ≡ false → DerivesLongest rule t (Terminal (symbol s)) → t ≡ Leaf (words.Symbol s)
  symbol_is t s plain h = let w = one_is t (symbol s) h in w.is ∙ ap (λ (v : Word). Leaf v) (is_symbol_word w.word s plain w.passes)

  -- one symbol with its place
  pub placed_is : (t : ParseTree) (s : Symbol) → is_placed s ≡ true → DerivesLongest rule t (Terminal (symbol s)) → (at : ℕ) × (t ≡ Leaf (words.Placed at s))
  placed_is t s placed h = let w = one_is t (symbol s) h in let v = placed_word w.word s placed w.passes in (v.0, w.is ∙ ap (λ (u : Word). Leaf u) v.1)

  pub name_is : (t : ParseTree) → DerivesLongest rule t (Terminal name) → (n : Name) × (t ≡ Leaf (words.Name n.at n.start n.len))
  name_is t h = let w = one_is t name h in let v = name_word w.word w.passes in (v.0, w.is ∙ ap (λ (u : Word). Leaf u) v.1)

  -- what may be left out
  pub optional_is : (n : ℕ) (t : ParseTree) (f : Form L) → Small (suc n) t → DerivesLongest rule t (Alt f Epsilon) → IsPart rule n Left f t ⊎ (t ≡ Right NoWords)
  optional_is n t f s h = elim (either_is n t f Epsilon s h) [
    | inl a ↦ inl a
    | inr b ↦ inr (b.is ∙ ap (λ (u : ParseTree). Right u) (empty_is b.part b.fits))
  ]

  -- a tree of a form that isn't empty has words
  pub some_words : (t : ParseTree) (f : Form L) → Solid f → nullable f ≡ false → DerivesLongest rule t f → 1 ≤ length (yield t)
  some_words t f solid full h = full_words f (yield t) full (fits_front rule t f solid h)
