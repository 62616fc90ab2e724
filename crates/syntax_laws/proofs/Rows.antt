-- The lists that the trees of chains are of.
use Rattle.std.proofs.Common.{◌≡◌, ℕ, suc, ◌≤◌, false, List, [], ◌∷◌, ◌++◌, length, refl, sym, ap, ◌∙◌, arith}
use Rattle.std.proofs.lemmas.List.{length-append}
use Rattle.conf_lex.specs.declared.symbol.Symbol.TheVariants as symbols
use Rattle.conf_lex.specs.declared.word.Word.{Word}
use Rattle.conf_lex.specs.declared.word.Word.TheVariants as words
use Rattle.conf_lex.specs.Kind.{symbol}
use Rattle.conf_lex.specs.Grammar.{Form, Terminal, Epsilon, Seq, Repeat, ParseTree, Leaf, NoWords, Pair, Single, Snoc, Deeper, yield, nullable, DerivesLongest}
use Rattle.conf_lex.proofs.Good.{Solid}
use Rattle.syntax_laws.proofs.Parts.{Small, more_room, chain_small, part_small, start_small, empty_is, seq_is, symbol_is, some_words}

-- ---- trees of equal parts

pub both_of : (a b c d : ParseTree) → a ≡ c → b ≡ d → Pair a b ≡ Pair c d
both_of a b c d p q = ap (λ (u : ParseTree). Pair u b) p ∙ ap (λ (u : ParseTree). Pair c u) q

pub more_of : (a b c d : ParseTree) → a ≡ c → b ≡ d → Snoc a b ≡ Snoc c d
more_of a b c d p q = ap (λ (u : ParseTree). Snoc u b) p ∙ ap (λ (u : ParseTree). Snoc c u) q

pub inside_of : (v w : Word) (a b : ParseTree) → v ≡ w → a ≡ b → Deeper v a ≡ Deeper w b
inside_of v w a b p q = ap (λ (u : Word). Deeper u a) p ∙ ap (λ (u : ParseTree). Deeper w u) q

-- a value that is seen as the tree
abbrev pub Seen : {X : Type 0} → (X → ParseTree) → ParseTree → Type 0
Seen {X = X} view t = (x : X) × (view x ≡ t)

-- values that are, no more than the tree has words
pub record Row {X : Type 0} (row : List X → ParseTree) (t : ParseTree) : Type 0 where
  pub items : List X
  pub seen : row items ≡ t
  pub few : length items ≤ length (yield t)

-- and at least one
pub record Some {X : Type 0} (row : List X → ParseTree) (t : ParseTree) : Type 0 where
  pub items : List X
  pub seen : row items ≡ t
  pub few : length items ≤ length (yield t)
  pub some : 1 ≤ length items

module _ {L : Type 0} (rule : L → Form L) (n : ℕ) {X : Type 0} (f : Form L) (solid : Solid f) (full : nullable f ≡ false) (view : X → ParseTree) (told : (b : ParseTree) → Small n b → DerivesLongest rule b f → Seen view b) (row : List X → ParseTree) where
  -- any number
  module _ (none : row [] ≡ Single NoWords) (more : (xs : List X) (x : X) → row (xs ++ x ∷ []) ≡ Snoc (row xs) (view x)) where
    pub many_told : (t : ParseTree) → Small (suc n) t → DerivesLongest rule t (Repeat Epsilon f) → Row row t
    many_told (Single a) s h = record { items = []; seen = none ∙ ap (λ (u : ParseTree). Single u) (sym (empty_is rule a h)); few = omega arith }
    many_told (Snoc t b) s h =
        let r = many_told t (more_room n t (chain_small n t b s)) h.0 in
        let x = told b (part_small n t b s) h.1 in
        record {
          items = r.items ++ x.0 ∷ [];
          seen = more r.items x.0 ∙ more_of (row r.items) (view x.0) t b r.seen x.1;
          few = omega (arith, r.few, length-append r.items (x.0 ∷ []), length-append (yield t) (yield b), some_words rule b f solid full h.1);
        }
    many_told _ s h = absurd h

  -- one or more, between commas
  module _ (one : (x : X) → row (x ∷ []) ≡ Single (view x)) (more : (xs : List X) (x : X) → 1 ≤ length xs → row (xs ++ x ∷ []) ≡ Snoc (row xs) (Pair (Leaf (words.Symbol symbols.Comma)) (view x))) where
    pub listed_told : (t : ParseTree) → Small (suc n) t → DerivesLongest rule t (Repeat f (Seq (Terminal (symbol symbols.Comma)) f)) → Some row t
    listed_told (Single a) s h =
        let x = told a (start_small n a s) h in
        record { items = x.0 ∷ []; seen = one x.0 ∙ ap (λ (u : ParseTree). Single u) x.1; few = omega (arith, some_words rule a f solid full h); some = omega arith }
    listed_told (Snoc t b) s h =
        let r = listed_told t (more_room n t (chain_small n t b s)) h.0 in
        let p = seq_is rule n b (Terminal (symbol symbols.Comma)) f (more_room n b (part_small n t b s)) h.1 in
        let comma = symbol_is rule p.left symbols.Comma refl p.left_fits in
        let x = told p.right p.right_small p.right_fits in
        let behind : Pair (Leaf (words.Symbol symbols.Comma)) (view x.0) ≡ b = both_of (Leaf (words.Symbol symbols.Comma)) (view x.0) p.left p.right (sym comma) x.1 ∙ sym p.is in
        record {
          items = r.items ++ x.0 ∷ [];
          seen = more r.items x.0 r.some ∙ more_of (row r.items) (Pair (Leaf (words.Symbol symbols.Comma)) (view x.0)) t b r.seen behind;
          few = omega (arith, r.few, length-append r.items (x.0 ∷ []), length-append (yield t) (yield b), ap (λ (u : ParseTree). length (yield u)) p.is, ap (λ (u : ParseTree). length (yield u)) comma, length-append (yield p.left) (yield p.right));
          some = omega (arith, length-append r.items (x.0 ∷ []));
        }
    listed_told _ s h = absurd h
