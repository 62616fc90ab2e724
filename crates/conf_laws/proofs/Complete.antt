-- What begins a configuration is completed by words of the pieces.
use Rattle.std.proofs.Common.{◌≡◌, ◌<◌, Bool, true, false, cond, ◌&&◌, ◌||◌, List, [], ◌∷◌, ◌++◌, length, map, refl, sym, ap, ◌∙◌, arith, append_assoc, append-nil, inl, inr}
use Rattle.std.proofs.lemmas.Bool.{cases_Bool}
use Rattle.conf_lex.specs.declared.word.Word.{Word}
use Rattle.conf_lex.specs.Kind.{Kind, kind_of}
use Rattle.conf_lex.specs.Grammar.{Terminal, Epsilon, Seq, Alt, Repeat, Nested, ParseTree, Leaf, NoWords, Pair, Left, Right, Single, Snoc, Deeper, yield, DerivesLongest, Derives}
use Rattle.conf_lex.proofs.Checks.{and_true}
use Rattle.conf_lex.proofs.Unique.{fronts}
use Rattle.expr_syntax.specs.Syntax.{rule}
use Rattle.expr_syntax.specs.Levels.{Level, Form, group_level}
use Rattle.conf_syntax.specs.Syntax.{config}
use Rattle.conf_laws.proofs.Pieces.{Good, pieces, quoted_piece}

-- ---- a tree of each form

abbrev pick_from : (Kind → Bool) → List Good → Good
pick_from p [] = (_, quoted_piece)
pick_from p (g ∷ gs) = cond (p (kind_of g.0.0)) g (pick_from p gs)

abbrev pick : (Kind → Bool) → Good
pick p = pick_from p pieces

abbrev picks : (Kind → Bool) → Bool
picks p = p (kind_of (pick p).0.0)

-- whether pieces can be a sentence of the form, where they can inside these levels
abbrev can : Bool → Form → Bool
can deep (Terminal p) = picks p
can deep Epsilon = true
can deep (Seq f g) = can deep f && can deep g
can deep (Alt f g) = can deep f || can deep g
can deep (Repeat f g) = can deep f
can deep (Nested p n) = deep && picks p

abbrev pub words_of : List Good → List Word
words_of gs = map (λ g. g.0.0) gs

pub words_both : (gs hs : List Good) → words_of (gs ++ hs) ≡ words_of gs ++ words_of hs
words_both [] hs = refl
words_both (g ∷ gs) hs = ap (λ (l : List Word). g.0.0 ∷ l) (words_both gs hs)

record Filled (f : Form) : Type 0 where
  tree : ParseTree
  good : List Good
  spells : Derives rule tree f
  reads : yield tree ≡ words_of good

fill : (deep : Bool) → (deep ≡ true → (n : Level) → Filled (rule n)) → (f : Form) → can deep f ≡ true → Filled f
fill deep inside (Terminal p) ok = record { tree = Leaf (pick p).0.0; good = pick p ∷ []; spells = ok; reads = refl }
fill deep inside Epsilon ok = record { tree = NoWords; good = []; spells = tt; reads = refl }
fill deep inside (Seq f g) ok =
    let c = and_true (can deep f) (can deep g) ok in
    let x = fill deep inside f c.0 in
    let y = fill deep inside g c.1 in
    record { tree = Pair x.tree y.tree; good = x.good ++ y.good; spells = (x.spells, y.spells); reads = rw (x.reads, y.reads) (sym (words_both x.good y.good)) }
fill deep inside (Alt f g) ok = elim (cases_Bool (can deep g)) [
  | inl is ↦ (let y = fill deep inside g is in record { tree = Right y.tree; good = y.good; spells = y.spells; reads = y.reads })
  | inr none ↦ (let x = fill deep inside f (left (can deep f) (can deep g) ok none) in record { tree = Left x.tree; good = x.good; spells = x.spells; reads = x.reads })
]
  where
    left : (a b : Bool) → (a || b) ≡ true → b ≡ false → a ≡ true
    left true b e h = refl
    left false b e h = absurd (let never = sym e ∙ h in cc)
fill deep inside (Repeat f g) ok =
    let x = fill deep inside f ok in
    record { tree = Single x.tree; good = x.good; spells = x.spells; reads = x.reads }
fill deep inside (Nested p n) ok =
    let c = and_true deep (picks p) ok in
    let x = inside c.0 n in
    record { tree = Deeper (pick p).0.0 x.tree; good = pick p ∷ x.good; spells = (c.1, x.spells); reads = ap (λ (l : List Word). (pick p).0.0 ∷ l) x.reads }

levels_can : (n : Level) → can false (rule n) ≡ true
levels_can group_level = refl
levels_can _ = refl

filled_level : (n : Level) → Filled (rule n)
filled_level n = fill false (λ e. absurd (let never : false ≡ true = e in cc)) (rule n) (levels_can n)

filled : (f : Form) → can true f ≡ true → Filled f
filled f ok = fill true (λ e. filled_level) f ok

-- ---- what is begun, completed

-- each part of the form that may be left is a form of the pieces
abbrev fillable : Form → Bool
fillable (Terminal p) = true
fillable Epsilon = true
fillable (Seq f g) = (fillable f && fillable g) && can true g
fillable (Alt f g) = fillable f && fillable g
fillable (Repeat f g) = fillable f && fillable g
fillable (Nested p n) = true

levels_fillable : (n : Level) → fillable (rule n) ≡ true
levels_fillable group_level = refl
levels_fillable _ = refl

pub record Completed (f : Form) (before : List Word) : Type 0 where
  pub tree : ParseTree
  pub good : List Good
  pub spells : Derives rule tree f
  pub reads : yield tree ≡ before ++ words_of good

seq_left : (a : ParseTree) (f g : Form) (before : List Word) → can true g ≡ true → Completed f before → Completed (Seq f g) before
seq_left a f g before ok x =
    let y = filled g ok in
    record {
      tree = Pair x.tree y.tree;
      good = x.good ++ y.good;
      spells = (x.spells, y.spells);
      reads = rw (x.reads, y.reads) (append_assoc before (words_of x.good) (words_of y.good)) ∙ ap (λ (l : List Word). before ++ l) (sym (words_both x.good y.good));
    }

seq_right : (a : ParseTree) (f g : Form) (before rest : List Word) → Derives rule a f → before ≡ yield a ++ rest → Completed g rest → Completed (Seq f g) before
seq_right a f g before rest h cut y = record {
  tree = Pair a y.tree;
  good = y.good;
  spells = (h, y.spells);
  reads = ap (λ (l : List Word). yield a ++ l) y.reads ∙ sym (append_assoc (yield a) rest (words_of y.good)) ∙ ap (λ (l : List Word). l ++ words_of y.good) (sym cut);
}

chain_right : (t : ParseTree) (f g : Form) (before rest : List Word) → Derives rule t (Repeat f g) → before ≡ yield t ++ rest → Completed g rest → Completed (Repeat f g) before
chain_right t f g before rest h cut y = record {
  tree = Snoc t y.tree;
  good = y.good;
  spells = (h, y.spells);
  reads = ap (λ (l : List Word). yield t ++ l) y.reads ∙ sym (append_assoc (yield t) rest (words_of y.good)) ∙ ap (λ (l : List Word). l ++ words_of y.good) (sym cut);
}

none_left : (before more : List Word) → 0 < length before → [] ≡ before ++ more → ⊥
none_left [] more some e = omega (arith, some)
none_left (w ∷ before) more some e = cc

one_left : (w : Word) (before more : List Word) → 0 < length before → w ∷ [] ≡ before ++ more → w ∷ [] ≡ before
one_left w [] more some e = absurd (omega (arith, some))
one_left w (v ∷ []) more some e = let head : w ≡ v = cc in ap (λ (u : Word). u ∷ []) head
one_left w (v ∷ u ∷ before) more some e = absurd (let tail : [] ≡ u ∷ (before ++ more) = cc in cc)

complete : (t : ParseTree) (f : Form) → fillable f ≡ true → Derives rule t f → (before more : List Word) → 0 < length before → yield t ≡ before ++ more → Completed f before
complete (Leaf w) (Terminal p) ok h before more some e =
    record { tree = Leaf w; good = []; spells = h; reads = one_left w before more some e ∙ sym (append-nil before) }
complete NoWords Epsilon ok h before more some e = absurd (none_left before more some e)
complete (Pair a b) (Seq f g) ok h before more some e =
    let c = and_true (fillable f && fillable g) (can true g) ok in
    let parts = and_true (fillable f) (fillable g) c.0 in
    elim (fronts (yield a) (yield b) before more e) [
      | inl same ↦ seq_left a f g before c.1 (complete a f parts.0 h.0 before [] some (same.0 ∙ sym (append-nil before)))
      | inr x ↦ elim x [
        | inl l ↦ seq_left a f g before c.1 (complete a f parts.0 h.0 before (l.word ∷ l.more) some l.front)
        | inr l ↦ seq_right a f g before (l.word ∷ l.more) h.0 l.front (complete b g parts.1 h.1 (l.word ∷ l.more) more (omega arith) l.rest)
      ]
    ]
complete (Left a) (Alt f g) ok h before more some e =
    let x = complete a f (and_true (fillable f) (fillable g) ok).0 h before more some e in
    record { tree = Left x.tree; good = x.good; spells = x.spells; reads = x.reads }
complete (Right b) (Alt f g) ok h before more some e =
    let x = complete b g (and_true (fillable f) (fillable g) ok).1 h before more some e in
    record { tree = Right x.tree; good = x.good; spells = x.spells; reads = x.reads }
complete (Single a) (Repeat f g) ok h before more some e =
    let x = complete a f (and_true (fillable f) (fillable g) ok).0 h before more some e in
    record { tree = Single x.tree; good = x.good; spells = x.spells; reads = x.reads }
complete (Snoc t b) (Repeat f g) ok h before more some e =
    let parts = and_true (fillable f) (fillable g) ok in
    elim (fronts (yield t) (yield b) before more e) [
      | inl same ↦ complete t (Repeat f g) ok h.0 before [] some (same.0 ∙ sym (append-nil before))
      | inr x ↦ elim x [
        | inl l ↦ complete t (Repeat f g) ok h.0 before (l.word ∷ l.more) some l.front
        | inr l ↦ chain_right t f g before (l.word ∷ l.more) h.0 l.front (complete b g parts.1 h.1 (l.word ∷ l.more) more (omega arith) l.rest)
      ]
    ]
complete (Deeper w t) (Nested p n) ok h [] more some e = absurd (omega (arith, some))
complete (Deeper w t) (Nested p n) ok h (v ∷ []) more some e =
    let head : w ≡ v = cc in
    let x = filled_level n in
    record { tree = Deeper w x.tree; good = x.good; spells = (h.0, x.spells); reads = ap (λ (u : Word). u ∷ yield x.tree) head ∙ ap (λ (l : List Word). v ∷ l) x.reads }
complete (Deeper w t) (Nested p n) ok h (v ∷ u ∷ before) more some e =
    let head : w ≡ v = cc in
    let tail : yield t ≡ u ∷ (before ++ more) = cc in
    let x = complete t (rule n) (levels_fillable n) h.1 (u ∷ before) more (omega arith) tail in
    record { tree = Deeper w x.tree; good = x.good; spells = (h.0, x.spells); reads = ap (λ (k : Word). k ∷ yield x.tree) head ∙ ap (λ (l : List Word). v ∷ l) x.reads }
complete _ _ ok h before more some e = absurd h

pub fits_spells : (t : ParseTree) (f : Form) → DerivesLongest rule t f → Derives rule t f
fits_spells (Leaf w) (Terminal p) h = h
fits_spells NoWords Epsilon h = tt
fits_spells (Pair a b) (Seq f g) h = (fits_spells a f h.0, fits_spells b g h.1)
fits_spells (Left a) (Alt f g) h = fits_spells a f h
fits_spells (Right b) (Alt f g) h = fits_spells b g h
fits_spells (Single a) (Repeat f g) h = fits_spells a f h
fits_spells (Snoc t b) (Repeat f g) h = (fits_spells t (Repeat f g) h.0, fits_spells b g h.1)
fits_spells (Deeper w t) (Nested p n) h = (h.0, fits_spells t (rule n) h.1)
fits_spells _ _ h = absurd h

config_fillable : fillable config ≡ true
config_fillable = refl

-- what begins a configuration is completed
pub completed : (t : ParseTree) (before more : List Word) → Derives rule t config → yield t ≡ before ++ more → Completed config before
completed t [] more h e = record { tree = Single NoWords; good = []; spells = tt; reads = refl }
completed t (w ∷ before) more h e = complete t config config_fillable h (w ∷ before) more (omega arith) e
