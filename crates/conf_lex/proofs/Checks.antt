-- A test of a grammar, under which reading it is exact.
use Rattle.std.proofs.Common.{◌≡◌, ℕ, zero, suc, Bool, true, false, cond, ◌&&◌, ◌||◌, List, [], ◌∷◌, Option, Some, None, refl, sym, subst, ◌⊎◌, inl, inr}
use Rattle.bits_ip.specs.declared.address.Addr.TheVariants.{V4}
use denote.Enum.Declared.{tag_of}
use Rattle.conf_lex.specs.Attributes.{attribute_spellings}
use Rattle.conf_ast.specs.contracts.attribute.Attribute as attribute_type
use Rattle.conf_lex.specs.contracts.symbol.Symbol as symbol_type
use Rattle.conf_ast.specs.declared.attribute.Attribute.{Attribute}
use Rattle.conf_ast.specs.declared.attribute.Attribute.TheVariants as attributes
use Rattle.conf_ast.specs.declared.attribute.Constant.TheVariants as constants
use Rattle.conf_lex.specs.declared.symbol.Symbol.{Symbol}
use Rattle.conf_lex.specs.declared.symbol.Symbol.TheVariants as symbols
use Rattle.conf_lex.specs.Symbols.{spellings}
use Rattle.conf_lex.specs.Symbols.{is_placed}
use Rattle.conf_lex.specs.Kind.{Kind, IsNumber, IsName, IsText, IsAddress, IsPrefix, IsNoPrefix, IsAttribute, IsConstant, IsSymbol, IsStray, kind_of}
use Rattle.conf_lex.specs.declared.word.Word.TheVariants as words
use Rattle.conf_lex.specs.declared.word.Word.{Word}
use Rattle.conf_lex.specs.Grammar.{Form, Terminal, Epsilon, Seq, Alt, Repeat, Nested, ParseTree, Leaf, NoWords, Pair, Left, Right, Single, Snoc, Deeper, yield, begins, nullable, first_set, is_blank, can_continue, can_continue_in, DerivesLongest}
use Rattle.conf_lex.specs.Reading.{Reader, nest, no_nest, reading, read}
use Rattle.conf_lex.proofs.Good.{Front, Solid, fits_front, Sample, Apart, Model, Good, good_word, good_blank, good_both, good_either, good_nest, good_no_nest}
pub use Rattle.conf_lex.proofs.Good.{or_left, or_right}
use Rattle.conf_lex.proofs.Chains.{Next, good_chain}

-- ---- kinds

-- the kinds of spelled symbols, and of the one that has no spelling
abbrev symbol_kinds : List (List ℕ × Symbol) → List Kind
symbol_kinds [] = IsSymbol symbols.ElseColon ∷ []
symbol_kinds (entry ∷ entries) = IsSymbol entry.1 ∷ symbol_kinds entries

abbrev attribute_kinds : List (List ℕ × Attribute) → List Kind → List Kind
attribute_kinds [] rest = rest
attribute_kinds (entry ∷ entries) rest = IsAttribute entry.1 ∷ attribute_kinds entries rest

-- those of symbols and attributes
abbrev spelled_kinds : List Kind
spelled_kinds = attribute_kinds attribute_spellings (symbol_kinds spellings)

abbrev pub kinds : List Kind
kinds = IsNumber ∷ IsName ∷ IsText ∷ IsAddress ∷ IsPrefix ∷ IsNoPrefix ∷ IsStray ∷ IsConstant ∷ spelled_kinds

abbrev pub all_of : List Kind → (Kind → Bool) → Bool
all_of [] p = true
all_of (k ∷ ks) p = p k && all_of ks p

pub data In (k : Kind) : List Kind → Type 0 where
  here : {ks : List Kind} → In k (k ∷ ks)
  later : {j : Kind} {ks : List Kind} → In k ks → In k (j ∷ ks)

pub and_true : (a b : Bool) → (a && b) ≡ true → (a ≡ true) × (b ≡ true)
and_true true b e = (refl, e)
and_true false b e = absurd cc

pub all_in : (p : Kind → Bool) (k : Kind) (ks : List Kind) → In k ks → all_of ks p ≡ true → p k ≡ true
all_in p k [] i e = elim i [ ]
all_in p k (j ∷ ks) here e = (and_true (p k) (all_of ks p) e).0
all_in p k (j ∷ ks) (later i) e = all_in p k ks i (and_true (p j) (all_of ks p) e).1

-- what stands in a place of a list
abbrev pub in_place : ℕ → List Kind → Option Kind
in_place n [] = None
in_place zero (k ∷ ks) = Some k
in_place (suc n) (k ∷ ks) = in_place n ks

pub stands_in : (n : ℕ) (ks : List Kind) (k : Kind) → in_place n ks ≡ Some k → In k ks
stands_in n [] k e = absurd cc
stands_in zero (j ∷ ks) k e = let same : j ≡ k = cc in subst (λ (i : Kind). In k (i ∷ ks)) (sym same) here
stands_in (suc n) (j ∷ ks) k e = later (stands_in n ks k e)

-- the spellings stand in the order of the enum's variants
symbol_place : (s : Symbol) → in_place (tag_of symbol_type.the_type s) (symbol_kinds spellings) ≡ Some (IsSymbol s)
symbol_place symbols.Router = refl
symbol_place _ = refl

attribute_place : (a : Attribute) → in_place (tag_of attribute_type.the_type a) spelled_kinds ≡ Some (IsAttribute a)
attribute_place attributes.Net = refl
attribute_place _ = refl

behind_attributes : (k : Kind) (es : List (List ℕ × Attribute)) (ks : List Kind) → In k ks → In k (attribute_kinds es ks)
behind_attributes k [] ks i = i
behind_attributes k (e ∷ es) ks i = later (behind_attributes k es ks i)

behind_others : (k : Kind) → In k spelled_kinds → In k kinds
behind_others k i = later (later (later (later (later (later (later (later i)))))))

pub is_kind : (k : Kind) → In k kinds
is_kind IsNumber = stands_in 0 kinds IsNumber refl
is_kind IsName = stands_in 1 kinds IsName refl
is_kind IsText = stands_in 2 kinds IsText refl
is_kind IsAddress = stands_in 3 kinds IsAddress refl
is_kind IsPrefix = stands_in 4 kinds IsPrefix refl
is_kind IsNoPrefix = stands_in 5 kinds IsNoPrefix refl
is_kind IsStray = stands_in 6 kinds IsStray refl
is_kind IsConstant = stands_in 7 kinds IsConstant refl
is_kind (IsAttribute a) = behind_others _ (stands_in (tag_of attribute_type.the_type a) spelled_kinds (IsAttribute a) (attribute_place a))
is_kind (IsSymbol s) = behind_others _ (behind_attributes (IsSymbol s) attribute_spellings (symbol_kinds spellings) (stands_in (tag_of symbol_type.the_type s) (symbol_kinds spellings) (IsSymbol s) (symbol_place s)))

-- the first kind that passes
abbrev pub pick : (Kind → Bool) → List Kind → Kind
pick p [] = IsNumber
pick p (k ∷ ks) = cond (p k) k (pick p ks)

-- a word of a kind
abbrev pub word_of : Kind → Word
word_of IsNumber = words.Number 0 0
word_of IsName = words.Name 0 0 0
word_of IsText = words.Text 0 0 0
word_of IsAddress = words.Ip 0 (V4 0)
word_of IsPrefix = words.Prefix 0 (record { addr = V4 0; len = 0 })
word_of IsNoPrefix = words.BadPrefix 0
word_of (IsAttribute a) = words.Attribute 0 a
word_of IsConstant = words.Constant 0 constants.RtsStatic
word_of (IsSymbol s) = cond (is_placed s) (words.Placed 0 s) (words.Symbol s)
word_of IsStray = words.Symbol symbols.True

abbrev pub sample : (Kind → Bool) → Word
sample p = word_of (pick p kinds)

abbrev pub not : Bool → Bool
not true = false
not false = true

pub not_true : (b : Bool) → not b ≡ true → b ≡ false
not_true true e = absurd cc
not_true false e = refl

-- ---- what may go on with some tree of a form

abbrev pub more : {L : Type 0} → (L → Kind → Bool) → Form L → Kind → Bool
more after (Terminal p) k = false
more after Epsilon k = false
more after (Seq f g) k = more after g k || (nullable g && more after f k)
more after (Alt f g) k = (more after f k || more after g k) || (nullable g && first_set f k)
more after (Repeat f g) k = (more after f k || more after g k) || first_set g k
more after (Nested p n) k = after n k

-- a tree of each form
abbrev pub example : {L : Type 0} → (L → ParseTree) → Form L → ParseTree
example model (Terminal p) = Leaf (sample p)
example model Epsilon = NoWords
example model (Seq f g) = Pair (example model f) (example model g)
example model (Alt f g) = Right (example model g)
example model (Repeat f g) = Single (example model f)
example model (Nested p n) = Deeper (sample p) (model n)

-- each choice is made by the next word, turns are not empty, and an example may follow any tree
abbrev pub check : {L : Type 0} → (L → ParseTree) → (L → Kind → Bool) → Form L → Bool
check model after (Terminal p) = p (kind_of (sample p))
check model after Epsilon = true
check model after (Seq f g) = (check model after f && check model after g) && not (begins (more after f) (yield (example model g)))
check model after (Alt f g) = (check model after f && check model after g) && (not (nullable f) && all_of kinds (λ k. not (first_set f k && first_set g k)))
check model after (Repeat f g) = (check model after f && check model after g) && (not (nullable g) && not (begins (λ k. more after f k || more after g k) (yield (example model g))))
check model after (Nested p n) = p (kind_of (sample p))

-- a grammar that passes the test, with its examples
pub record Checked {L : Type 0} (rule : L → Form L) (model : L → ParseTree) (after : L → Kind → Bool) : Type 0 where
  pub fits : (n : L) → DerivesLongest rule (model n) (rule n)
  pub checks : (n : L) → check model after (rule n) ≡ true
  pub table : (n : L) (k : Kind) → more after (rule n) k ≡ true → after n k ≡ true

pub or_cases : (a b : Bool) → (a || b) ≡ true → (a ≡ true) ⊎ (b ≡ true)
or_cases true b e = inl refl
or_cases false b e = inr e

pub and_both : (a b : Bool) → a ≡ true → b ≡ true → (a && b) ≡ true
and_both true b e h = h
and_both false b e h = absurd cc

pub blank_nullable : {L : Type 0} (f : Form L) (xs : List Word) → Front f xs → is_blank xs ≡ true → nullable f ≡ true
blank_nullable f [] h e = h
blank_nullable f (x ∷ xs) h e = absurd cc

module _ {L : Type 0} (rule : L → Form L) (model : L → ParseTree) (after : L → Kind → Bool) where
  pub solid_of : (f : Form L) → check model after f ≡ true → Solid f
  solid_of (Terminal p) e = tt
  solid_of Epsilon e = tt
  solid_of (Seq f g) e = let h = and_true _ _ e in let both = and_true _ _ h.0 in (solid_of f both.0, solid_of g both.1)
  solid_of (Alt f g) e = let h = and_true _ _ e in let both = and_true _ _ h.0 in (solid_of f both.0, solid_of g both.1)
  solid_of (Repeat f g) e = let h = and_true _ _ e in let both = and_true _ _ h.0 in (solid_of f both.0, solid_of g both.1, not_true _ (and_true _ _ h.1).0)
  solid_of (Nested p n) e = tt

  module _ (checked : Checked rule model after) where
    pub goes_more : (t : ParseTree) (f : Form L) (k : Kind) → Solid f → DerivesLongest rule t f → can_continue rule t f k ≡ true → more after f k ≡ true
    goes_more (Pair a b) (Seq f g) k solid fits e = elim (or_cases (can_continue rule b g k) (is_blank (yield b) && can_continue rule a f k) e) [
      | inl h ↦ or_left _ _ (goes_more b g k solid.1 fits.1 h)
      | inr h ↦
          let both = and_true (is_blank (yield b)) (can_continue rule a f k) h in
          or_right _ _ (and_both _ _ (blank_nullable g (yield b) (fits_front rule b g solid.1 fits.1) both.0) (goes_more a f k solid.0 fits.0 both.1))
    ]
    goes_more (Left a) (Alt f g) k solid fits e = or_left _ _ (or_left _ _ (goes_more a f k solid.0 fits e))
    goes_more (Right b) (Alt f g) k solid fits e = elim (or_cases (can_continue rule b g k) (is_blank (yield b) && first_set f k) e) [
      | inl h ↦ or_left _ _ (or_right _ _ (goes_more b g k solid.1 fits h))
      | inr h ↦
          let both = and_true (is_blank (yield b)) (first_set f k) h in
          or_right _ _ (and_both _ _ (blank_nullable g (yield b) (fits_front rule b g solid.1 fits) both.0) both.1)
    ]
    goes_more (Single a) (Repeat f g) k solid fits e = elim (or_cases (can_continue rule a f k) (first_set g k) e) [
      | inl h ↦ or_left _ _ (or_left _ _ (goes_more a f k solid.0 fits h))
      | inr h ↦ or_right _ _ h
    ]
    goes_more (Snoc t b) (Repeat f g) k solid fits e = elim (or_cases (can_continue rule b g k) (first_set g k) e) [
      | inl h ↦ or_left _ _ (or_right _ _ (goes_more b g k solid.1 fits.1 h))
      | inr h ↦ or_right _ _ h
    ]
    goes_more (Deeper w t) (Nested p n) k solid fits e = checked.table n k (goes_more t (rule n) k (solid_of (rule n) (checked.checks n)) fits.1 e)
    goes_more (Leaf w) (Terminal p) k solid fits e = absurd cc
    goes_more NoWords Epsilon k solid fits e = absurd cc
    goes_more _ _ k solid fits e = absurd fits

    pub goes_inner : (t : ParseTree) (f g : Form L) (k : Kind) → Solid (Repeat f g) → DerivesLongest rule t (Repeat f g) → can_continue_in rule t (Repeat f g) k ≡ true → (more after f k || more after g k) ≡ true
    goes_inner (Single a) f g k solid fits e = or_left _ _ (goes_more a f k solid.0 fits e)
    goes_inner (Snoc t b) f g k solid fits e = or_right _ _ (goes_more b g k solid.1 fits.1 e)
    goes_inner _ f g k solid fits e = absurd fits

    -- where no kind that may go on begins, none that goes on does
    apart_by : (p q : Kind → Bool) (ws : List Word) → ((k : Kind) → p k ≡ true → q k ≡ true) → begins q ws ≡ false → begins p ws ≡ false
    apart_by p q [] h e = refl
    apart_by p q (w ∷ ws) h e = low (p (kind_of w)) (q (kind_of w)) (h (kind_of w)) e
      where
        low : (a b : Bool) → (a ≡ true → b ≡ true) → b ≡ false → a ≡ false
        low true b h e = let t = h refl in absurd cc
        low false b h e = refl

    pub example_fits : (f : Form L) → check model after f ≡ true → DerivesLongest rule (example model f) f
    example_fits (Terminal p) e = e
    example_fits Epsilon e = tt
    example_fits (Seq f g) e =
        let h = and_true _ _ e in
        let both = and_true _ _ h.0 in
        let a = example_fits f both.0 in
        (a, example_fits g both.1, apart_by (can_continue rule (example model f) f) (more after f) (yield (example model g)) (λ k. goes_more (example model f) f k (solid_of f both.0) a) (not_true _ h.1))
    example_fits (Alt f g) e = let h = and_true _ _ e in let both = and_true _ _ h.0 in example_fits g both.1
    example_fits (Repeat f g) e = let h = and_true _ _ e in let both = and_true _ _ h.0 in example_fits f both.0
    example_fits (Nested p n) e = (e, checked.fits n)

    pub sample_of : (f g : Form L) → check model after (Seq f g) ≡ true → Sample rule f g
    sample_of f g e =
        let h = and_true _ _ e in
        let both = and_true _ _ h.0 in
        record {
          tree = example model g;
          fits = example_fits g both.1;
          apart = λ a fits. apart_by (can_continue rule a f) (more after f) (yield (example model g)) (λ k. goes_more a f k (solid_of f both.0) fits) (not_true _ h.1);
        }

    apart_of : (f g : Form L) → check model after (Alt f g) ≡ true → Apart f g
    apart_of f g e =
        let h = and_true _ _ e in
        let choice = and_true _ _ h.1 in
        record {
          solid = solid_of (Alt f g) e;
          full = not_true _ choice.0;
          apart = λ k. not_true _ (all_in (λ j. not (first_set f j && first_set g j)) k kinds (is_kind k) choice.1);
        }

    pub next_of : (f g : Form L) → check model after (Repeat f g) ≡ true → Next rule f g
    next_of f g e =
        let h = and_true _ _ e in
        let both = and_true _ _ h.0 in
        let turns = and_true _ _ h.1 in
        let solid = solid_of (Repeat f g) e in
        record {
          solid = solid;
          tree = example model g;
          fits = example_fits g both.1;
          apart = λ t fits. apart_by (can_continue_in rule t (Repeat f g)) (λ k. more after f k || more after g k) (yield (example model g)) (λ k. goes_inner t f g k solid fits) (not_true _ turns.1);
        }

    model_of : (p : Kind → Bool) (n : L) → check model after (Nested p n) ≡ true → Model rule p n
    model_of p n e = record { word = sample p; passes = e; tree = model n; fits = checked.fits n }

    good_form : (k : ℕ) (inside : (Kind → Bool) → L → Reader) → ((p : Kind → Bool) (n : L) → Model rule p n → Good rule k (Nested p n) (inside p n)) → (f : Form L) → check model after f ≡ true → Good rule k f (reading inside f)
    good_form k inside deeper (Terminal p) e = good_word rule k p (sample p) e
    good_form k inside deeper Epsilon e = good_blank rule k
    good_form k inside deeper (Seq f g) e =
        let h = and_true _ _ e in
        let both = and_true _ _ h.0 in
        good_both rule k f g (reading inside f) (reading inside g) (sample_of f g e) (good_form k inside deeper f both.0) (good_form k inside deeper g both.1)
    good_form k inside deeper (Alt f g) e =
        let h = and_true _ _ e in
        let both = and_true _ _ h.0 in
        good_either rule k f g (reading inside f) (reading inside g) (apart_of f g e) (good_form k inside deeper f both.0) (good_form k inside deeper g both.1)
    good_form k inside deeper (Repeat f g) e =
        let h = and_true _ _ e in
        let both = and_true _ _ h.0 in
        good_chain rule k f g (reading inside f) (reading inside g) (next_of f g e) (good_form k inside deeper f both.0) (good_form k inside deeper g both.1)
    good_form k inside deeper (Nested p n) e = deeper p n (model_of p n e)

    -- reading is exact
    pub good : (k : ℕ) (f : Form L) → check model after f ≡ true → Good rule k f (read rule k f)
    good zero f e = good_form zero (λ p n. no_nest p) (λ p n m. good_no_nest rule p n m) f e
    good (suc k) f e = good_form (suc k) (λ p n. nest p (read rule k (rule n))) (λ p n m. good_nest rule k p n (read rule k (rule n)) m (good k (rule n) (checked.checks n))) f e
