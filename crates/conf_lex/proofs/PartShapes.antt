-- Reading the shapes that the parts of grammars have, one step of a parser after another.
use Rattle.std.proofs.Common.{◌≡◌, ℕ, zero, suc, ◌+◌, ◌-◌, ◌≤◌, Bool, true, false, cond, ◌||◌, List, [], ◌∷◌, refl, sym, ap, subst, ◌∙◌, arith, Option, ◌++◌, length, Result}
use Rattle.std.proofs.lemmas.List.{length-append}
use Rattle.std.specs.Borrow.{Bor}
use Rattle.conf_lex.specs.declared.symbol.Symbol.{Symbol}
use Rattle.conf_lex.specs.declared.word.Word.{Word}
use Rattle.conf_lex.specs.declared.word.Word.TheVariants as words
use Rattle.conf_lex.specs.Symbols.{is_placed}
use Rattle.conf_lex.specs.Kind.{Kind, kind_of, symbol}
use Rattle.conf_lex.specs.Grammar.{Why, Bad, TooDeep, Form, Terminal, Epsilon, Seq, Alt, Repeat, ParseTree, Leaf, NoWords, Pair, Left, Right, Single, Snoc, Deeper, begins, first_set, nullable, yield, too_deep}
use Rattle.conf_lex.specs.Reading.{Read, Parsed, Failed, Reader, and_then, word, blank, both, either, read}
use Rattle.conf_lex.specs.PartShapes.{links, with_optional, closed}
use Rattle.conf_lex.specs.Leaves.{between}
use Rattle.conf_lex.specs.Agrees.{AgreesOnError, Agrees}
use Rattle.conf_lex.specs.declared.refusal.Refusal.{Refusal}
use Rattle.conf_lex.specs.declared.refusal.Refusal.TheVariants as refusals
use Rattle.conf_lex.proofs.Checks.{Checked, check, good, solid_of, next_of}
use Rattle.conf_lex.proofs.Chains.{turn}
use Rattle.conf_lex.proofs.Symbols.{symbol_same}
use Rattle.conf_lex.proofs.Good.{Front, Place, fits_front, front_begins}
pub use Rattle.conf_lex.proofs.Exact.{bool_cases}

-- ---- a step that fails

pub fails_then : (e : Refusal) (x : Read) (f : ParseTree → List Word → Read) → AgreesOnError e x → AgreesOnError e (and_then x f)
fails_then refusals.Memory x f h = tt
fails_then (refusals.Bad at) x f h = rw h refl
fails_then (refusals.TooDeep at) x f h = rw h refl

pub fails_along : (e : Refusal) (x y : Read) → x ≡ y → AgreesOnError e y → AgreesOnError e x
fails_along e x y same h = subst (λ (r : Read). AgreesOnError e r) (sym same) h

pub gives_along : {X : Type 0} (view : X → ParseTree) (r : Result (X × Bor (List Word)) Refusal) (x y : Read) → x ≡ y → Agrees view r y → Agrees view r x
gives_along {X = X} view r x y same h = subst (λ (z : Read). Agrees {X = X} view r z) (sym same) h

pub then_then : (x : Read) (f g : ParseTree → List Word → Read) → and_then (and_then x f) g ≡ and_then x (λ a u. and_then (f a u) g)
then_then (Parsed a u) f g = refl
then_then (Failed why u) f g = refl

-- ---- the next word

pub next_word : (ws rest : List Word) (w v : Word) → ws ≡ w ∷ rest → w ≡ v → ws ≡ v ∷ rest
next_word ws rest w v is same = is ∙ ap (λ (x : Word). x ∷ rest) same

pub word_bad : (p : Kind → Bool) (ws : List Word) → begins p ws ≡ false → word p ws ≡ Failed Bad ws
word_bad p [] none = refl
word_bad p (w ∷ ws) none = rw none refl

pub word_got : (p : Kind → Bool) (ws : List Word) (w : Word) (u : List Word) → ws ≡ w ∷ u → p (kind_of w) ≡ true → word p ws ≡ Parsed (Leaf w) u
word_got p ws w u is passes = rw (is, passes) refl

pub less_one : (b k : ℕ) → b + 1 ≡ k → k - 1 ≡ b
less_one b k e = omega arith

-- ---- links

abbrev pub Turns : (Kind → Bool) → Reader → Type 0
Turns p r = (t : ParseTree) (ws : List Word) → links p r t ws ≡ cond (begins (λ k. p k || false) ws) (and_then (both (word p) r ws) (λ b u. links p r (Snoc t b) u)) (Parsed t ws)

or_none : (b : Bool) → (b || false) ≡ b
or_none true = refl
or_none false = refl

pub begins_none : (p : Kind → Bool) (ws : List Word) → begins (λ k. p k || false) ws ≡ begins p ws
begins_none p [] = refl
begins_none p (w ∷ ws) = or_none (p (kind_of w))

pub links_end : (p : Kind → Bool) (r : Reader) → Turns p r → (t : ParseTree) (ws : List Word) → begins p ws ≡ false → links p r t ws ≡ Parsed t ws
links_end p r turns t ws none = turns t ws ∙ rw (begins_none p ws, none) refl

pub links_more : (p : Kind → Bool) (r : Reader) → Turns p r → (t : ParseTree) (ws : List Word) (w : Word) (u : List Word) (b : ParseTree) (v : List Word) → ws ≡ w ∷ u → p (kind_of w) ≡ true → r u ≡ Parsed b v → links p r t ws ≡ links p r (Snoc t (Pair (Leaf w) b)) v
links_more p r turns t ws w u b v is passes got = rw is (turns t (w ∷ u) ∙ rw (passes, got) refl)

pub links_fail : (p : Kind → Bool) (r : Reader) → Turns p r → (t : ParseTree) (ws : List Word) (w : Word) (u : List Word) (e : Refusal) → ws ≡ w ∷ u → p (kind_of w) ≡ true → AgreesOnError e (r u) → AgreesOnError e (links p r t ws)
links_fail p r turns t ws w u e is passes failed =
    fails_along e (links p r t ws) (and_then (and_then (r u) (λ b v. Parsed (Pair (Leaf w) b) v)) (λ b v. links p r (Snoc t b) v)) (rw is (turns t (w ∷ u) ∙ rw passes refl))
    (fails_then e (and_then (r u) (λ b v. Parsed (Pair (Leaf w) b) v)) (λ b v. links p r (Snoc t b) v) (fails_then e (r u) (λ b v. Parsed (Pair (Leaf w) b) v) failed))

-- ---- a part, and perhaps another

pub optional_alone : (p : Kind → Bool) (r s : Reader) (ws : List Word) (a : ParseTree) (rest : List Word) → r ws ≡ Parsed a rest → begins p rest ≡ false → with_optional p r s ws ≡ Parsed (Pair a (Right NoWords)) rest
unfolding with_optional
optional_alone p r s ws a rest got none = rw (got, begins_none p rest, none) refl

pub optional_pair : (p : Kind → Bool) (r s : Reader) (ws : List Word) (a : ParseTree) (rest : List Word) (w : Word) (u : List Word) (b : ParseTree) (v : List Word) → r ws ≡ Parsed a rest → rest ≡ w ∷ u → p (kind_of w) ≡ true → s u ≡ Parsed b v → with_optional p r s ws ≡ Parsed (Pair a (Left (Pair (Leaf w) b))) v
unfolding with_optional
optional_pair p r s ws a rest w u b v got is passes second = rw (got, is, passes, second) refl

pub optional_first_fails : (p : Kind → Bool) (r s : Reader) (ws : List Word) (e : Refusal) → AgreesOnError e (r ws) → AgreesOnError e (with_optional p r s ws)
unfolding with_optional
optional_first_fails p r s ws e failed = fails_then e (r ws) (λ a rest. and_then (either (λ k. p k || false) (both (word p) s) blank rest) (λ b end. Parsed (Pair a b) end)) failed

pub optional_second_fails : (p : Kind → Bool) (r s : Reader) (ws : List Word) (a : ParseTree) (rest : List Word) (w : Word) (u : List Word) (e : Refusal) → r ws ≡ Parsed a rest → rest ≡ w ∷ u → p (kind_of w) ≡ true → AgreesOnError e (s u) → AgreesOnError e (with_optional p r s ws)
unfolding with_optional
optional_second_fails p r s ws a rest w u e got is passes failed =
    fails_along e (both r (either (λ k. p k || false) (both (word p) s) blank) ws) (and_then (and_then (and_then (s u) (λ b v. Parsed (Pair (Leaf w) b) v)) (λ b v. Parsed (Left b) v)) (λ b v. Parsed (Pair a b) v))
    (rw (got, is, passes) refl)
    (fails_then e _ (λ b v. Parsed (Pair a b) v) (fails_then e _ (λ b v. Parsed (Left b) v) (fails_then e (s u) (λ b v. Parsed (Pair (Leaf w) b) v) failed)))

-- ---- between two words

pub closed_is : (first : Word) (last : Symbol) (r : Reader) (u : List Word) → and_then (and_then (r u) (λ a v. Parsed (Deeper first a) v)) (λ t v. and_then (word (symbol last) v) (λ c w. Parsed (Pair t c) w)) ≡ closed first r last u
unfolding closed
closed_is first last r u = then_then (r u) (λ a v. Parsed (Deeper first a) v) (λ t v. and_then (word (symbol last) v) (λ c w. Parsed (Pair t c) w))

pub closed_got : (first : Word) (last : Symbol) → is_placed last ≡ false → (r : Reader) (ws : List Word) (t : ParseTree) (rest end : List Word) → r ws ≡ Parsed t rest → rest ≡ words.Symbol last ∷ end → closed first r last ws ≡ Parsed (between first t last) end
unfolding closed
closed_got first last plain r ws t rest end got is = rw (got, word_got (symbol last) rest (words.Symbol last) end is (symbol_same last plain)) refl

pub closed_inside_fails : (first : Word) (last : Symbol) (r : Reader) (ws : List Word) (e : Refusal) → AgreesOnError e (r ws) → AgreesOnError e (closed first r last ws)
unfolding closed
closed_inside_fails first last r ws e failed = fails_then e (r ws) (λ t rest. and_then (word (symbol last) rest) (λ c end. Parsed (Pair (Deeper first t) c) end)) failed

pub closed_end_fails : (first : Word) (last : Symbol) (r : Reader) (ws : List Word) (t : ParseTree) (rest : List Word) (e : Refusal) → r ws ≡ Parsed t rest → AgreesOnError e (word (symbol last) rest) → AgreesOnError e (closed first r last ws)
unfolding closed
closed_end_fails first last r ws t rest e got failed =
    fails_along e (closed first r last ws) (and_then (word (symbol last) rest) (λ c end. Parsed (Pair (Deeper first t) c) end)) (rw got refl) (fails_then e (word (symbol last) rest) (λ c end. Parsed (Pair (Deeper first t) c) end) failed)

-- ---- what a form that is not empty begins with

head_starts : {L : Type 0} (f : Form L) (xs : List Word) (x : Word) (ys zs : List Word) → Front f xs → xs ≡ x ∷ ys → begins (first_set f) (x ∷ zs) ≡ true
head_starts f xs x ys zs h e = rw e at h

no_start : {L : Type 0} (f : Form L) (ws : List Word) (why : Why) (before rest : List Word) (xs more : List Word) (d : Option (List Word)) → begins (first_set f) ws ≡ false → Front f xs → ws ≡ before ++ rest → xs ≡ before ++ more → Place why rest more d → Failed why rest ≡ Failed Bad ws
no_start f ws Bad [] rest xs more d none h front tree place = ap (λ (u : List Word). Failed Bad u) (sym front)
no_start f ws TooDeep [] rest xs more d none h front tree place =
    let yes : begins (first_set f) (place.0 ∷ place.1) ≡ true = head_starts f xs place.0 place.2 place.1 h (tree ∙ place.4) in
    let no : begins (first_set f) (place.0 ∷ place.1) ≡ false = rw (front, place.3) at none in
    absurd cc
no_start f ws why (x ∷ p) rest xs more d none h front tree place =
    let yes : begins (first_set f) (x ∷ (p ++ rest)) ≡ true = head_starts f xs x (p ++ more) (p ++ rest) h tree in
    let no : begins (first_set f) (x ∷ (p ++ rest)) ≡ false = rw front at none in
    absurd cc

module _ {L : Type 0} (rule : L → Form L) (model : L → ParseTree) (after : L → Kind → Bool) (tested : Checked rule model after) where
  -- what is read begins with a word that starts the form
  pub begun : (k : ℕ) (f : Form L) → check model after f ≡ true → nullable f ≡ false → (ws : List Word) (t : ParseTree) (rest : List Word) → read rule k f ws ≡ Parsed t rest → begins (first_set f) ws ≡ true
  begun k f ok full ws t rest got =
      let taken = (good rule model after tested k f ok).got ws t rest got in
      rw taken.front (front_begins f (yield t) rest full (fits_front rule t f (solid_of rule model after f ok) taken.fits))

  -- what begins with no such word is refused at once
  pub refuses : (k : ℕ) (f : Form L) → check model after f ≡ true → nullable f ≡ false → (ws : List Word) → begins (first_set f) ws ≡ false → read rule k f ws ≡ Failed Bad ws
  refuses k f ok full ws none = at_once (read rule k f ws) refl
    where
      at_once : (x : Read) → read rule k f ws ≡ x → x ≡ Failed Bad ws
      at_once (Parsed t rest) e = let here = begun k f ok full ws t rest e in absurd cc
      at_once (Failed why rest) e =
          let r = (good rule model after tested k f ok).fault ws why rest e in
          no_start f ws why r.before rest (yield r.begun.tree) r.begun.more (too_deep r.begun.tree k) none (fits_front rule r.begun.tree f (solid_of rule model after f ok) r.begun.fits) r.front r.begun.front r.begun.place

  -- what is read is no longer than what there is
  pub shorter : (k : ℕ) (f : Form L) → check model after f ≡ true → (ws : List Word) (t : ParseTree) (rest : List Word) → read rule k f ws ≡ Parsed t rest → length rest ≤ length ws
  shorter k f ok ws t rest got =
      let taken = (good rule model after tested k f ok).got ws t rest got in
      rw taken.front (omega (arith, length-append (yield t) rest))

  -- a form that goes on by parts, each behind a word of these kinds
  pub chain_read : (k : ℕ) (p : Kind → Bool) (f g : Form L) (ws : List Word) → read rule k (Repeat f (Seq (Terminal p) g)) ws ≡ and_then (read rule k f ws) (λ a rest. links p (read rule k g) (Single a) rest)
  unfolding links
  chain_read zero p f g ws = refl
  chain_read (suc k) p f g ws = refl

  pub chain_turns : (k : ℕ) (p : Kind → Bool) (f g : Form L) → check model after (Repeat f (Seq (Terminal p) g)) ≡ true → check model after f ≡ true → check model after (Seq (Terminal p) g) ≡ true → Turns p (read rule k g)
  unfolding links
  chain_turns zero p f g a b c = turn rule 0 f (Seq (Terminal p) g) (read rule 0 f) (both (word p) (read rule 0 g)) (next_of rule model after tested f (Seq (Terminal p) g) a) (good rule model after tested 0 f b) (good rule model after tested 0 (Seq (Terminal p) g) c)
  chain_turns (suc k) p f g a b c = turn rule (suc k) f (Seq (Terminal p) g) (read rule (suc k) f) (both (word p) (read rule (suc k) g)) (next_of rule model after tested f (Seq (Terminal p) g) a) (good rule model after tested (suc k) f b) (good rule model after tested (suc k) (Seq (Terminal p) g) c)

  -- a part, and perhaps another behind a word of these kinds
  pub optional_read : (k : ℕ) (p : Kind → Bool) (f g : Form L) (ws : List Word) → read rule k (Seq f (Alt (Seq (Terminal p) g) Epsilon)) ws ≡ with_optional p (read rule k f) (read rule k g) ws
  unfolding with_optional
  optional_read zero p f g ws = refl
  optional_read (suc k) p f g ws = refl

-- ---- what a refusal says of reading

pub bad_from : (e : Refusal) (at : Bor (List Word)) (x : Read) → e ≡ refusals.Bad at → AgreesOnError e x → x ≡ Failed Bad at.now
bad_from e at x is h = subst (λ (r : Refusal). AgreesOnError r x) is h

pub deep_from : (e : Refusal) (at : Bor (List Word)) (x : Read) → e ≡ refusals.TooDeep at → AgreesOnError e x → x ≡ Failed TooDeep at.now
deep_from e at x is h = subst (λ (r : Refusal). AgreesOnError r x) is h
