-- Where an address and a slash can stand, so can a prefix.
use Rattle.std.proofs.Common.{◌≡◌, Bool, true, false, ◌&&◌, ◌||◌, List, [], ◌∷◌, ◌++◌, refl, sym, ap, subst, ◌∙◌, append_assoc, append-nil, inl, inr, ◌⊎◌}
use Rattle.conf_lex.specs.declared.symbol.Symbol.TheVariants as symbols
use Rattle.conf_lex.specs.declared.word.Word.{Word}
use Rattle.conf_lex.specs.Kind.{Kind, IsAddress, IsPrefix, IsSymbol, kind_of, symbol}
use Rattle.conf_lex.specs.Grammar.{Terminal, Epsilon, Seq, Alt, Repeat, Nested, ParseTree, Leaf, NoWords, Pair, Left, Right, Single, Snoc, Deeper, yield, begins, nullable, first_set, is_blank, can_continue, can_continue_in, DerivesLongest}
use Rattle.conf_lex.specs.Sentences.{IsBegun}
use Rattle.conf_lex.proofs.Checks.{check, and_true, more, not, not_true, solid_of, goes_more, goes_inner}
use Rattle.conf_lex.proofs.Good.{Front, fits_front}
use Rattle.conf_lex.proofs.Symbols.{is_symbol_word}
use Rattle.conf_lex.proofs.Unique.{fronts}
use Rattle.expr_syntax.specs.Syntax.{rule}
use Rattle.expr_syntax.specs.Levels.{Level, Form, group_level}
use Rattle.filt_syntax.specs.RefusedToken.{some_prefix}
use Rattle.expr_syntax.proofs.Tested.{model, after, checked}
use Rattle.conf_syntax.specs.Syntax.{config}
use Rattle.conf_laws.proofs.KindTrees.{both_same, or_same}
use Rattle.conf_tree.proofs.Tested.{config_checked}

abbrev slash : Kind
slash = IsSymbol symbols.Slash

-- the form may end in an address, in whose place a prefix can't stand; no level does
abbrev ends_short : Form → Bool
ends_short (Terminal p) = p IsAddress && not (p IsPrefix)
ends_short Epsilon = false
ends_short (Seq f g) = ends_short g || (nullable g && ends_short f)
ends_short (Alt f g) = ends_short f || ends_short g
ends_short (Repeat f g) = ends_short f || ends_short g
ends_short (Nested p n) = false

-- no such address has a slash behind it, and no part goes on with a prefix that begins the next one
abbrev tidy : Form → Bool
tidy (Terminal p) = true
tidy Epsilon = true
tidy (Seq f g) = (tidy f && tidy g) && (not (ends_short f && first_set g slash) && not (more after f IsPrefix && first_set g IsPrefix))
tidy (Alt f g) = tidy f && tidy g
tidy (Repeat f g) = (tidy f && tidy g) && (not ((ends_short f || ends_short g) && first_set g slash) && not ((more after f IsPrefix || more after g IsPrefix) && first_set g IsPrefix))
tidy (Nested p n) = not (p IsAddress)

levels_tidy : (n : Level) → (tidy (rule n) && not (ends_short (rule n))) ≡ true
levels_tidy group_level = refl
levels_tidy _ = refl

-- what comes behind the address: a slash, or nothing where the form doesn't end in a short one
abbrev Behind : Form → List Word → Type 0
Behind f rest = (begins (symbol symbols.Slash) rest ≡ true) ⊎ ((rest ≡ []) × (ends_short f ≡ false))

-- the tree with a prefix in place of the address
record Swapped (t : ParseTree) (f : Form) (front rest : List Word) : Type 0 where
  tree : ParseTree
  fits : DerivesLongest rule tree f
  reads : yield tree ≡ front ++ some_prefix ∷ rest
  on : (k : Kind) → can_continue rule tree f k ≡ can_continue rule t f k
  inside : (k : Kind) → can_continue_in rule tree f k ≡ can_continue_in rule t f k

-- ---- booleans

and_false : (a b : Bool) → not (a && b) ≡ true → b ≡ true → a ≡ false
and_false true true e h = absurd cc
and_false true false e h = absurd cc
and_false false b e h = refl

or_none : (a b : Bool) → (a || b) ≡ false → (a ≡ false) × (b ≡ false)
or_none true b e = absurd cc
or_none false b e = (refl, e)

or_and_none : (a n b : Bool) → (a || (n && b)) ≡ false → n ≡ true → b ≡ false
or_and_none true n b e h = absurd cc
or_and_none false n b e h = rw h at e

implied_false : (a b : Bool) → (a ≡ true → b ≡ true) → b ≡ false → a ≡ false
implied_false true b up none = let yes = up refl in cc
implied_false false b up none = refl

or_false : (a b : Bool) → a ≡ false → b ≡ false → (a || b) ≡ false
or_false a b e h = rw (e, h) refl

takes : (p : Kind → Bool) → (p IsAddress && not (p IsPrefix)) ≡ false → p IsAddress ≡ true → p IsPrefix ≡ true
takes p short is = low (p IsAddress) (p IsPrefix) short is
  where
    low : (a b : Bool) → (a && not b) ≡ false → a ≡ true → b ≡ true
    low a true e h = refl
    low true false e h = absurd cc
    low false false e h = absurd cc

blank_in : (front : List Word) (w v : Word) (rest xs ys : List Word) → xs ≡ front ++ w ∷ rest → ys ≡ front ++ v ∷ rest → is_blank ys ≡ is_blank xs
blank_in [] w v rest xs ys e h = rw (e, h) refl
blank_in (x ∷ front) w v rest xs ys e h = rw (e, h) refl

-- ---- what follows a part

slash_starts : (g : Form) (ws : List Word) → Front g ws → begins (symbol symbols.Slash) ws ≡ true → first_set g slash ≡ true
slash_starts g [] h e = absurd cc
slash_starts g (w ∷ ws) h e = ap (λ (v : Word). first_set g (kind_of v)) (sym (is_symbol_word w symbols.Slash refl e)) ∙ h

begins_on : (p q : Kind → Bool) → ((k : Kind) → p k ≡ q k) → (ws : List Word) → begins q ws ≡ false → begins p ws ≡ false
begins_on p q same [] e = refl
begins_on p q same (w ∷ ws) e = same (kind_of w) ∙ e

-- behind the first of two parts
behind_first : (short : Bool) (g : Form) (f : Form) (whole : Bool) (more rest back : List Word) → ends_short f ≡ short → Front g back → not (short && first_set g slash) ≡ true
    → (nullable g ≡ true → whole ≡ false → short ≡ false) → rest ≡ more ++ back → (begins (symbol symbols.Slash) rest ≡ true) ⊎ ((rest ≡ []) × (whole ≡ false)) → Behind f more
behind_first short g f whole (v ∷ more) rest back is front apart last e (inl slashed) = inl (ap (begins (symbol symbols.Slash)) (sym e) ∙ slashed)
behind_first short g f whole (v ∷ more) rest back is front apart last e (inr none) = let never = sym none.0 ∙ e in absurd cc
behind_first short g f whole [] rest back is front apart last e (inl slashed) =
    inr (refl, is ∙ and_false short (first_set g slash) apart (slash_starts g back front (ap (begins (symbol symbols.Slash)) (sym e) ∙ slashed)))
behind_first short g f whole [] rest back is front apart last e (inr none) =
    let empty : back ≡ [] = sym e ∙ none.0 in
    inr (refl, is ∙ last (subst (λ (u : List Word). Front g u) empty front) none.1)

after_swap : (p : Kind → Bool) (inner : List Word) (w : Word) (rest xs ys : List Word) (some : Bool) (g : Form) → xs ≡ inner ++ w ∷ rest → ys ≡ inner ++ some_prefix ∷ rest → begins p xs ≡ false → (some ≡ false → p IsPrefix ≡ false) → not (some && first_set g IsPrefix) ≡ true → Front g ys → begins p ys ≡ false
after_swap p [] w rest xs ys some g e h none off apart front =
    let here : first_set g IsPrefix ≡ true = subst (λ (u : List Word). Front g u) h front in
    rw h (off (and_false some (first_set g IsPrefix) apart here))
after_swap p (v ∷ inner) w rest xs ys some g e h none off apart front = rw h (sym (ap (begins p) e) ∙ none)

either_first : (f g : Form) (rest : List Word) → (begins (symbol symbols.Slash) rest ≡ true) ⊎ ((rest ≡ []) × ((ends_short f || ends_short g) ≡ false)) → Behind f rest
either_first f g rest (inl slashed) = inl slashed
either_first f g rest (inr none) = inr (none.0, (or_none (ends_short f) (ends_short g) none.1).0)

either_second : (f g : Form) (rest : List Word) → (begins (symbol symbols.Slash) rest ≡ true) ⊎ ((rest ≡ []) × ((ends_short f || ends_short g) ≡ false)) → Behind g rest
either_second f g rest (inl slashed) = inl slashed
either_second f g rest (inr none) = inr (none.0, (or_none (ends_short f) (ends_short g) none.1).1)

inside_behind : (n : Level) (rest : List Word) → ends_short (rule n) ≡ false → (begins (symbol symbols.Slash) rest ≡ true) ⊎ ((rest ≡ []) × (false ≡ false)) → Behind (rule n) rest
inside_behind n rest short (inl slashed) = inl slashed
inside_behind n rest short (inr none) = inr (none.0, short)

none_long : (front : List Word) (w : Word) (rest : List Word) → [] ≡ front ++ w ∷ rest → ⊥
none_long [] w rest e = cc
none_long (v ∷ front) w rest e = cc

-- the tests of two parts
record Parts (f g : Form) (short some : Bool) : Type 0 where
  ok_first : check model after f ≡ true
  ok_second : check model after g ≡ true
  first : tidy f ≡ true
  second : tidy g ≡ true
  slashed : not (short && first_set g slash) ≡ true
  apart : not (some && first_set g IsPrefix) ≡ true

seq_parts : (f g : Form) → check model after (Seq f g) ≡ true → tidy (Seq f g) ≡ true → Parts f g (ends_short f) (more after f IsPrefix)
seq_parts f g ok one =
    let c : (check model after f ≡ true) × (check model after g ≡ true) = and_true _ _ (and_true _ _ ok).0 in
    let parts : (tidy f ≡ true) × (tidy g ≡ true) = and_true _ _ (and_true _ _ one).0 in
    let rules : (not (ends_short f && first_set g slash) ≡ true) × (not (more after f IsPrefix && first_set g IsPrefix) ≡ true) = and_true _ _ (and_true _ _ one).1 in
    record { ok_first = c.0; ok_second = c.1; first = parts.0; second = parts.1; slashed = rules.0; apart = rules.1 }

chain_parts : (f g : Form) → check model after (Repeat f g) ≡ true → tidy (Repeat f g) ≡ true → Parts f g (ends_short f || ends_short g) (more after f IsPrefix || more after g IsPrefix)
chain_parts f g ok one =
    let c : (check model after f ≡ true) × (check model after g ≡ true) = and_true _ _ (and_true _ _ ok).0 in
    let parts : (tidy f ≡ true) × (tidy g ≡ true) = and_true _ _ (and_true _ _ one).0 in
    let rules : (not ((ends_short f || ends_short g) && first_set g slash) ≡ true) × (not ((more after f IsPrefix || more after g IsPrefix) && first_set g IsPrefix) ≡ true) = and_true _ _ (and_true _ _ one).1 in
    record { ok_first = c.0; ok_second = c.1; first = parts.0; second = parts.1; slashed = rules.0; apart = rules.1 }

seq_behind : (a b : ParseTree) (f g : Form) (behind rest : List Word) → Parts f g (ends_short f) (more after f IsPrefix) → DerivesLongest rule b g → rest ≡ behind ++ yield b → Behind (Seq f g) rest → Behind f behind
seq_behind a b f g behind rest c h tail is =
    behind_first (ends_short f) g f (ends_short (Seq f g)) behind rest (yield b) refl (fits_front rule b g (solid_of rule model after g c.ok_second) h) c.slashed (λ full none. or_and_none (ends_short g) (nullable g) (ends_short f) none full) tail is

chain_behind : (t b : ParseTree) (f g : Form) (behind rest : List Word) → Parts f g (ends_short f || ends_short g) (more after f IsPrefix || more after g IsPrefix) → DerivesLongest rule b g → rest ≡ behind ++ yield b → Behind (Repeat f g) rest → Behind (Repeat f g) behind
chain_behind t b f g behind rest c h tail is =
    behind_first (ends_short (Repeat f g)) g (Repeat f g) (ends_short (Repeat f g)) behind rest (yield b) refl (fits_front rule b g (solid_of rule model after g c.ok_second) h) c.slashed (λ full none. none) tail is

seq_right_behind : (f g : Form) (rest : List Word) → Behind (Seq f g) rest → Behind g rest
seq_right_behind f g rest (inl slashed) = inl slashed
seq_right_behind f g rest (inr none) = inr (none.0, (or_none (ends_short g) (nullable g && ends_short f) none.1).0)

seq_left : (a b : ParseTree) (f g : Form) (front behind rest : List Word) → DerivesLongest rule (Pair a b) (Seq f g) → rest ≡ behind ++ yield b → Swapped a f front behind → Swapped (Pair a b) (Seq f g) front rest
seq_left a b f g front behind rest h tail x = record {
  tree = Pair x.tree b;
  fits = (x.fits, h.1, begins_on (can_continue rule x.tree f) (can_continue rule a f) x.on (yield b) h.2);
  reads = ap (λ (l : List Word). l ++ yield b) x.reads ∙ append_assoc front (some_prefix ∷ behind) (yield b) ∙ ap (λ (l : List Word). front ++ some_prefix ∷ l) (sym tail);
  on = λ k. both_same _ _ _ _ _ _ refl refl (x.on k);
  inside = λ k. refl;
}

seq_right : (a b : ParseTree) (f g : Form) (front inner : List Word) (w : Word) (rest : List Word) → Parts f g (ends_short f) (more after f IsPrefix) → DerivesLongest rule (Pair a b) (Seq f g) → front ≡ yield a ++ inner → yield b ≡ inner ++ w ∷ rest → Swapped b g inner rest → Swapped (Pair a b) (Seq f g) front rest
seq_right a b f g front inner w rest c h cut tail y =
    let off = implied_false (can_continue rule a f IsPrefix) (more after f IsPrefix) (goes_more rule model after checked a f IsPrefix (solid_of rule model after f c.ok_first) h.0) in
    record {
      tree = Pair a y.tree;
      fits = (h.0, y.fits, after_swap (can_continue rule a f) inner w rest (yield b) (yield y.tree) (more after f IsPrefix) g tail y.reads h.2 off c.apart (fits_front rule y.tree g (solid_of rule model after g c.ok_second) y.fits));
      reads = ap (λ (l : List Word). yield a ++ l) y.reads ∙ sym (append_assoc (yield a) inner (some_prefix ∷ rest)) ∙ ap (λ (l : List Word). l ++ some_prefix ∷ rest) (sym cut);
      on = λ k. both_same _ _ _ _ _ _ (y.on k) (blank_in inner w some_prefix rest (yield b) (yield y.tree) tail y.reads) refl;
      inside = λ k. refl;
    }

chain_left : (t b : ParseTree) (f g : Form) (front behind rest : List Word) → DerivesLongest rule (Snoc t b) (Repeat f g) → rest ≡ behind ++ yield b → Swapped t (Repeat f g) front behind → Swapped (Snoc t b) (Repeat f g) front rest
chain_left t b f g front behind rest h tail x = record {
  tree = Snoc x.tree b;
  fits = (x.fits, h.1, begins_on (can_continue_in rule x.tree (Repeat f g)) (can_continue_in rule t (Repeat f g)) x.inside (yield b) h.2);
  reads = ap (λ (l : List Word). l ++ yield b) x.reads ∙ append_assoc front (some_prefix ∷ behind) (yield b) ∙ ap (λ (l : List Word). front ++ some_prefix ∷ l) (sym tail);
  on = λ k. refl;
  inside = λ k. refl;
}

chain_right : (t b : ParseTree) (f g : Form) (front inner : List Word) (w : Word) (rest : List Word) → check model after (Repeat f g) ≡ true → Parts f g (ends_short f || ends_short g) (more after f IsPrefix || more after g IsPrefix) → DerivesLongest rule (Snoc t b) (Repeat f g) → front ≡ yield t ++ inner → yield b ≡ inner ++ w ∷ rest → Swapped b g inner rest → Swapped (Snoc t b) (Repeat f g) front rest
chain_right t b f g front inner w rest ok c h cut tail y =
    let off = implied_false (can_continue_in rule t (Repeat f g) IsPrefix) (more after f IsPrefix || more after g IsPrefix) (goes_inner rule model after checked t f g IsPrefix (solid_of rule model after (Repeat f g) ok) h.0) in
    record {
      tree = Snoc t y.tree;
      fits = (h.0, y.fits, after_swap (can_continue_in rule t (Repeat f g)) inner w rest (yield b) (yield y.tree) (more after f IsPrefix || more after g IsPrefix) g tail y.reads h.2 off c.apart (fits_front rule y.tree g (solid_of rule model after g c.ok_second) y.fits));
      reads = ap (λ (l : List Word). yield t ++ l) y.reads ∙ sym (append_assoc (yield t) inner (some_prefix ∷ rest)) ∙ ap (λ (l : List Word). l ++ some_prefix ∷ rest) (sym cut);
      on = λ k. or_same _ _ _ (y.on k);
      inside = y.on;
    }

swap : (t : ParseTree) (f : Form) → check model after f ≡ true → tidy f ≡ true → DerivesLongest rule t f → (front : List Word) (w : Word) (rest : List Word) → kind_of w ≡ IsAddress → yield t ≡ front ++ w ∷ rest → Behind f rest → Swapped t f front rest
swap (Leaf v) (Terminal p) ok one h [] w rest is e (inl slashed) = let none : [] ≡ rest = cc in let never : begins (symbol symbols.Slash) [] ≡ true = ap (begins (symbol symbols.Slash)) none ∙ slashed in absurd cc
swap (Leaf v) (Terminal p) ok one h [] w rest is e (inr last) =
    let same : v ≡ w = cc in
    let none : [] ≡ rest = cc in
    let here : p IsAddress ≡ true = ap p (sym is ∙ ap kind_of (sym same)) ∙ h in
    record { tree = Leaf some_prefix; fits = takes p last.1 here; reads = ap (λ (l : List Word). some_prefix ∷ l) none; on = λ k. refl; inside = λ k. refl }
swap (Leaf v) (Terminal p) ok one h (x ∷ front) w rest is e behind = let tail : [] ≡ front ++ w ∷ rest = cc in absurd (none_long front w rest tail)
swap NoWords Epsilon ok one h front w rest is e behind = absurd (none_long front w rest e)
swap (Pair a b) (Seq f g) ok one h front w rest is e behind =
    let c = seq_parts f g ok one in
    elim (fronts (yield a) (yield b) front (w ∷ rest) e) [
      | inl x ↦ seq_right a b f g front [] w rest c h (sym (append-nil (yield a) ∙ x.0)) x.1 (swap b g c.ok_second c.second h.1 [] w rest is x.1 (seq_right_behind f g rest behind))
      | inr x ↦ elim x [
        | inl l ↦
            let same : w ≡ l.word = let q = l.rest in cc in
            let tail : rest ≡ l.more ++ yield b = let q = l.rest in cc in
            seq_left a b f g front l.more rest h tail (swap a f c.ok_first c.first h.0 front w l.more is (l.front ∙ ap (λ (v : Word). front ++ v ∷ l.more) (sym same)) (seq_behind a b f g l.more rest c h.1 tail behind))
        | inr l ↦ seq_right a b f g front (l.word ∷ l.more) w rest c h l.front l.rest (swap b g c.ok_second c.second h.1 (l.word ∷ l.more) w rest is l.rest (seq_right_behind f g rest behind))
      ]
    ]
swap (Left a) (Alt f g) ok one h front w rest is e behind =
    let c = (and_true (check model after f) (check model after g) (and_true _ _ ok).0) in
    let x = swap a f c.0 (and_true (tidy f) (tidy g) one).0 h front w rest is e (either_first f g rest behind) in
    record { tree = Left x.tree; fits = x.fits; reads = x.reads; on = x.on; inside = λ k. refl }
swap (Right b) (Alt f g) ok one h front w rest is e behind =
    let c = (and_true (check model after f) (check model after g) (and_true _ _ ok).0) in
    let y = swap b g c.1 (and_true (tidy f) (tidy g) one).1 h front w rest is e (either_second f g rest behind) in
    record { tree = Right y.tree; fits = y.fits; reads = y.reads; on = λ k. both_same _ _ _ _ _ _ (y.on k) (blank_in front w some_prefix rest (yield b) (yield y.tree) e y.reads) refl; inside = λ k. refl }
swap (Single a) (Repeat f g) ok one h front w rest is e behind =
    let c = (and_true (check model after f) (check model after g) (and_true _ _ ok).0) in
    let parts = (and_true (tidy f) (tidy g) (and_true _ _ one).0) in
    let x = swap a f c.0 parts.0 h front w rest is e (either_first f g rest behind) in
    record { tree = Single x.tree; fits = x.fits; reads = x.reads; on = λ k. or_same _ _ _ (x.on k); inside = x.on }
swap (Snoc t b) (Repeat f g) ok one h front w rest is e behind =
    let c = chain_parts f g ok one in
    elim (fronts (yield t) (yield b) front (w ∷ rest) e) [
      | inl x ↦ chain_right t b f g front [] w rest ok c h (sym (append-nil (yield t) ∙ x.0)) x.1 (swap b g c.ok_second c.second h.1 [] w rest is x.1 (either_second f g rest behind))
      | inr x ↦ elim x [
        | inl l ↦
            let same : w ≡ l.word = let q = l.rest in cc in
            let tail : rest ≡ l.more ++ yield b = let q = l.rest in cc in
            chain_left t b f g front l.more rest h tail (swap t (Repeat f g) ok one h.0 front w l.more is (l.front ∙ ap (λ (v : Word). front ++ v ∷ l.more) (sym same)) (chain_behind t b f g l.more rest c h.1 tail behind))
        | inr l ↦ chain_right t b f g front (l.word ∷ l.more) w rest ok c h l.front l.rest (swap b g c.ok_second c.second h.1 (l.word ∷ l.more) w rest is l.rest (either_second f g rest behind))
      ]
    ]
swap (Deeper v t) (Nested p n) ok one h [] w rest is e behind =
    let same : v ≡ w = cc in
    let here : p IsAddress ≡ true = ap p (sym is ∙ ap kind_of (sym same)) ∙ h.0 in
    let never = not_true (p IsAddress) one in
    absurd cc
swap (Deeper v t) (Nested p n) ok one h (x ∷ front) w rest is e behind =
    let same : v ≡ x = cc in
    let tail : yield t ≡ front ++ w ∷ rest = cc in
    let level = and_true (tidy (rule n)) (not (ends_short (rule n))) (levels_tidy n) in
    let y = swap t (rule n) (checked.checks n) level.0 h.1 front w rest is tail (inside_behind n rest (not_true _ level.1) behind) in
    record { tree = Deeper v y.tree; fits = (h.0, y.fits); reads = ap (λ (l : List Word). v ∷ l) y.reads ∙ ap (λ (u : Word). u ∷ (front ++ some_prefix ∷ rest)) same; on = y.on; inside = λ k. refl }
swap _ _ ok one h front w rest is e behind = absurd h

pub prefix_follows : (before : List Word) (w : Word) (more : List Word) → kind_of w ≡ IsAddress → begins (symbol symbols.Slash) more ≡ true → IsBegun rule config (before ++ w ∷ more) → IsBegun rule config (before ++ some_prefix ∷ [])
prefix_follows before w more is slashed b =
    let cut : yield b.0 ≡ before ++ w ∷ (more ++ b.1) = b.3 ∙ append_assoc before (w ∷ more) b.1 in
    let x = swap b.0 config config_checked refl b.2 before w (more ++ b.1) is cut (inl (still more b.1 slashed)) in
    (x.tree, more ++ b.1, x.fits, x.reads ∙ sym (append_assoc before (some_prefix ∷ []) (more ++ b.1)))
  where
    still : (more back : List Word) → begins (symbol symbols.Slash) more ≡ true → begins (symbol symbols.Slash) (more ++ back) ≡ true
    still [] back e = absurd cc
    still (v ∷ more) back e = e
