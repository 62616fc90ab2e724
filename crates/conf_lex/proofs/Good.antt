-- What a reader of a form keeps.
use Rattle.std.proofs.Common.{◌≡◌, ℕ, zero, suc, ◌≤◌, Bool, true, false, cond, ◌&&◌, ◌||◌, List, [], ◌∷◌, ◌++◌, length, Option, Some, None, refl, sym, ap, subst, ◌∙◌, append_assoc, append-nil, arith, ◌⊎◌, inl, inr}
use Rattle.std.proofs.lemmas.List.{length-append}
use Rattle.conf_lex.specs.Kind.{Kind, kind_of}
use Rattle.conf_lex.specs.declared.word.Word.{Word}
use Rattle.conf_lex.specs.Grammar.{Why, Bad, TooDeep, Form, Terminal, Epsilon, Seq, Alt, Repeat, Nested, ParseTree, Leaf, NoWords, Pair, Left, Right, Single, Snoc, Deeper, yield, begins, nullable, first_set, is_blank, or_later, can_continue, DerivesLongest, too_deep}
use Rattle.conf_lex.specs.Reading.{Read, Parsed, Failed, and_then, Reader, word, blank, both, either, nest, no_nest}

unfoldable pub first_word : List Word → Option Word
first_word [] = None
first_word (w ∷ ws) = Some w

abbrev pub outcome : Option (List Word) → ParseTree → List Word → Read
outcome None t rest = Parsed t rest
outcome (Some deep) t rest = Failed TooDeep (deep ++ rest)

-- ---- and_then, turned round

pub and_then_got : (x : Read) (f : ParseTree → List Word → Read) (t : ParseTree) (rest : List Word) → and_then x f ≡ Parsed t rest → (a : ParseTree) × (u : List Word) × (x ≡ Parsed a u) × (f a u ≡ Parsed t rest)
and_then_got (Parsed a u) f t rest e = (a, u, refl, e)
and_then_got (Failed why u) f t rest e = absurd cc

pub and_then_fault : (x : Read) (f : ParseTree → List Word → Read) (why : Why) (rest : List Word) → and_then x f ≡ Failed why rest → (x ≡ Failed why rest) ⊎ ((a : ParseTree) × (u : List Word) × (x ≡ Parsed a u) × (f a u ≡ Failed why rest))
and_then_fault (Parsed a u) f why rest e = inr (a, u, refl, e)
and_then_fault (Failed w u) f why rest e = inl e

pub chosen : {A : Type 0} (b : Bool) (x y z : A) → cond b x y ≡ z → ((b ≡ true) × (x ≡ z)) ⊎ ((b ≡ false) × (y ≡ z))
chosen true x y z e = inl (refl, e)
chosen false x y z e = inr (refl, e)

pub begins-same : (p : Kind → Bool) (xs ys : List Word) → first_word xs ≡ first_word ys → begins p xs ≡ begins p ys
unfolding first_word
begins-same p [] [] e = refl
begins-same p [] (y ∷ ys) e = absurd cc
begins-same p (x ∷ xs) [] e = absurd cc
begins-same p (x ∷ xs) (y ∷ ys) e = let same : x ≡ y = cc in ap (λ (w : Word). p (kind_of w)) same

pub first_word-append : (q r s : List Word) → first_word r ≡ first_word s → first_word (q ++ r) ≡ first_word (q ++ s)
unfolding first_word
first_word-append [] r s e = e
first_word-append (w ∷ q) r s e = refl

-- ---- what stands first in a tree's words

abbrev pub Front : {L : Type 0} → Form L → List Word → Type 0
Front f [] = nullable f ≡ true
Front f (w ∷ ws) = first_set f (kind_of w) ≡ true

pub or_left : (a b : Bool) → a ≡ true → (a || b) ≡ true
or_left true b e = refl
or_left false b e = absurd cc

pub or_right : (a b : Bool) → b ≡ true → (a || b) ≡ true
or_right true b e = refl
or_right false b e = e

or_and : (a n b : Bool) → n ≡ true → b ≡ true → (a || (n && b)) ≡ true
or_and true n b e h = refl
or_and false n b e h = rw (e, h) refl

Front-seq : {L : Type 0} (f g : Form L) (xs ys : List Word) → Front f xs → Front g ys → Front (Seq f g) (xs ++ ys)
Front-seq f g [] [] p q = rw (p, q) refl
Front-seq f g [] (y ∷ ys) p q = or_and (first_set f (kind_of y)) (nullable f) (first_set g (kind_of y)) p q
Front-seq f g (x ∷ xs) ys p q = or_left _ _ p

Front-left : {L : Type 0} (f g : Form L) (xs : List Word) → Front f xs → Front (Alt f g) xs
Front-left f g [] p = or_left _ _ p
Front-left f g (x ∷ xs) p = or_left _ _ p

Front-right : {L : Type 0} (f g : Form L) (xs : List Word) → Front g xs → Front (Alt f g) xs
Front-right f g [] p = or_right _ _ p
Front-right f g (x ∷ xs) p = or_right _ _ p

Front-start : {L : Type 0} (f g : Form L) (xs : List Word) → Front f xs → Front (Repeat f g) xs
Front-start f g [] p = p
Front-start f g (x ∷ xs) p = or_left _ _ p

-- a part that is not empty, after a chain
Front-more : {L : Type 0} (f g : Form L) (xs ys : List Word) → nullable g ≡ false → Front (Repeat f g) xs → Front g ys → Front (Repeat f g) (xs ++ ys)
Front-more f g [] [] n p q = absurd cc
Front-more f g [] (y ∷ ys) n p q = or_and (first_set f (kind_of y)) (nullable f) (first_set g (kind_of y)) p q
Front-more f g (x ∷ xs) ys n p q = p

-- ---- what a reader keeps

-- what was taken
pub record Taken {L : Type 0} (rule : L → Form L) (k : ℕ) (f : Form L) (ws : List Word) (t : ParseTree) (rest : List Word) : Type 0 where
  pub fits : DerivesLongest rule t f
  pub front : ws ≡ yield t ++ rest
  pub shallow : too_deep t k ≡ None
  pub stops : begins (can_continue rule t f) rest ≡ false

-- where the first word that opens a level too many stands in what goes on
abbrev pub Place : Why → List Word → List Word → Option (List Word) → Type 0
Place Bad rest more d = (deep : List Word) → d ≡ Some deep → length deep ≤ length more
Place TooDeep rest more d = (w : Word) × (u : List Word) × (v : List Word) × (rest ≡ w ∷ u) × (more ≡ w ∷ v) × (d ≡ Some more)

-- the words before a fault begin a tree
pub record Begun {L : Type 0} (rule : L → Form L) (k : ℕ) (f : Form L) (why : Why) (before rest : List Word) : Type 0 where
  pub tree : ParseTree
  pub more : List Word
  pub fits : DerivesLongest rule tree f
  pub front : yield tree ≡ before ++ more
  pub place : Place why rest more (too_deep tree k)

-- a fault, which comes whatever follows its word
pub record Refused {L : Type 0} (rule : L → Form L) (k : ℕ) (f : Form L) (r : Reader) (ws : List Word) (why : Why) (rest : List Word) : Type 0 where
  pub before : List Word
  pub front : ws ≡ before ++ rest
  pub local : (other : List Word) → first_word rest ≡ first_word other → r (before ++ other) ≡ Failed why other
  pub begun : Begun rule k f why before rest

pub record Good {L : Type 0} (rule : L → Form L) (k : ℕ) (f : Form L) (r : Reader) : Type 0 where
  pub got : (ws : List Word) (t : ParseTree) (rest : List Word) → r ws ≡ Parsed t rest → Taken rule k f ws t rest
  pub again : (t : ParseTree) (rest : List Word) → DerivesLongest rule t f → begins (can_continue rule t f) rest ≡ false → r (yield t ++ rest) ≡ outcome (too_deep t k) t rest
  pub fault : (ws : List Word) (why : Why) (rest : List Word) → r ws ≡ Failed why rest → Refused rule k f r ws why rest

-- a tree within the levels is read again
pub taken_again : {L : Type 0} (rule : L → Form L) (k : ℕ) (f : Form L) (r : Reader) → Good rule k f r → (t : ParseTree) (rest : List Word) → DerivesLongest rule t f → too_deep t k ≡ None → begins (can_continue rule t f) rest ≡ false → r (yield t ++ rest) ≡ Parsed t rest
taken_again rule k f r R t rest fits shallow stops = rw shallow at (R.again t rest fits stops)

-- ---- one word

pub never : (u : List Word) → begins (λ (q : Kind). false) u ≡ false
never [] = refl
never (v ∷ u) = refl

word_got : {L : Type 0} (rule : L → Form L) (k : ℕ) (p : Kind → Bool) (ws : List Word) (t : ParseTree) (rest : List Word) → word p ws ≡ Parsed t rest → Taken rule k (Terminal p) ws t rest
word_got rule k p [] t rest e = absurd cc
word_got rule k p (w ∷ ws) t rest e = elim (chosen (p (kind_of w)) (Parsed (Leaf w) ws) (Failed Bad (w ∷ ws)) (Parsed t rest) e) [
  | inl h ↦ subst (λ (x : ParseTree). Taken rule k (Terminal p) (w ∷ ws) x rest) (let same : Leaf w ≡ t = cc in same) (record { fits = h.0; front = let same : ws ≡ rest = cc in ap (λ (u : List Word). w ∷ u) same; shallow = refl; stops = never rest })
  | inr h ↦ absurd cc
]

word_again : {L : Type 0} (rule : L → Form L) (k : ℕ) (p : Kind → Bool) (t : ParseTree) (rest : List Word) → DerivesLongest rule t (Terminal p) → word p (yield t ++ rest) ≡ outcome (too_deep t k) t rest
word_again rule k p (Leaf w) rest fits = rw fits refl
word_again rule k p _ rest fits = absurd fits

-- a fault at the first word
at_once : {L : Type 0} (rule : L → Form L) (k : ℕ) (f : Form L) (r : Reader) (ws : List Word) (t : ParseTree) → ((other : List Word) → first_word ws ≡ first_word other → r other ≡ Failed Bad other) → DerivesLongest rule t f → ((u : List Word) → too_deep t k ≡ Some u → length u ≤ length (yield t)) → Refused rule k f r ws Bad ws
at_once rule k f r ws t local fits short =
    let b : Begun rule k f Bad [] ws = record { tree = t; more = yield t; fits = fits; front = refl; place = short } in
    record { before = []; front = refl; local = local; begun = b }

word_fault : {L : Type 0} (rule : L → Form L) (k : ℕ) (p : Kind → Bool) (sample : Word) → p (kind_of sample) ≡ true → (ws : List Word) (why : Why) (rest : List Word) → word p ws ≡ Failed why rest → Refused rule k (Terminal p) (word p) ws why rest
unfolding first_word
word_fault rule k p sample h [] why rest e =
    let bad : Bad ≡ why = cc in
    let same : [] ≡ rest = cc in
    let local : (other : List Word) → first_word [] ≡ first_word other → word p other ≡ Failed Bad other = λ other. elim other as (λ (o : List Word). first_word [] ≡ first_word o → word p o ≡ Failed Bad o) [ [] ↦ λ s. refl | v ∷ vs ↦ λ s. absurd cc ] in
    subst (λ (y : Why). Refused rule k (Terminal p) (word p) [] y rest) bad (subst (λ (u : List Word). Refused rule k (Terminal p) (word p) [] Bad u) same (at_once rule k (Terminal p) (word p) [] (Leaf sample) local h (λ u d. absurd cc)))
word_fault rule k p sample h (w ∷ ws) why rest e = elim (chosen (p (kind_of w)) (Parsed (Leaf w) ws) (Failed Bad (w ∷ ws)) (Failed why rest) e) [
  | inl c ↦ absurd cc
  | inr c ↦
      let bad : Bad ≡ why = cc in
      let same : w ∷ ws ≡ rest = cc in
      let local : (other : List Word) → first_word (w ∷ ws) ≡ first_word other → word p other ≡ Failed Bad other = λ other. elim other as (λ (o : List Word). first_word (w ∷ ws) ≡ first_word o → word p o ≡ Failed Bad o) [ [] ↦ λ s. absurd cc | v ∷ vs ↦ λ s. let ww : w ≡ v = cc in let out : p (kind_of v) ≡ false = rw (← ww) c.0 in rw out refl ] in
      subst (λ (y : Why). Refused rule k (Terminal p) (word p) (w ∷ ws) y rest) bad (subst (λ (u : List Word). Refused rule k (Terminal p) (word p) (w ∷ ws) Bad u) same (at_once rule k (Terminal p) (word p) (w ∷ ws) (Leaf sample) local h (λ u d. absurd cc)))
]

pub good_word : {L : Type 0} (rule : L → Form L) (k : ℕ) (p : Kind → Bool) (sample : Word) → p (kind_of sample) ≡ true → Good rule k (Terminal p) (word p)
good_word rule k p sample h = record { got = word_got rule k p; again = λ t rest fits stops. word_again rule k p t rest fits; fault = word_fault rule k p sample h }

-- ---- nothing

blank_again : {L : Type 0} (rule : L → Form L) (k : ℕ) (t : ParseTree) (rest : List Word) → DerivesLongest rule t Epsilon → blank (yield t ++ rest) ≡ outcome (too_deep t k) t rest
blank_again rule k NoWords rest fits = refl
blank_again rule k _ rest fits = absurd fits

blank_got : {L : Type 0} (rule : L → Form L) (k : ℕ) (ws : List Word) (t : ParseTree) (rest : List Word) → blank ws ≡ Parsed t rest → Taken rule k Epsilon ws t rest
blank_got rule k ws t rest e =
    let tree : NoWords ≡ t = cc in
    let same : ws ≡ rest = cc in
    subst (λ (x : ParseTree). Taken rule k Epsilon ws x rest) tree (record { fits = tt; front = same; shallow = refl; stops = never rest })

pub good_blank : {L : Type 0} (rule : L → Form L) (k : ℕ) → Good rule k Epsilon blank
good_blank rule k = record { got = blank_got rule k; again = λ t rest fits stops. blank_again rule k t rest fits; fault = λ ws why rest e. absurd cc }

-- ---- one after another

-- the front of two parts
pub begins-append : (p : Kind → Bool) (xs ys : List Word) → begins p xs ≡ false → (is_blank xs ≡ true → begins p ys ≡ false) → begins p (xs ++ ys) ≡ false
begins-append p [] ys h k = k refl
begins-append p (x ∷ xs) ys h k = h

pub or_false : (a b : Bool) → (a || b) ≡ false → (a ≡ false) × (b ≡ false)
or_false true b e = absurd cc
or_false false b e = (refl, e)

-- what a word after both parts can't go on with, neither part goes on with
seq_stops : {L : Type 0} (rule : L → Form L) (f g : Form L) (a b : ParseTree) (rest : List Word) → begins (can_continue rule (Pair a b) (Seq f g)) rest ≡ false → (begins (can_continue rule b g) rest ≡ false) × (is_blank (yield b) ≡ true → begins (can_continue rule a f) rest ≡ false)
seq_stops rule f g a b [] e = (refl, λ h. refl)
seq_stops rule f g a b (w ∷ ws) e =
    let h = or_false (can_continue rule b g (kind_of w)) (is_blank (yield b) && can_continue rule a f (kind_of w)) e in
    (h.0, λ blank. rw blank at h.1)

both_again : {L : Type 0} (rule : L → Form L) (k : ℕ) (f g : Form L) (r s : Reader) → Good rule k f r → Good rule k g s → (t : ParseTree) (rest : List Word) → DerivesLongest rule t (Seq f g) → begins (can_continue rule t (Seq f g)) rest ≡ false → both r s (yield t ++ rest) ≡ outcome (too_deep t k) t rest
both_again rule k f g r s R S (Pair a b) rest fits stops =
    let after = seq_stops rule f g a b rest stops in
    let first : r (yield a ++ (yield b ++ rest)) ≡ outcome (too_deep a k) a (yield b ++ rest) = R.again a (yield b ++ rest) fits.0 (begins-append (can_continue rule a f) (yield b) rest fits.2 after.1) in
    let second : s (yield b ++ rest) ≡ outcome (too_deep b k) b rest = S.again b rest fits.1 after.0 in
    rw (append_assoc (yield a) (yield b) rest, first) (step (too_deep a k) (too_deep b k) second)
  where
    step : (d e : Option (List Word)) → s (yield b ++ rest) ≡ outcome e b rest → and_then (outcome d a (yield b ++ rest)) (λ x u. and_then (s u) (λ y v. Parsed (Pair x y) v)) ≡ outcome (or_later d (yield b) e) (Pair a b) rest
    step (Some u) e h = ap (λ (v : List Word). Failed TooDeep v) (sym (append_assoc u (yield b) rest))
    step None None h = rw h refl
    step None (Some u) h = rw h refl
both_again rule k f g r s R S _ rest fits stops = absurd fits

pub begins-front : (p : Kind → Bool) (xs ys : List Word) → begins p (xs ++ ys) ≡ false → begins p xs ≡ false
begins-front p [] ys h = refl
begins-front p (x ∷ xs) ys h = h

seq_stops-back : {L : Type 0} (rule : L → Form L) (f g : Form L) (a b : ParseTree) (rest : List Word) → begins (can_continue rule b g) rest ≡ false → begins (can_continue rule a f) (yield b ++ rest) ≡ false → begins (can_continue rule (Pair a b) (Seq f g)) rest ≡ false
seq_stops-back rule f g a b [] p q = refl
seq_stops-back rule f g a b (w ∷ ws) p q = rw p (blank (yield b) q)
  where
    blank : (xs : List Word) → begins (can_continue rule a f) (xs ++ (w ∷ ws)) ≡ false → (is_blank xs && can_continue rule a f (kind_of w)) ≡ false
    blank [] h = h
    blank (x ∷ xs) h = refl

both_got : {L : Type 0} (rule : L → Form L) (k : ℕ) (f g : Form L) (r s : Reader) → Good rule k f r → Good rule k g s → (ws : List Word) (t : ParseTree) (rest : List Word) → both r s ws ≡ Parsed t rest → Taken rule k (Seq f g) ws t rest
both_got rule k f g r s R S ws t rest e =
    let one = and_then_got (r ws) (λ a u. and_then (s u) (λ b v. Parsed (Pair a b) v)) t rest e in
    let two = and_then_got (s one.1) (λ b v. Parsed (Pair one.0 b) v) t rest one.3 in
    let A = R.got ws one.0 one.1 one.2 in
    let B = S.got one.1 two.0 two.1 two.2 in
    let tree : Pair one.0 two.0 ≡ t = let h = two.3 in cc in
    let same : two.1 ≡ rest = let h = two.3 in cc in
    let stops : begins (can_continue rule one.0 f) (yield two.0 ++ two.1) ≡ false = rw (← B.front) A.stops in
    subst (λ (x : ParseTree). Taken rule k (Seq f g) ws x rest) tree (subst (λ (v : List Word). Taken rule k (Seq f g) ws (Pair one.0 two.0) v) same (record {
      fits = (A.fits, B.fits, begins-front (can_continue rule one.0 f) (yield two.0) two.1 stops);
      front = A.front ∙ ap (λ (v : List Word). yield one.0 ++ v) B.front ∙ sym (append_assoc (yield one.0) (yield two.0) two.1);
      shallow = rw A.shallow B.shallow;
      stops = seq_stops-back rule f g one.0 two.0 two.1 B.stops stops;
    }))

pub late_some : (d e : Option (List Word)) (more u : List Word) → or_later d more e ≡ Some u → ((v : List Word) × (d ≡ Some v) × (v ++ more ≡ u)) ⊎ ((d ≡ None) × (e ≡ Some u))
late_some None e more u h = inr (refl, h)
late_some (Some v) e more u h = inl (v, refl, let same : v ++ more ≡ u = cc in same)

pub deep_short : (t : ParseTree) (k : ℕ) (u : List Word) → too_deep t k ≡ Some u → length u ≤ length (yield t)
deep_short (Leaf w) k u h = absurd cc
deep_short NoWords k u h = absurd cc
deep_short (Pair a b) k u h = elim (late_some (too_deep a k) (too_deep b k) (yield b) u h) [
  | inl p ↦ let short = deep_short a k p.0 p.1 in rw (← p.2) (omega (arith, length-append p.0 (yield b), length-append (yield a) (yield b)))
  | inr p ↦ let short = deep_short b k u p.1 in omega (arith, length-append (yield a) (yield b))
]
deep_short (Left a) k u h = deep_short a k u h
deep_short (Right b) k u h = deep_short b k u h
deep_short (Single a) k u h = deep_short a k u h
deep_short (Snoc a b) k u h = elim (late_some (too_deep a k) (too_deep b k) (yield b) u h) [
  | inl p ↦ let short = deep_short a k p.0 p.1 in rw (← p.2) (omega (arith, length-append p.0 (yield b), length-append (yield a) (yield b)))
  | inr p ↦ let short = deep_short b k u p.1 in omega (arith, length-append (yield a) (yield b))
]
deep_short (Deeper w t) zero u h = let same : w ∷ yield t ≡ u = cc in rw (← same) (omega arith)
deep_short (Deeper w t) (suc k) u h = let short = deep_short t k u h in omega arith

-- a tree of g that may stand after any tree of f
pub record Sample {L : Type 0} (rule : L → Form L) (f g : Form L) : Type 0 where
  pub tree : ParseTree
  pub fits : DerivesLongest rule tree g
  pub apart : (a : ParseTree) → DerivesLongest rule a f → begins (can_continue rule a f) (yield tree) ≡ false

-- what was begun by the first part goes on with a sample of the second
begun_first : {L : Type 0} (rule : L → Form L) (k : ℕ) (f g : Form L) (sample : Sample rule f g) (why : Why) (before rest : List Word) → Begun rule k f why before rest → Begun rule k (Seq f g) why before rest
begun_first rule k f g sample why before rest b = record {
  tree = Pair b.tree sample.tree;
  more = b.more ++ yield sample.tree;
  fits = (b.fits, sample.fits, sample.apart b.tree b.fits);
  front = rw b.front (append_assoc before b.more (yield sample.tree));
  place = place why b.place;
}
  where
    place : (y : Why) → Place y rest b.more (too_deep b.tree k) → Place y rest (b.more ++ yield sample.tree) (too_deep (Pair b.tree sample.tree) k)
    place Bad h = λ u e. elim (late_some (too_deep b.tree k) (too_deep sample.tree k) (yield sample.tree) u e) [
      | inl p ↦ let short = h p.0 p.1 in rw (← p.2) (omega (arith, length-append p.0 (yield sample.tree), length-append b.more (yield sample.tree)))
      | inr p ↦ let short = deep_short sample.tree k u p.1 in omega (arith, length-append b.more (yield sample.tree))
    ]
    place TooDeep h = (h.0, h.1, h.2 ++ yield sample.tree, h.3, rw h.4 refl, rw h.5 refl)

-- what was begun by the second part, after the first, which doesn't go on with it
begun_behind : {L : Type 0} (rule : L → Form L) (k : ℕ) (f g : Form L) (a : ParseTree) (why : Why) (q rest : List Word) → DerivesLongest rule a f → too_deep a k ≡ None → (b : Begun rule k g why q rest) → begins (can_continue rule a f) (yield b.tree) ≡ false → Begun rule k (Seq f g) why (yield a ++ q) rest
begun_behind rule k f g a why q rest fits shallow b stops = record {
  tree = Pair a b.tree;
  more = b.more;
  fits = (fits, b.fits, stops);
  front = rw b.front (sym (append_assoc (yield a) q b.more));
  place = rw shallow b.place;
}

begun_second : {L : Type 0} (rule : L → Form L) (k : ℕ) (f g : Form L) (sample : Sample rule f g) (a : ParseTree) (why : Why) (q rest : List Word) → DerivesLongest rule a f → too_deep a k ≡ None → begins (can_continue rule a f) (q ++ rest) ≡ false → Begun rule k g why q rest → Begun rule k (Seq f g) why (yield a ++ q) rest
begun_second rule k f g sample a Bad [] rest fits shallow stops b = record {
  tree = Pair a sample.tree;
  more = yield sample.tree;
  fits = (fits, sample.fits, sample.apart a fits);
  front = let none : yield a ++ [] ≡ yield a = append-nil (yield a) in rw none refl;
  place = λ u e. deep_short sample.tree k u (rw shallow at e);
}
begun_second rule k f g sample a TooDeep [] rest fits shallow stops b = let p = b.place in begun_behind rule k f g a TooDeep [] rest fits shallow b (rw (b.front, p.4) (rw p.3 at stops))
begun_second rule k f g sample a why (x ∷ q) rest fits shallow stops b = begun_behind rule k f g a why (x ∷ q) rest fits shallow b (rw b.front stops)

both_fault : {L : Type 0} (rule : L → Form L) (k : ℕ) (f g : Form L) (r s : Reader) → Sample rule f g → Good rule k f r → Good rule k g s → (ws : List Word) (why : Why) (rest : List Word) → both r s ws ≡ Failed why rest → Refused rule k (Seq f g) (both r s) ws why rest
both_fault rule k f g r s sample R S ws why rest e = elim (and_then_fault (r ws) (λ a u. and_then (s u) (λ b v. Parsed (Pair a b) v)) why rest e) [
  | inl h ↦
      let A = R.fault ws why rest h in
      record {
        before = A.before;
        front = A.front;
        local = λ other same. rw (A.local other same) refl;
        begun = begun_first rule k f g sample why A.before rest A.begun;
      }
  | inr h ↦
      let a = h.0 in
      let u = h.1 in
      let A = R.got ws a u h.2 in
      let none_left : and_then (s u) (λ b v. Parsed (Pair a b) v) ≡ Failed why rest = h.3 in
      let failed : s u ≡ Failed why rest = elim (and_then_fault (s u) (λ b v. Parsed (Pair a b) v) why rest none_left) [ inl x ↦ x | inr x ↦ let y = x.3 in absurd cc ] in
      let B = S.fault u why rest failed in
      let stops : begins (can_continue rule a f) (B.before ++ rest) ≡ false = rw (← B.front) A.stops in
      record {
        before = yield a ++ B.before;
        front = A.front ∙ ap (λ (v : List Word). yield a ++ v) B.front ∙ sym (append_assoc (yield a) B.before rest);
        local = λ other same.
            let here : begins (can_continue rule a f) (B.before ++ other) ≡ false = sym (begins-same (can_continue rule a f) (B.before ++ rest) (B.before ++ other) (first_word-append B.before rest other same)) ∙ stops in
            let taken : r (yield a ++ (B.before ++ other)) ≡ Parsed a (B.before ++ other) = rw A.shallow at (R.again a (B.before ++ other) A.fits here) in
            rw (append_assoc (yield a) B.before other, taken, B.local other same) refl;
        begun = begun_second rule k f g sample a why B.before rest A.fits A.shallow stops B.begun;
      }
]

pub good_both : {L : Type 0} (rule : L → Form L) (k : ℕ) (f g : Form L) (r s : Reader) → Sample rule f g → Good rule k f r → Good rule k g s → Good rule k (Seq f g) (both r s)
good_both rule k f g r s sample R S = record { got = both_got rule k f g r s R S; again = both_again rule k f g r s R S; fault = both_fault rule k f g r s sample R S }

-- ---- a choice

-- the turns of a chain are not empty
abbrev pub Solid : {L : Type 0} → Form L → Type 0
Solid (Seq f g) = Solid f × Solid g
Solid (Alt f g) = Solid f × Solid g
Solid (Repeat f g) = Solid f × Solid g × (nullable g ≡ false)
Solid _ = Unit {0}

pub fits_front : {L : Type 0} (rule : L → Form L) (t : ParseTree) (f : Form L) → Solid f → DerivesLongest rule t f → Front f (yield t)
fits_front rule (Leaf w) (Terminal p) solid fits = fits
fits_front rule NoWords Epsilon solid fits = refl
fits_front rule (Pair a b) (Seq f g) solid fits = Front-seq f g (yield a) (yield b) (fits_front rule a f solid.0 fits.0) (fits_front rule b g solid.1 fits.1)
fits_front rule (Left a) (Alt f g) solid fits = Front-left f g (yield a) (fits_front rule a f solid.0 fits)
fits_front rule (Right b) (Alt f g) solid fits = Front-right f g (yield b) (fits_front rule b g solid.1 fits)
fits_front rule (Single a) (Repeat f g) solid fits = Front-start f g (yield a) (fits_front rule a f solid.0 fits)
fits_front rule (Snoc t b) (Repeat f g) solid fits = Front-more f g (yield t) (yield b) solid.2 (fits_front rule t (Repeat f g) solid fits.0) (fits_front rule b g solid.1 fits.1)
fits_front rule (Deeper w t) (Nested p n) solid fits = fits.0
fits_front rule _ _ solid fits = absurd fits

-- the first form is not empty, and the next word chooses
pub record Apart {L : Type 0} (f g : Form L) : Type 0 where
  pub solid : Solid (Alt f g)
  pub full : nullable f ≡ false
  pub apart : (k : Kind) → (first_set f k && first_set g k) ≡ false

and_false : (a b : Bool) → (a && b) ≡ false → b ≡ true → a ≡ false
and_false true b e h = absurd cc
and_false false b e h = refl

pub front_begins : {L : Type 0} (f : Form L) (xs ys : List Word) → nullable f ≡ false → Front f xs → begins (first_set f) (xs ++ ys) ≡ true
front_begins f [] ys n h = absurd cc
front_begins f (x ∷ xs) ys n h = h

second_begins : {L : Type 0} (f g : Form L) (xs ys : List Word) → ((k : Kind) → (first_set f k && first_set g k) ≡ false) → Front g xs → (is_blank xs ≡ true → begins (first_set f) ys ≡ false) → begins (first_set f) (xs ++ ys) ≡ false
second_begins f g [] ys apart h after = after refl
second_begins f g (x ∷ xs) ys apart h after = and_false _ _ (apart (kind_of x)) h

second_stops : {L : Type 0} (rule : L → Form L) (f g : Form L) (b : ParseTree) (rest : List Word) → begins (can_continue rule (Right b) (Alt f g)) rest ≡ false → (begins (can_continue rule b g) rest ≡ false) × (is_blank (yield b) ≡ true → begins (first_set f) rest ≡ false)
second_stops rule f g b [] e = (refl, λ h. refl)
second_stops rule f g b (w ∷ ws) e =
    let h = or_false (can_continue rule b g (kind_of w)) (is_blank (yield b) && first_set f (kind_of w)) e in
    (h.0, λ blank. rw blank at h.1)

second_stops-back : {L : Type 0} (rule : L → Form L) (f g : Form L) (b : ParseTree) (rest : List Word) → begins (can_continue rule b g) rest ≡ false → begins (first_set f) (yield b ++ rest) ≡ false → begins (can_continue rule (Right b) (Alt f g)) rest ≡ false
second_stops-back rule f g b [] p q = refl
second_stops-back rule f g b (w ∷ ws) p q = rw p (blank (yield b) q)
  where
    blank : (xs : List Word) → begins (first_set f) (xs ++ (w ∷ ws)) ≡ false → (is_blank xs && first_set f (kind_of w)) ≡ false
    blank [] h = h
    blank (x ∷ xs) h = refl

outcome_map : (c : ParseTree → ParseTree) (d : Option (List Word)) (t : ParseTree) (rest : List Word) → and_then (outcome d t rest) (λ a u. Parsed (c a) u) ≡ outcome d (c t) rest
outcome_map c None t rest = refl
outcome_map c (Some u) t rest = refl

either_again : {L : Type 0} (rule : L → Form L) (k : ℕ) (f g : Form L) (r s : Reader) → Apart f g → Good rule k f r → Good rule k g s → (t : ParseTree) (rest : List Word) → DerivesLongest rule t (Alt f g) → begins (can_continue rule t (Alt f g)) rest ≡ false → either (first_set f) r s (yield t ++ rest) ≡ outcome (too_deep t k) t rest
either_again rule k f g r s apart R S (Left a) rest fits stops =
    let here : begins (first_set f) (yield a ++ rest) ≡ true = front_begins f (yield a) rest apart.full (fits_front rule a f apart.solid.0 fits) in
    rw (here, R.again a rest fits stops) (outcome_map (λ x. Left x) (too_deep a k) a rest)
either_again rule k f g r s apart R S (Right b) rest fits stops =
    let after = second_stops rule f g b rest stops in
    let here : begins (first_set f) (yield b ++ rest) ≡ false = second_begins f g (yield b) rest apart.apart (fits_front rule b g apart.solid.1 fits) after.1 in
    rw (here, S.again b rest fits after.0) (outcome_map (λ x. Right x) (too_deep b k) b rest)
either_again rule k f g r s apart R S _ rest fits stops = absurd fits

either_got : {L : Type 0} (rule : L → Form L) (k : ℕ) (f g : Form L) (r s : Reader) → Good rule k f r → Good rule k g s → (ws : List Word) (t : ParseTree) (rest : List Word) → either (first_set f) r s ws ≡ Parsed t rest → Taken rule k (Alt f g) ws t rest
either_got rule k f g r s R S ws t rest e = elim (chosen (begins (first_set f) ws) (and_then (r ws) (λ a u. Parsed (Left a) u)) (and_then (s ws) (λ b u. Parsed (Right b) u)) (Parsed t rest) e) [
  | inl h ↦
      let one = and_then_got (r ws) (λ a u. Parsed (Left a) u) t rest h.1 in
      let A = R.got ws one.0 one.1 one.2 in
      let tree : Left one.0 ≡ t = let q = one.3 in cc in
      let same : one.1 ≡ rest = let q = one.3 in cc in
      subst (λ (x : ParseTree). Taken rule k (Alt f g) ws x rest) tree (subst (λ (v : List Word). Taken rule k (Alt f g) ws (Left one.0) v) same (record { fits = A.fits; front = A.front; shallow = A.shallow; stops = A.stops }))
  | inr h ↦
      let one = and_then_got (s ws) (λ b u. Parsed (Right b) u) t rest h.1 in
      let B = S.got ws one.0 one.1 one.2 in
      let tree : Right one.0 ≡ t = let q = one.3 in cc in
      let same : one.1 ≡ rest = let q = one.3 in cc in
      subst (λ (x : ParseTree). Taken rule k (Alt f g) ws x rest) tree (subst (λ (v : List Word). Taken rule k (Alt f g) ws (Right one.0) v) same (record { fits = B.fits; front = B.front; shallow = B.shallow; stops = second_stops-back rule f g one.0 one.1 B.stops (rw (← B.front) h.0) }))
]

either_fault : {L : Type 0} (rule : L → Form L) (k : ℕ) (f g : Form L) (r s : Reader) → Good rule k f r → Good rule k g s → (ws : List Word) (why : Why) (rest : List Word) → either (first_set f) r s ws ≡ Failed why rest → Refused rule k (Alt f g) (either (first_set f) r s) ws why rest
either_fault rule k f g r s R S ws why rest e = elim (chosen (begins (first_set f) ws) (and_then (r ws) (λ a u. Parsed (Left a) u)) (and_then (s ws) (λ b u. Parsed (Right b) u)) (Failed why rest) e) [
  | inl h ↦
      let failed : r ws ≡ Failed why rest = elim (and_then_fault (r ws) (λ a u. Parsed (Left a) u) why rest h.1) [ inl x ↦ x | inr x ↦ let y = x.3 in absurd cc ] in
      let A = R.fault ws why rest failed in
      let b = A.begun in
      record {
        before = A.before;
        front = A.front;
        local = λ other same.
            let here : begins (first_set f) (A.before ++ other) ≡ true = sym (begins-same (first_set f) (A.before ++ rest) (A.before ++ other) (first_word-append A.before rest other same)) ∙ (rw A.front at h.0) in
            rw (here, A.local other same) refl;
        begun = record { tree = Left b.tree; more = b.more; fits = b.fits; front = b.front; place = b.place };
      }
  | inr h ↦
      let failed : s ws ≡ Failed why rest = elim (and_then_fault (s ws) (λ b u. Parsed (Right b) u) why rest h.1) [ inl x ↦ x | inr x ↦ let y = x.3 in absurd cc ] in
      let B = S.fault ws why rest failed in
      let b = B.begun in
      record {
        before = B.before;
        front = B.front;
        local = λ other same.
            let here : begins (first_set f) (B.before ++ other) ≡ false = sym (begins-same (first_set f) (B.before ++ rest) (B.before ++ other) (first_word-append B.before rest other same)) ∙ (rw B.front at h.0) in
            rw (here, B.local other same) refl;
        begun = record { tree = Right b.tree; more = b.more; fits = b.fits; front = b.front; place = b.place };
      }
]

pub good_either : {L : Type 0} (rule : L → Form L) (k : ℕ) (f g : Form L) (r s : Reader) → Apart f g → Good rule k f r → Good rule k g s → Good rule k (Alt f g) (either (first_set f) r s)
good_either rule k f g r s apart R S = record { got = either_got rule k f g r s R S; again = either_again rule k f g r s apart R S; fault = either_fault rule k f g r s R S }

-- ---- a level

-- a word that opens the level, and a tree for the inside
pub record Model {L : Type 0} (rule : L → Form L) (p : Kind → Bool) (n : L) : Type 0 where
  pub word : Word
  pub passes : p (kind_of word) ≡ true
  pub tree : ParseTree
  pub fits : DerivesLongest rule tree (rule n)

nest_got : {L : Type 0} (rule : L → Form L) (k : ℕ) (p : Kind → Bool) (n : L) (r : Reader) → Good rule k (rule n) r → (ws : List Word) (t : ParseTree) (rest : List Word) → nest p r ws ≡ Parsed t rest → Taken rule (suc k) (Nested p n) ws t rest
nest_got rule k p n r R [] t rest e = absurd cc
nest_got rule k p n r R (w ∷ ws) t rest e = elim (chosen (p (kind_of w)) (and_then (r ws) (λ a u. Parsed (Deeper w a) u)) (Failed Bad (w ∷ ws)) (Parsed t rest) e) [
  | inl h ↦
      let one = and_then_got (r ws) (λ a u. Parsed (Deeper w a) u) t rest h.1 in
      let A = R.got ws one.0 one.1 one.2 in
      let tree : Deeper w one.0 ≡ t = let q = one.3 in cc in
      let same : one.1 ≡ rest = let q = one.3 in cc in
      subst (λ (x : ParseTree). Taken rule (suc k) (Nested p n) (w ∷ ws) x rest) tree (subst (λ (v : List Word). Taken rule (suc k) (Nested p n) (w ∷ ws) (Deeper w one.0) v) same (record { fits = (h.0, A.fits); front = ap (λ (v : List Word). w ∷ v) A.front; shallow = A.shallow; stops = A.stops }))
  | inr h ↦ absurd cc
]

nest_again : {L : Type 0} (rule : L → Form L) (k : ℕ) (p : Kind → Bool) (n : L) (r : Reader) → Good rule k (rule n) r → (t : ParseTree) (rest : List Word) → DerivesLongest rule t (Nested p n) → begins (can_continue rule t (Nested p n)) rest ≡ false → nest p r (yield t ++ rest) ≡ outcome (too_deep t (suc k)) t rest
nest_again rule k p n r R (Deeper w a) rest fits stops = rw (fits.0, R.again a rest fits.1 stops) (outcome_map (λ x. Deeper w x) (too_deep a k) a rest)
nest_again rule k p n r R _ rest fits stops = absurd fits

-- what fails at its first word fails so whatever follows
no_word_local : (p : Kind → Bool) (r : Reader) (ws : List Word) → r [] ≡ Failed Bad [] → ((w : Word) (u : List Word) → p (kind_of w) ≡ false → r (w ∷ u) ≡ Failed Bad (w ∷ u)) → begins p ws ≡ false → (other : List Word) → first_word ws ≡ first_word other → r other ≡ Failed Bad other
unfolding first_word
no_word_local p r ws empty other_word e [] same = empty
no_word_local p r [] empty other_word e (v ∷ u) same = absurd cc
no_word_local p r (w ∷ ws) empty other_word e (v ∷ u) same = let ww : w ≡ v = cc in other_word v u (rw (← ww) e)

nest_fault : {L : Type 0} (rule : L → Form L) (k : ℕ) (p : Kind → Bool) (n : L) (r : Reader) → Model rule p n → Good rule k (rule n) r → (ws : List Word) (why : Why) (rest : List Word) → nest p r ws ≡ Failed why rest → Refused rule (suc k) (Nested p n) (nest p r) ws why rest
nest_fault rule k p n r m R [] why rest e =
    let bad : Bad ≡ why = cc in
    let same : [] ≡ rest = cc in
    subst (λ (y : Why). Refused rule (suc k) (Nested p n) (nest p r) [] y rest) bad (subst (λ (u : List Word). Refused rule (suc k) (Nested p n) (nest p r) [] Bad u) same (at_once rule (suc k) (Nested p n) (nest p r) [] (Deeper m.word m.tree) (no_word_local p (nest p r) [] refl (λ v u h. rw h refl) refl) (m.passes, m.fits) (deep_short (Deeper m.word m.tree) (suc k))))
nest_fault rule k p n r m R (w ∷ ws) why rest e = elim (chosen (p (kind_of w)) (and_then (r ws) (λ a u. Parsed (Deeper w a) u)) (Failed Bad (w ∷ ws)) (Failed why rest) e) [
  | inl h ↦
      let failed : r ws ≡ Failed why rest = elim (and_then_fault (r ws) (λ a u. Parsed (Deeper w a) u) why rest h.1) [ inl x ↦ x | inr x ↦ let y = x.3 in absurd cc ] in
      let A = R.fault ws why rest failed in
      let b = A.begun in
      record {
        before = w ∷ A.before;
        front = ap (λ (v : List Word). w ∷ v) A.front;
        local = λ other same. rw (h.0, A.local other same) refl;
        begun = record { tree = Deeper w b.tree; more = b.more; fits = (h.0, b.fits); front = ap (λ (v : List Word). w ∷ v) b.front; place = b.place };
      }
  | inr h ↦
      let bad : Bad ≡ why = let q = h.1 in cc in
      let same : w ∷ ws ≡ rest = let q = h.1 in cc in
      subst (λ (y : Why). Refused rule (suc k) (Nested p n) (nest p r) (w ∷ ws) y rest) bad (subst (λ (u : List Word). Refused rule (suc k) (Nested p n) (nest p r) (w ∷ ws) Bad u) same (at_once rule (suc k) (Nested p n) (nest p r) (w ∷ ws) (Deeper m.word m.tree) (no_word_local p (nest p r) (w ∷ ws) refl (λ v u g. rw g refl) h.0) (m.passes, m.fits) (deep_short (Deeper m.word m.tree) (suc k))))
]

pub good_nest : {L : Type 0} (rule : L → Form L) (k : ℕ) (p : Kind → Bool) (n : L) (r : Reader) → Model rule p n → Good rule k (rule n) r → Good rule (suc k) (Nested p n) (nest p r)
good_nest rule k p n r m R = record { got = nest_got rule k p n r R; again = nest_again rule k p n r R; fault = nest_fault rule k p n r m R }

no_nest_again : {L : Type 0} (rule : L → Form L) (p : Kind → Bool) (n : L) (t : ParseTree) (rest : List Word) → DerivesLongest rule t (Nested p n) → no_nest p (yield t ++ rest) ≡ outcome (too_deep t 0) t rest
no_nest_again rule p n (Deeper w a) rest fits = rw fits.0 refl
no_nest_again rule p n _ rest fits = absurd fits

no_nest_got : (p : Kind → Bool) (ws : List Word) (t : ParseTree) (rest : List Word) → no_nest p ws ≡ Parsed t rest → ⊥
no_nest_got p [] t rest e = absurd cc
no_nest_got p (w ∷ ws) t rest e = elim (chosen (p (kind_of w)) (Failed TooDeep (w ∷ ws)) (Failed Bad (w ∷ ws)) (Parsed t rest) e) [ inl h ↦ absurd cc | inr h ↦ absurd cc ]

too_deep_local : (p : Kind → Bool) (w : Word) (ws : List Word) → p (kind_of w) ≡ true → (other : List Word) → first_word (w ∷ ws) ≡ first_word other → no_nest p other ≡ Failed TooDeep other
unfolding first_word
too_deep_local p w ws h [] same = absurd cc
too_deep_local p w ws h (v ∷ u) same = let ww : w ≡ v = cc in let passes : p (kind_of v) ≡ true = rw (← ww) h in rw passes refl

no_nest_fault : {L : Type 0} (rule : L → Form L) (p : Kind → Bool) (n : L) → Model rule p n → (ws : List Word) (why : Why) (rest : List Word) → no_nest p ws ≡ Failed why rest → Refused rule 0 (Nested p n) (no_nest p) ws why rest
no_nest_fault rule p n m [] why rest e =
    let bad : Bad ≡ why = cc in
    let same : [] ≡ rest = cc in
    subst (λ (y : Why). Refused rule 0 (Nested p n) (no_nest p) [] y rest) bad (subst (λ (u : List Word). Refused rule 0 (Nested p n) (no_nest p) [] Bad u) same (at_once rule 0 (Nested p n) (no_nest p) [] (Deeper m.word m.tree) (no_word_local p (no_nest p) [] refl (λ v u h. rw h refl) refl) (m.passes, m.fits) (deep_short (Deeper m.word m.tree) 0)))
no_nest_fault rule p n m (w ∷ ws) why rest e = elim (chosen (p (kind_of w)) (Failed TooDeep (w ∷ ws)) (Failed Bad (w ∷ ws)) (Failed why rest) e) [
  | inl h ↦
      let bad : TooDeep ≡ why = let q = h.1 in cc in
      let same : w ∷ ws ≡ rest = let q = h.1 in cc in
      subst (λ (y : Why). Refused rule 0 (Nested p n) (no_nest p) (w ∷ ws) y rest) bad (subst (λ (u : List Word). Refused rule 0 (Nested p n) (no_nest p) (w ∷ ws) TooDeep u) same (record {
        before = [];
        front = refl;
        local = too_deep_local p w ws h.0;
        begun = record { tree = Deeper w m.tree; more = w ∷ yield m.tree; fits = (h.0, m.fits); front = refl; place = (w, ws, yield m.tree, refl, refl, refl) };
      }))
  | inr h ↦
      let bad : Bad ≡ why = let q = h.1 in cc in
      let same : w ∷ ws ≡ rest = let q = h.1 in cc in
      subst (λ (y : Why). Refused rule 0 (Nested p n) (no_nest p) (w ∷ ws) y rest) bad (subst (λ (u : List Word). Refused rule 0 (Nested p n) (no_nest p) (w ∷ ws) Bad u) same (at_once rule 0 (Nested p n) (no_nest p) (w ∷ ws) (Deeper m.word m.tree) (no_word_local p (no_nest p) (w ∷ ws) refl (λ v u g. rw g refl) h.0) (m.passes, m.fits) (deep_short (Deeper m.word m.tree) 0)))
]

pub good_no_nest : {L : Type 0} (rule : L → Form L) (p : Kind → Bool) (n : L) → Model rule p n → Good rule 0 (Nested p n) (no_nest p)
good_no_nest rule p n m = record { got = λ ws t rest e. absurd (no_nest_got p ws t rest e); again = λ t rest fits stops. no_nest_again rule p n t rest fits; fault = no_nest_fault rule p n m }
