-- Reading a form that passes the test finds what stands at the front, or the first word that can't stand there.
use Rattle.std.proofs.Common.{◌≡◌, ◌≢◌, ℕ, Bool, true, false, ◌&&◌, ◌||◌, List, [], ◌∷◌, ◌++◌, Option, Some, None, refl, sym, ap, subst, ◌∙◌, append_assoc, append-nil, ◌⊎◌, inl, inr}
use Rattle.conf_lex.specs.Kind.{Kind, kind_of}
use Rattle.conf_lex.specs.declared.word.Word.{Word}
use Rattle.conf_lex.specs.Grammar.{Bad, TooDeep, Form, Terminal, Epsilon, Seq, Alt, Repeat, Nested, ParseTree, Leaf, NoWords, Pair, Left, Right, Single, Snoc, Deeper, yield, begins, nullable, first_set, is_blank, can_continue, can_continue_in, DerivesLongest, too_deep}
use Rattle.conf_lex.specs.Reading.{Parsed, Failed, read}
use Rattle.conf_lex.specs.Sentences.{IsLast, IsRead, IsBad, IsTooDeep}
use Rattle.conf_lex.proofs.Good.{first_word, outcome, Front, Good, Solid, fits_front, begins-append, taken_again}
use Rattle.conf_lex.proofs.Chains.{full_blank}
use Rattle.conf_lex.proofs.Checks.{check, Checked, and_true, or_cases, or_left, or_right, not_true, blank_nullable, solid_of, sample_of, good}

-- a tree without words
record Nothing {L : Type 0} (rule : L → Form L) (f : Form L) : Type 0 where
  tree : ParseTree
  fits : DerivesLongest rule tree f
  empty : yield tree ≡ []

-- a tree that begins with the words
record Goes {L : Type 0} (rule : L → Form L) (f : Form L) (words : List Word) : Type 0 where
  tree : ParseTree
  more : List Word
  fits : DerivesLongest rule tree f
  front : yield tree ≡ words ++ more

pub begins_none : (p : Kind → Bool) (xs : List Word) → xs ≡ [] → begins p xs ≡ false
begins_none p [] e = refl
begins_none p (x ∷ xs) e = absurd cc

begins_word : (p : Kind → Bool) (xs ys : List Word) (w : Word) → xs ≡ w ∷ ys → p (kind_of w) ≡ false → begins p xs ≡ false
begins_word p xs ys w e h = rw e h

pub blank_is : (xs : List Word) → is_blank xs ≡ true → xs ≡ []
blank_is [] e = refl
blank_is (x ∷ xs) e = absurd cc

pub bool_cases : (b : Bool) → (b ≡ true) ⊎ (b ≡ false)
bool_cases true = inl refl
bool_cases false = inr refl

append_none : (xs ys : List Word) → xs ++ ys ≡ [] → (xs ≡ []) × (ys ≡ [])
append_none [] ys e = (refl, e)
append_none (x ∷ xs) ys e = absurd cc

none_blank : (xs : List Word) → xs ≡ [] → is_blank xs ≡ true
none_blank [] e = refl
none_blank (x ∷ xs) e = absurd cc

none_nullable : {L : Type 0} (f : Form L) (xs : List Word) → Front f xs → xs ≡ [] → nullable f ≡ true
none_nullable f xs h e = blank_nullable f xs h (none_blank xs e)

or_and_right : (a n b : Bool) → n ≡ true → b ≡ true → (a || (n && b)) ≡ true
or_and_right true n b e h = refl
or_and_right false n b e h = rw (e, h) refl

-- what goes on with an empty tree starts the form
none_starts : {L : Type 0} (rule : L → Form L) (t : ParseTree) (f : Form L) (k : Kind) → Solid f → DerivesLongest rule t f → yield t ≡ [] → can_continue rule t f k ≡ true → first_set f k ≡ true
none_starts rule (Pair a b) (Seq f g) k solid fits none e =
    let parts = append_none (yield a) (yield b) none in
    elim (or_cases (can_continue rule b g k) (is_blank (yield b) && can_continue rule a f k) e) [
      | inl h ↦ or_and_right (first_set f k) (nullable f) (first_set g k) (none_nullable f (yield a) (fits_front rule a f solid.0 fits.0) parts.0) (none_starts rule b g k solid.1 fits.1 parts.1 h)
      | inr h ↦ or_left _ _ (none_starts rule a f k solid.0 fits.0 parts.0 (and_true (is_blank (yield b)) (can_continue rule a f k) h).1)
    ]
none_starts rule (Left a) (Alt f g) k solid fits none e = or_left _ _ (none_starts rule a f k solid.0 fits none e)
none_starts rule (Right b) (Alt f g) k solid fits none e = elim (or_cases (can_continue rule b g k) (is_blank (yield b) && first_set f k) e) [
  | inl h ↦ or_right _ _ (none_starts rule b g k solid.1 fits none h)
  | inr h ↦ or_left _ _ (and_true (is_blank (yield b)) (first_set f k) h).1
]
none_starts rule (Single a) (Repeat f g) k solid fits none e = elim (or_cases (can_continue rule a f k) (first_set g k) e) [
  | inl h ↦ or_left _ _ (none_starts rule a f k solid.0 fits none h)
  | inr h ↦ or_and_right (first_set f k) (nullable f) (first_set g k) (none_nullable f (yield a) (fits_front rule a f solid.0 fits) none) h
]
none_starts rule (Snoc t b) (Repeat f g) k solid fits none e =
    let parts = append_none (yield t) (yield b) none in
    let empty : is_blank (yield b) ≡ true = none_blank (yield b) parts.1 in
    let full : is_blank (yield b) ≡ false = full_blank g (yield b) solid.2 (fits_front rule b g solid.1 fits.1) in
    absurd cc
none_starts rule (Deeper w t) (Nested p n) k solid fits none e = absurd cc
none_starts rule (Leaf w) (Terminal p) k solid fits none e = absurd cc
none_starts rule NoWords Epsilon k solid fits none e = absurd cc
none_starts rule _ _ k solid fits none e = absurd fits

module _ {L : Type 0} (rule : L → Form L) (model : L → ParseTree) (after : L → Kind → Bool) (checked : Checked rule model after) where
  nothing : (f : Form L) → check model after f ≡ true → nullable f ≡ true → Nothing rule f
  nothing (Terminal p) e n = absurd cc
  nothing Epsilon e n = record { tree = NoWords; fits = tt; empty = refl }
  nothing (Seq f g) e n =
      let h = and_true _ _ e in
      let both = and_true _ _ h.0 in
      let empty = and_true _ _ n in
      let a = nothing f both.0 empty.0 in
      let b = nothing g both.1 empty.1 in
      record { tree = Pair a.tree b.tree; fits = (a.fits, b.fits, begins_none (can_continue rule a.tree f) (yield b.tree) b.empty); empty = rw (a.empty, b.empty) refl }
  nothing (Alt f g) e n =
      let h = and_true _ _ e in
      let both = and_true _ _ h.0 in
      let full : nullable f ≡ false = not_true _ (and_true _ _ h.1).0 in
      let b = nothing g both.1 (let m : (nullable f || nullable g) ≡ true = n in rw full at m) in
      record { tree = Right b.tree; fits = b.fits; empty = b.empty }
  nothing (Repeat f g) e n =
      let h = and_true _ _ e in
      let both = and_true _ _ h.0 in
      let a = nothing f both.0 n in
      record { tree = Single a.tree; fits = a.fits; empty = a.empty }
  nothing (Nested p n') e n = absurd cc

  -- a tree that begins with a word that starts the form
  started : (f : Form L) (w : Word) → check model after f ≡ true → first_set f (kind_of w) ≡ true → Goes rule f (w ∷ [])
  started (Terminal p) w e s = record { tree = Leaf w; more = []; fits = s; front = refl }
  started Epsilon w e s = absurd cc
  started (Seq f g) w e s =
      let h = and_true _ _ e in
      let both = and_true _ _ h.0 in
      let sample = sample_of rule model after checked f g e in
      elim (bool_cases (first_set f (kind_of w))) [
        | inl here ↦
            let a = started f w both.0 here in
            record { tree = Pair a.tree sample.tree; more = a.more ++ yield sample.tree; fits = (a.fits, sample.fits, sample.apart a.tree a.fits); front = rw a.front refl }
        | inr none ↦
            let second : (nullable f && first_set g (kind_of w)) ≡ true = rw none at s in
            let parts = and_true (nullable f) (first_set g (kind_of w)) second in
            let a = nothing f both.0 parts.0 in
            let b = started g w both.1 parts.1 in
            let stop : can_continue rule a.tree f (kind_of w) ≡ false = elim (bool_cases (can_continue rule a.tree f (kind_of w))) [
              | inl on ↦ let yes = none_starts rule a.tree f (kind_of w) (solid_of rule model after f both.0) a.fits a.empty on in absurd cc
              | inr off ↦ off
            ] in
            record { tree = Pair a.tree b.tree; more = b.more; fits = (a.fits, b.fits, begins_word (can_continue rule a.tree f) (yield b.tree) b.more w b.front stop); front = rw (a.empty, b.front) refl }
      ]
  started (Alt f g) w e s =
      let h = and_true _ _ e in
      let both = and_true _ _ h.0 in
      elim (or_cases (first_set f (kind_of w)) (first_set g (kind_of w)) s) [
        | inl here ↦ let a = started f w both.0 here in record { tree = Left a.tree; more = a.more; fits = a.fits; front = a.front }
        | inr here ↦ let b = started g w both.1 here in record { tree = Right b.tree; more = b.more; fits = b.fits; front = b.front }
      ]
  started (Repeat f g) w e s =
      let h = and_true _ _ e in
      let both = and_true _ _ h.0 in
      elim (bool_cases (first_set f (kind_of w))) [
        | inl here ↦ let a = started f w both.0 here in record { tree = Single a.tree; more = a.more; fits = a.fits; front = a.front }
        | inr none ↦
            let second : (nullable f && first_set g (kind_of w)) ≡ true = rw none at s in
            let parts = and_true (nullable f) (first_set g (kind_of w)) second in
            let a = nothing f both.0 parts.0 in
            let b = started g w both.1 parts.1 in
            let stop : can_continue rule a.tree f (kind_of w) ≡ false = elim (bool_cases (can_continue rule a.tree f (kind_of w))) [
              | inl on ↦ let yes = none_starts rule a.tree f (kind_of w) (solid_of rule model after f both.0) a.fits a.empty on in absurd cc
              | inr off ↦ off
            ] in
            record { tree = Snoc (Single a.tree) b.tree; more = b.more; fits = (a.fits, b.fits, begins_word (can_continue rule a.tree f) (yield b.tree) b.more w b.front stop); front = rw (a.empty, b.front) refl }
      ]
  started (Nested p n) w e s = record { tree = Deeper w (model n); more = yield (model n); fits = (s, checked.fits n); front = refl }

  tail : (a b more : List Word) (w : Word) (c : List Word) → b ≡ c ++ w ∷ more → a ++ b ≡ (a ++ c) ++ w ∷ more
  tail a b more w c e = rw e (sym (append_assoc a c (w ∷ more)))

  chain_checks : (f g : Form L) → check model after (Repeat f g) ≡ true → (check model after f ≡ true) × (check model after g ≡ true)
  chain_checks f g e = and_true _ _ (and_true _ _ e).0

  blank_tail : (a b x more last : List Word) (w : Word) → b ≡ [] → x ≡ a ++ w ∷ more → x ++ last ≡ (a ++ b) ++ w ∷ (more ++ last)
  blank_tail a b x more last w none e = rw (e, none, append-nil a) (append_assoc a (w ∷ more) last)

  blank_front : (b x more : List Word) (w : Word) → b ≡ [] → x ≡ w ∷ more → x ≡ b ++ w ∷ more
  blank_front b x more w none e = rw none e

  -- what goes on with a tree does so in a sentence
  gone_on : (t : ParseTree) (f : Form L) (w : Word) → check model after f ≡ true → DerivesLongest rule t f → can_continue rule t f (kind_of w) ≡ true → (end : ParseTree) × (more : List Word) × DerivesLongest rule end f × (yield end ≡ yield t ++ w ∷ more)
  gone_on (Pair a b) (Seq f g) w e fits on =
      let h = and_true _ _ e in
      let both = and_true _ _ h.0 in
      let sample = sample_of rule model after checked f g e in
      elim (bool_cases (is_blank (yield b) && can_continue rule a f (kind_of w))) [
        | inl first ↦
            let parts = and_true (is_blank (yield b)) (can_continue rule a f (kind_of w)) first in
            let none : yield b ≡ [] = blank_is (yield b) parts.0 in
            let x = gone_on a f w both.0 fits.0 parts.1 in
            (Pair x.0 sample.tree, x.1 ++ yield sample.tree, (x.2, sample.fits, sample.apart x.0 x.2), blank_tail (yield a) (yield b) (yield x.0) x.1 (yield sample.tree) w none x.3)
        | inr second ↦
            let goes : can_continue rule b g (kind_of w) ≡ true = elim (or_cases (can_continue rule b g (kind_of w)) (is_blank (yield b) && can_continue rule a f (kind_of w)) on) [ inl x ↦ x | inr x ↦ absurd cc ] in
            let y = gone_on b g w both.1 fits.1 goes in
            let stop : begins (can_continue rule a f) (yield b ++ w ∷ y.1) ≡ false = begins-append (can_continue rule a f) (yield b) (w ∷ y.1) fits.2 (λ blank. let s : (is_blank (yield b) && can_continue rule a f (kind_of w)) ≡ false = second in rw blank at s) in
            (Pair a y.0, y.1, (fits.0, y.2, rw y.3 stop), tail (yield a) (yield y.0) y.1 w (yield b) y.3)
      ]
  gone_on (Left a) (Alt f g) w e fits on =
      let h = and_true _ _ e in
      let both = and_true _ _ h.0 in
      let x = gone_on a f w both.0 fits on in
      (Left x.0, x.1, x.2, x.3)
  gone_on (Right b) (Alt f g) w e fits on =
      let h = and_true _ _ e in
      let both = and_true _ _ h.0 in
      elim (or_cases (can_continue rule b g (kind_of w)) (is_blank (yield b) && first_set f (kind_of w)) on) [
        | inl goes ↦ let y = gone_on b g w both.1 fits goes in (Right y.0, y.1, y.2, y.3)
        | inr first ↦
            let parts = and_true (is_blank (yield b)) (first_set f (kind_of w)) first in
            let x = started f w both.0 parts.1 in
            let none : yield b ≡ [] = blank_is (yield b) parts.0 in
            (Left x.tree, x.more, x.fits, blank_front (yield b) (yield x.tree) x.more w none x.front)
      ]
  gone_on (Single a) (Repeat f g) w e fits on =
      let both = chain_checks f g e in
      elim (bool_cases (can_continue rule a f (kind_of w))) [
        | inl goes ↦ let x = gone_on a f w both.0 fits goes in (Single x.0, x.1, x.2, x.3)
        | inr off ↦
            let next : first_set g (kind_of w) ≡ true = elim (or_cases (can_continue rule a f (kind_of w)) (first_set g (kind_of w)) on) [ inl x ↦ absurd cc | inr x ↦ x ] in
            let y = started g w both.1 next in
            (Snoc (Single a) y.tree, y.more, (fits, y.fits, begins_word (can_continue rule a f) (yield y.tree) y.more w y.front off), rw y.front refl)
      ]
  gone_on (Snoc t b) (Repeat f g) w e fits on =
      let both = chain_checks f g e in
      elim (bool_cases (can_continue rule b g (kind_of w))) [
        | inl goes ↦
            let y = gone_on b g w both.1 fits.1 goes in
            let solid = solid_of rule model after (Repeat f g) e in
            let full : is_blank (yield b) ≡ false = full_blank g (yield b) solid.2 (fits_front rule b g solid.1 fits.1) in
            let stop : begins (can_continue_in rule t (Repeat f g)) (yield b ++ w ∷ y.1) ≡ false = begins-append (can_continue_in rule t (Repeat f g)) (yield b) (w ∷ y.1) fits.2 (λ blank. absurd cc) in
            (Snoc t y.0, y.1, (fits.0, y.2, rw y.3 stop), tail (yield t) (yield y.0) y.1 w (yield b) y.3)
        | inr off ↦
            let next : first_set g (kind_of w) ≡ true = elim (or_cases (can_continue rule b g (kind_of w)) (first_set g (kind_of w)) on) [ inl x ↦ absurd cc | inr x ↦ x ] in
            let y = started g w both.1 next in
            (Snoc (Snoc t b) y.tree, y.more, (fits, y.fits, begins_word (can_continue rule b g) (yield y.tree) y.more w y.front off), rw y.front refl)
      ]
  gone_on (Deeper v t) (Nested p n) w e fits on =
      let x = gone_on t (rule n) w (checked.checks n) fits.1 on in
      (Deeper v x.0, x.1, (fits.0, x.2), ap (λ (u : List Word). v ∷ u) x.3)
  gone_on (Leaf v) (Terminal p) w e fits on = absurd cc
  gone_on NoWords Epsilon w e fits on = absurd cc
  gone_on _ _ w e fits on = absurd fits

  not_got : (d : Option (List Word)) (t end : ParseTree) (w : Word) (more : List Word) → outcome d t [] ≡ Parsed end (w ∷ more) → ⊥
  not_got None t end w more e = cc
  not_got (Some u) t end w more e = cc

  not_bad : (d : Option (List Word)) (t : ParseTree) (u rest : List Word) → outcome d t u ≡ Failed Bad rest → ⊥
  not_bad None t u rest e = cc
  not_bad (Some v) t u rest e = cc

  module _ (k : ℕ) (f : Form L) (ok : check model after f ≡ true) where
    reads : Good rule k f (read rule k f)
    reads = good rule model after checked k f ok

    -- what a sentence is read as
    pub whole : (t : ParseTree) → DerivesLongest rule t f → read rule k f (yield t) ≡ outcome (too_deep t k) t []
    whole t fits = subst (λ (ws : List Word). read rule k f ws ≡ outcome (too_deep t k) t []) (append-nil (yield t)) (reads.again t [] fits refl)

    got_last : (t : ParseTree) (rest : List Word) → DerivesLongest rule t f → too_deep t k ≡ None → begins (can_continue rule t f) rest ≡ false → IsLast rule f (yield t) rest
    got_last t [] fits levels stops = tt
    got_last t (w ∷ u) fits levels stops = λ b.
        let again : read rule k f (yield t ++ w ∷ b.1) ≡ Parsed t (w ∷ b.1) = taken_again rule k f (read rule k f) reads t (w ∷ b.1) fits levels stops in
        let same : yield b.0 ≡ yield t ++ w ∷ b.1 = b.3 ∙ append_assoc (yield t) (w ∷ []) b.1 in
        let sentence : read rule k f (yield t ++ w ∷ b.1) ≡ outcome (too_deep b.0 k) b.0 [] = rw same at (whole b.0 b.2) in
        not_got (too_deep b.0 k) b.0 t w b.1 (sym sentence ∙ again)

    pub got_is_read : (words : List Word) (t : ParseTree) (rest : List Word) → read rule k f words ≡ Parsed t rest → IsRead rule k f words t rest
    got_is_read words t rest e =
        let taken = reads.got words t rest e in
        record { fits = taken.fits; front = taken.front; levels = taken.shallow; longest = got_last t rest taken.fits taken.shallow taken.stops }

    last_stops : (t : ParseTree) (rest : List Word) → DerivesLongest rule t f → IsLast rule f (yield t) rest → begins (can_continue rule t f) rest ≡ false
    last_stops t [] fits last = refl
    last_stops t (w ∷ u) fits last = elim (bool_cases (can_continue rule t f (kind_of w))) [
      | inl on ↦ let x = gone_on t f w ok fits on in absurd (last (x.0, x.1, x.2, x.3 ∙ sym (append_assoc (yield t) (w ∷ []) x.1)))
      | inr off ↦ off
    ]

    pub read_is_got : (words : List Word) (t : ParseTree) (rest : List Word) → IsRead rule k f words t rest → read rule k f words ≡ Parsed t rest
    read_is_got words t rest h = rw h.front (taken_again rule k f (read rule k f) reads t rest h.fits h.levels (last_stops t rest h.fits h.longest))

    bad_last : (before rest : List Word) → ((other : List Word) → first_word rest ≡ first_word other → read rule k f (before ++ other) ≡ Failed Bad other) → IsLast rule f before rest
    unfolding first_word
    bad_last before [] local = tt
    bad_last before (w ∷ u) local = λ b.
        let failed : read rule k f (before ++ w ∷ b.1) ≡ Failed Bad (w ∷ b.1) = local (w ∷ b.1) refl in
        let same : yield b.0 ≡ before ++ w ∷ b.1 = b.3 ∙ append_assoc before (w ∷ []) b.1 in
        let sentence : read rule k f (before ++ w ∷ b.1) ≡ outcome (too_deep b.0 k) b.0 [] = rw same at (whole b.0 b.2) in
        not_bad (too_deep b.0 k) b.0 [] (w ∷ b.1) (sym sentence ∙ failed)

    bad_unfinished : (before rest : List Word) → read rule k f (before ++ rest) ≡ Failed Bad rest → IsLast rule f before rest → (t : ParseTree) → DerivesLongest rule t f → yield t ≢ before
    bad_unfinished before rest e last t fits same =
        let stops : begins (can_continue rule t f) rest ≡ false = last_stops t rest fits (rw same last) in
        let sentence : read rule k f (before ++ rest) ≡ outcome (too_deep t k) t rest = rw same at (reads.again t rest fits stops) in
        not_bad (too_deep t k) t rest rest (sym sentence ∙ e)

    pub fault_is_bad : (words rest : List Word) → read rule k f words ≡ Failed Bad rest → IsBad rule k f words rest
    fault_is_bad words rest e =
        let stopped = reads.fault words Bad rest e in
        let b = stopped.begun in
        let last = bad_last stopped.before rest stopped.local in
        record {
          before = stopped.before;
          front = stopped.front;
          begun = (b.tree, b.more, b.fits, b.front, b.place);
          unfinished = bad_unfinished stopped.before rest (stopped.local rest refl) last;
          last = last;
        }

    pub fault_is_too_deep : (words rest : List Word) → read rule k f words ≡ Failed TooDeep rest → IsTooDeep rule k f words rest
    fault_is_too_deep words rest e =
        let stopped = reads.fault words TooDeep rest e in
        let b = stopped.begun in
        let p = b.place in
        record {
          before = stopped.before;
          opener = p.0;
          behind = p.1;
          tree = b.tree;
          more = p.2;
          front = stopped.front;
          opens = p.3;
          fits = b.fits;
          begun = b.front ∙ ap (λ (v : List Word). stopped.before ++ v) p.4;
          levels = p.5 ∙ ap (λ (v : List Word). Some v) p.4;
        }
