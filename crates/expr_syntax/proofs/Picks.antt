-- Reading a choice of several forms where the next word begins one of them, and a level by its opening word.
use Rattle.std.proofs.Common.{◌≡◌, ℕ, zero, suc, ◌+◌, Bool, true, false, cond, ◌&&◌, List, [], ◌∷◌, refl, ap, ◌∙◌, arith}
use Rattle.conf_lex.specs.declared.word.Word.{Word}
use Rattle.conf_lex.specs.Kind.{Kind, kind_of}
use Rattle.conf_lex.specs.Grammar.{Terminal, Epsilon, Seq, Alt, Repeat, Nested, ParseTree, Leaf, Left, Right, Deeper, begins, first_set, Bad, TooDeep}
use Rattle.conf_lex.specs.Reading.{Read, Parsed, Failed, and_then, word, both, read}
use Rattle.conf_lex.specs.Agrees.{AgreesOnError}
use Rattle.conf_lex.specs.declared.refusal.Refusal.{Refusal}
use Rattle.conf_lex.specs.declared.refusal.Refusal.TheVariants as refusals
use Rattle.conf_lex.proofs.Checks.{all_in, is_kind, kinds, not, and_true, not_true, or_left, or_right}
use Rattle.expr_syntax.specs.Syntax.{rule}
use Rattle.expr_syntax.specs.Levels.{Level, Form}
use Rattle.expr_syntax.specs.Rows.{nth, beyond}
use Rattle.expr_syntax.proofs.Tested.{is_checked}

-- the n-th of several forms, and those from the n-th on
abbrev pub alternative : ℕ → Form → Form
alternative zero (Alt f g) = f
alternative (suc n) (Alt f g) = alternative n g
alternative n f = f

abbrev pub rest_of : ℕ → Form → Form
rest_of zero f = f
rest_of (suc n) (Alt f g) = rest_of n g
rest_of (suc n) f = f

-- whether there are so many
abbrev pub reaches : ℕ → Form → Bool
reaches zero f = true
reaches (suc n) (Alt f g) = reaches n g
reaches (suc n) f = false

pub maps2 : (x : Read) (f g : ParseTree → ParseTree) → and_then (and_then x (λ a u. Parsed (f a) u)) (λ a u. Parsed (g a) u) ≡ and_then x (λ a u. Parsed (g (f a)) u)
maps2 (Parsed a u) f g = refl
maps2 (Failed why u) f g = refl

pub first_read : (k : ℕ) (f g : Form) (ws : List Word) → begins (first_set f) ws ≡ true → read rule k (Alt f g) ws ≡ and_then (read rule k f ws) (λ t u. Parsed (Left t) u)
first_read zero f g ws here = rw here refl
first_read (suc k) f g ws here = rw here refl

pub second_read : (k : ℕ) (f g : Form) (ws : List Word) → begins (first_set f) ws ≡ false → read rule k (Alt f g) ws ≡ and_then (read rule k g ws) (λ t u. Parsed (Right t) u)
second_read zero f g ws none = rw none refl
second_read (suc k) f g ws none = rw none refl

pub seq_read : (k : ℕ) (f g : Form) (ws : List Word) → read rule k (Seq f g) ws ≡ both (read rule k f) (read rule k g) ws
seq_read zero f g ws = refl
seq_read (suc k) f g ws = refl

not_both : (a b : Bool) → (a && b) ≡ false → b ≡ true → a ≡ false
not_both true b none here = absurd cc
not_both false b none here = refl

pub apart : (f g : Form) → is_checked (Alt f g) → (ws : List Word) → begins (first_set g) ws ≡ true → begins (first_set f) ws ≡ false
apart f g ok [] here = absurd cc
apart f g ok (w ∷ ws) here =
    let choice = and_true _ _ (and_true _ _ ok).1 in
    not_both (first_set f (kind_of w)) (first_set g (kind_of w)) (not_true _ (all_in (λ j. not (first_set f j && first_set g j)) (kind_of w) kinds (is_kind (kind_of w)) choice.1)) here

starts_rest : (n : ℕ) (f : Form) → reaches n f ≡ true → (ws : List Word) → begins (first_set (rest_of n f)) ws ≡ true → begins (first_set f) ws ≡ true
starts_rest zero f there ws here = here
starts_rest (suc n) (Alt f g) there [] here = absurd cc
starts_rest (suc n) (Alt f g) there (w ∷ ws) here = or_right (first_set f (kind_of w)) (first_set g (kind_of w)) (starts_rest n g there (w ∷ ws) here)
starts_rest (suc n) (Terminal p) there ws here = absurd cc
starts_rest (suc n) Epsilon there ws here = absurd cc
starts_rest (suc n) (Seq f g) there ws here = absurd cc
starts_rest (suc n) (Repeat f g) there ws here = absurd cc
starts_rest (suc n) (Nested p m) there ws here = absurd cc

same_read : (x : Read) → x ≡ and_then x (λ t u. Parsed t u)
same_read (Parsed t u) = refl
same_read (Failed why u) = refl

-- from the n-th on
pub rest_read : (n k : ℕ) (f : Form) → is_checked f → reaches n f ≡ true → (ws : List Word) → begins (first_set (rest_of n f)) ws ≡ true → read rule k f ws ≡ and_then (read rule k (rest_of n f) ws) (λ t u. Parsed (beyond n t) u)
rest_read zero k f ok there ws here = same_read (read rule k f ws)
rest_read (suc n) k (Alt f g) ok there ws here =
    second_read k f g ws (apart f g ok ws (starts_rest n g there ws here))
    ∙ ap (λ (x : Read). and_then x (λ t u. Parsed (Right t) u)) (rest_read n k g (and_true _ _ (and_true _ _ ok).0).1 there ws here)
    ∙ maps2 (read rule k (rest_of n g) ws) (λ t. beyond n t) (λ t. Right t)
rest_read (suc n) k (Terminal p) ok there ws here = absurd cc
rest_read (suc n) k Epsilon ok there ws here = absurd cc
rest_read (suc n) k (Seq f g) ok there ws here = absurd cc
rest_read (suc n) k (Repeat f g) ok there ws here = absurd cc
rest_read (suc n) k (Nested p m) ok there ws here = absurd cc

beyond_first : (n : ℕ) (t : ParseTree) → beyond n (Left t) ≡ nth n t
beyond_first zero t = refl
beyond_first (suc n) t = ap (λ (x : ParseTree). Right x) (beyond_first n t)

nth_read : (n : ℕ) (x : Read) → and_then (and_then x (λ t u. Parsed (Left t) u)) (λ t u. Parsed (beyond n t) u) ≡ and_then x (λ t u. Parsed (nth n t) u)
nth_read n (Parsed t u) = ap (λ (x : ParseTree). Parsed x u) (beyond_first n t)
nth_read n (Failed why u) = refl

starts_first : (f g : Form) (ws : List Word) → begins (first_set f) ws ≡ true → begins (first_set (Alt f g)) ws ≡ true
starts_first f g [] here = absurd cc
starts_first f g (w ∷ ws) here = or_left (first_set f (kind_of w)) (first_set g (kind_of w)) here

-- the n-th
pub picked : (n k : ℕ) (f g h : Form) → is_checked f → reaches n f ≡ true → rest_of n f ≡ Alt g h → (ws : List Word) → begins (first_set g) ws ≡ true → read rule k f ws ≡ and_then (read rule k g ws) (λ t u. Parsed (nth n t) u)
picked n k f g h ok there is ws here =
    rest_read n k f ok there ws (rw is (starts_first g h ws here))
    ∙ ap (λ (i : Form). and_then (read rule k i ws) (λ t u. Parsed (beyond n t) u)) is
    ∙ ap (λ (x : Read). and_then x (λ t u. Parsed (beyond n t) u)) (first_read k g h ws here)
    ∙ nth_read n (read rule k g ws)

-- ---- a level

pub nested_deep : (k : ℕ) (n : Level) (p : Kind → Bool) (ws : List Word) (w : Word) (u : List Word) → k ≡ 0 → ws ≡ w ∷ u → p (kind_of w) ≡ true → read rule k (Nested p n) ws ≡ Failed TooDeep ws
nested_deep zero n p ws w u none is passes = rw (is, passes) refl
nested_deep (suc k) n p ws w u none is passes = absurd (omega arith)

pub nested_is : (k b : ℕ) (n : Level) (p : Kind → Bool) (ws : List Word) (w : Word) (u : List Word) → b + 1 ≡ k → ws ≡ w ∷ u → p (kind_of w) ≡ true → read rule k (Nested p n) ws ≡ and_then (read rule b (rule n) u) (λ t v. Parsed (Deeper w t) v)
nested_is zero b n p ws w u below is passes = absurd (omega arith)
nested_is (suc k) b n p ws w u below is passes = let same : k ≡ b = omega arith in rw (is, passes, ← same) refl

pub nested_fails : (k : ℕ) (n : Level) (p : Kind → Bool) (ws : List Word) (e : Refusal) → AgreesOnError e (word p ws) → AgreesOnError e (read rule k (Nested p n) ws)
nested_fails k n p ws refusals.Memory failed = tt
nested_fails zero n p [] (refusals.Bad at) failed = failed
nested_fails (suc k) n p [] (refusals.Bad at) failed = failed
nested_fails zero n p (w ∷ ws) (refusals.Bad at) failed = cases (p (kind_of w)) failed
  where
    cases : (b : Bool) → cond b (Parsed (Leaf w) ws) (Failed Bad (w ∷ ws)) ≡ Failed Bad at.now → cond b (Failed TooDeep (w ∷ ws)) (Failed Bad (w ∷ ws)) ≡ Failed Bad at.now
    cases true h = absurd cc
    cases false h = h
nested_fails (suc k) n p (w ∷ ws) (refusals.Bad at) failed = cases (p (kind_of w)) failed
  where
    cases : (b : Bool) → cond b (Parsed (Leaf w) ws) (Failed Bad (w ∷ ws)) ≡ Failed Bad at.now → cond b (and_then (read rule k (rule n) ws) (λ a rest. Parsed (Deeper w a) rest)) (Failed Bad (w ∷ ws)) ≡ Failed Bad at.now
    cases true h = absurd cc
    cases false h = h
nested_fails k n p [] (refusals.TooDeep at) failed = absurd cc
nested_fails k n p (w ∷ ws) (refusals.TooDeep at) failed = absurd (never (p (kind_of w)) failed)
  where
    never : (b : Bool) → cond b (Parsed (Leaf w) ws) (Failed Bad (w ∷ ws)) ≡ Failed TooDeep at.now → ⊥
    never true h = cc
    never false h = cc
