-- In a sentence no colon comes behind an `else`: both are one sign.
use Rattle.std.proofs.Common.{◌≡◌, Bool, true, false, ◌&&◌, ◌||◌, List, [], ◌∷◌, ◌++◌, refl, sym, ap, ◌∙◌, inl, inr, ◌⊎◌}
use Rattle.conf_lex.specs.declared.symbol.Symbol.TheVariants as symbols
use Rattle.conf_lex.specs.declared.word.Word.{Word}
use Rattle.conf_lex.specs.Kind.{Kind, IsSymbol, kind_of}
use Rattle.conf_lex.specs.Grammar.{Terminal, Epsilon, Seq, Alt, Repeat, Nested, ParseTree, Leaf, NoWords, Pair, Left, Right, Single, Snoc, Deeper, nullable, first_set, yield, Derives}
use Rattle.conf_lex.proofs.Checks.{and_true, not, not_true}
use Rattle.conf_lex.proofs.Unique.{fronts}
use Rattle.expr_syntax.specs.Syntax.{rule}
use Rattle.expr_syntax.specs.Levels.{Level, Form, group_level}
use Rattle.conf_syntax.specs.Syntax.{config}

abbrev else_kind : Kind
else_kind = IsSymbol symbols.Else

abbrev colon_kind : Kind
colon_kind = IsSymbol symbols.Colon

-- the form may end in `else`; no level does
abbrev ends : Form → Bool
ends (Terminal p) = p else_kind
ends Epsilon = false
ends (Seq f g) = ends g || (nullable g && ends f)
ends (Alt f g) = ends f || ends g
ends (Repeat f g) = ends f || ends g
ends (Nested p n) = nullable (rule n) && p else_kind

abbrev safe : Form → Bool
safe (Terminal p) = true
safe Epsilon = true
safe (Seq f g) = (safe f && safe g) && not (ends f && first_set g colon_kind)
safe (Alt f g) = safe f && safe g
safe (Repeat f g) = (safe f && safe g) && not ((ends f || ends g) && first_set g colon_kind)
safe (Nested p n) = not (p else_kind && first_set (rule n) colon_kind)

levels_safe : (n : Level) → (safe (rule n) && not (ends (rule n))) ≡ true
levels_safe group_level = refl
levels_safe _ = refl

-- ---- booleans and lists

or_left : (a b : Bool) → a ≡ true → (a || b) ≡ true
or_left a b e = rw e refl

or_right : (a b : Bool) → b ≡ true → (a || b) ≡ true
or_right true b e = refl
or_right false b e = e

both_true : (a b : Bool) → a ≡ true → b ≡ true → (a && b) ≡ true
both_true a b e h = rw (e, h) refl

never_both : (a b : Bool) → not (a && b) ≡ true → a ≡ true → b ≡ true → ⊥
never_both true true e h g = let never : false ≡ true = e in cc
never_both true false e h g = cc
never_both false b e h g = cc

none_both : (xs ys : List Word) → xs ++ ys ≡ [] → (xs ≡ []) × (ys ≡ [])
none_both [] ys e = (refl, e)
none_both (x ∷ xs) ys e = absurd cc

no_end : (xs : List Word) (w : Word) (ys : List Word) → xs ++ w ∷ ys ≡ [] → ⊥
no_end [] w ys e = cc
no_end (x ∷ xs) w ys e = cc

-- ---- first and last words

is_empty : (t : ParseTree) (f : Form) → Derives rule t f → yield t ≡ [] → nullable f ≡ true
is_empty (Leaf w) (Terminal p) h e = absurd cc
is_empty NoWords Epsilon h e = refl
is_empty (Pair a b) (Seq f g) h e = let n = none_both (yield a) (yield b) e in both_true (nullable f) (nullable g) (is_empty a f h.0 n.0) (is_empty b g h.1 n.1)
is_empty (Left a) (Alt f g) h e = or_left (nullable f) (nullable g) (is_empty a f h e)
is_empty (Right b) (Alt f g) h e = or_right (nullable f) (nullable g) (is_empty b g h e)
is_empty (Single a) (Repeat f g) h e = is_empty a f h e
is_empty (Snoc t b) (Repeat f g) h e = is_empty t (Repeat f g) h.0 (none_both (yield t) (yield b) e).0
is_empty (Deeper w t) (Nested p n) h e = absurd cc
is_empty _ _ h e = absurd h

abbrev First_in : List Word → List Word → Word → List Word → Type 0
First_in xs ys w ws = ((us : List Word) × (xs ≡ w ∷ us)) ⊎ ((xs ≡ []) × (ys ≡ w ∷ ws))

first_in : (xs ys : List Word) (w : Word) (ws : List Word) → xs ++ ys ≡ w ∷ ws → First_in xs ys w ws
first_in [] ys w ws e = inr (refl, e)
first_in (x ∷ xs) ys w ws e = let head : x ≡ w = cc in inl (xs, ap (λ (u : Word). u ∷ xs) head)

begins_with : (t : ParseTree) (f : Form) → Derives rule t f → (w : Word) (ws : List Word) → yield t ≡ w ∷ ws → first_set f (kind_of w) ≡ true
begins_with (Leaf v) (Terminal p) h w ws e = let same : v ≡ w = cc in ap (λ (u : Word). p (kind_of u)) (sym same) ∙ h
begins_with NoWords Epsilon h w ws e = absurd cc
begins_with (Pair a b) (Seq f g) h w ws e = elim (first_in (yield a) (yield b) w ws e) [
  | inl x ↦ or_left (first_set f (kind_of w)) (nullable f && first_set g (kind_of w)) (begins_with a f h.0 w x.0 x.1)
  | inr y ↦ or_right (first_set f (kind_of w)) (nullable f && first_set g (kind_of w)) (both_true (nullable f) (first_set g (kind_of w)) (is_empty a f h.0 y.0) (begins_with b g h.1 w ws y.1))
]
begins_with (Left a) (Alt f g) h w ws e = or_left (first_set f (kind_of w)) (first_set g (kind_of w)) (begins_with a f h w ws e)
begins_with (Right b) (Alt f g) h w ws e = or_right (first_set f (kind_of w)) (first_set g (kind_of w)) (begins_with b g h w ws e)
begins_with (Single a) (Repeat f g) h w ws e = or_left (first_set f (kind_of w)) (nullable f && first_set g (kind_of w)) (begins_with a f h w ws e)
begins_with (Snoc t b) (Repeat f g) h w ws e = elim (first_in (yield t) (yield b) w ws e) [
  | inl x ↦ begins_with t (Repeat f g) h.0 w x.0 x.1
  | inr y ↦ or_right (first_set f (kind_of w)) (nullable f && first_set g (kind_of w)) (both_true (nullable f) (first_set g (kind_of w)) (is_empty t (Repeat f g) h.0 y.0) (begins_with b g h.1 w ws y.1))
]
begins_with (Deeper v t) (Nested p n) h w ws e = let same : v ≡ w = cc in ap (λ (u : Word). p (kind_of u)) (sym same) ∙ h.0
begins_with _ _ h w ws e = absurd h

-- the last word of two parts is that of the second, or the second has none
abbrev Last_in : List Word → List Word → List Word → Word → Type 0
Last_in xs ys front w = ((us : List Word) × (ys ≡ us ++ w ∷ [])) ⊎ ((ys ≡ []) × (xs ≡ front ++ w ∷ []))

last_in : (xs ys front : List Word) (w : Word) → xs ++ ys ≡ front ++ w ∷ [] → Last_in xs ys front w
last_in xs ys front w e = elim (fronts xs ys front (w ∷ []) e) [
  | inl same ↦ inl ([], same.1)
  | inr x ↦ elim x [
    | inl l ↦
        let tail : w ∷ [] ≡ l.word ∷ (l.more ++ ys) = l.rest in
        let none : l.more ++ ys ≡ [] = cc in
        let head : w ≡ l.word = cc in
        let n = none_both l.more ys none in
        inr (n.1, l.front ∙ ap (λ (u : List Word). front ++ l.word ∷ u) n.0 ∙ ap (λ (u : Word). front ++ u ∷ []) (sym head))
    | inr l ↦ inl (l.word ∷ l.more, l.rest)
  ]
]

one_last : (v w : Word) (front : List Word) → v ∷ [] ≡ front ++ w ∷ [] → v ≡ w
one_last v w [] e = cc
one_last v w (x ∷ front) e = absurd (no_end front w [] (let tail : [] ≡ front ++ w ∷ [] = cc in sym tail))

ends_in : (t : ParseTree) (f : Form) → Derives rule t f → (front : List Word) (w : Word) → yield t ≡ front ++ w ∷ [] → kind_of w ≡ else_kind → ends f ≡ true
ends_in (Leaf v) (Terminal p) h front w e is = ap p (sym is) ∙ ap (λ (u : Word). p (kind_of u)) (sym (one_last v w front e)) ∙ h
ends_in NoWords Epsilon h front w e is = absurd (no_end front w [] (sym e))
ends_in (Pair a b) (Seq f g) h front w e is = elim (last_in (yield a) (yield b) front w e) [
  | inl x ↦ or_left (ends g) (nullable g && ends f) (ends_in b g h.1 x.0 w x.1 is)
  | inr y ↦ or_right (ends g) (nullable g && ends f) (both_true (nullable g) (ends f) (is_empty b g h.1 y.0) (ends_in a f h.0 front w y.1 is))
]
ends_in (Left a) (Alt f g) h front w e is = or_left (ends f) (ends g) (ends_in a f h front w e is)
ends_in (Right b) (Alt f g) h front w e is = or_right (ends f) (ends g) (ends_in b g h front w e is)
ends_in (Single a) (Repeat f g) h front w e is = or_left (ends f) (ends g) (ends_in a f h front w e is)
ends_in (Snoc t b) (Repeat f g) h front w e is = elim (last_in (yield t) (yield b) front w e) [
  | inl x ↦ or_right (ends f) (ends g) (ends_in b g h.1 x.0 w x.1 is)
  | inr y ↦ ends_in t (Repeat f g) h.0 front w y.1 is
]
ends_in (Deeper v t) (Nested p n) h front w e is = elim (last_in (v ∷ []) (yield t) front w e) [
  | inl x ↦
      let level = and_true (safe (rule n)) (not (ends (rule n))) (levels_safe n) in
      let never : ends (rule n) ≡ false = not_true (ends (rule n)) level.1 in
      let yes = ends_in t (rule n) h.1 x.0 w x.1 is in
      absurd cc
  | inr y ↦ both_true (nullable (rule n)) (p else_kind) (is_empty t (rule n) h.1 y.0) (ap p (sym is) ∙ ap (λ (u : Word). p (kind_of u)) (sym (one_last v w front y.1)) ∙ h.0)
]
ends_in _ _ h front w e is = absurd h

-- ---- both

-- where two words stand next to each other in two parts
abbrev Between : List Word → List Word → List Word → Word → Word → List Word → Type 0
Between xs ys front v w back =
    ((us : List Word) × (xs ≡ front ++ v ∷ w ∷ us))
    ⊎ (((xs ≡ front ++ v ∷ []) × (ys ≡ w ∷ back)) ⊎ ((us : List Word) × (ys ≡ us ++ v ∷ w ∷ back)))

between : (xs ys front : List Word) (v w : Word) (back : List Word) → xs ++ ys ≡ front ++ v ∷ w ∷ back → Between xs ys front v w back
between [] ys front v w back e = inr (inr (front, e))
between (x ∷ []) ys [] v w back e = let head : x ≡ v = cc in let tail : ys ≡ w ∷ back = cc in inr (inl (ap (λ (u : Word). u ∷ []) head, tail))
between (x ∷ y ∷ xs) ys [] v w back e = let head : x ≡ v = cc in let second : y ≡ w = cc in inl (xs, rw (head, second) refl)
between (x ∷ xs) ys (z ∷ front) v w back e =
    let head : x ≡ z = cc in
    let tail : xs ++ ys ≡ front ++ v ∷ w ∷ back = cc in
    elim (between xs ys front v w back tail) [
      | inl l ↦ inl (l.0, ap (λ (u : Word). u ∷ xs) head ∙ ap (λ (l : List Word). z ∷ l) l.1)
      | inr r ↦ elim r [
        | inl m ↦ inr (inl (ap (λ (u : Word). u ∷ xs) head ∙ ap (λ (l : List Word). z ∷ l) m.0, m.1))
        | inr n ↦ inr (inr n)
      ]
    ]

apart : (t : ParseTree) (f : Form) → safe f ≡ true → Derives rule t f → (front : List Word) (v w : Word) (back : List Word) → yield t ≡ front ++ v ∷ w ∷ back → kind_of v ≡ else_kind → kind_of w ≡ colon_kind → ⊥
apart (Leaf x) (Terminal p) ok h [] v w back e one two = cc
apart (Leaf x) (Terminal p) ok h (y ∷ front) v w back e one two = no_end front v (w ∷ back) (let tail : [] ≡ front ++ v ∷ w ∷ back = cc in sym tail)
apart NoWords Epsilon ok h front v w back e one two = no_end front v (w ∷ back) (sym e)
apart (Pair a b) (Seq f g) ok h front v w back e one two =
    let c = and_true (safe f && safe g) (not (ends f && first_set g colon_kind)) ok in
    let parts = and_true (safe f) (safe g) c.0 in
    elim (between (yield a) (yield b) front v w back e) [
      | inl l ↦ apart a f parts.0 h.0 front v w l.0 l.1 one two
      | inr r ↦ elim r [
        | inl m ↦ never_both (ends f) (first_set g colon_kind) c.1 (ends_in a f h.0 front v m.0 one) (ap (first_set g) (sym two) ∙ begins_with b g h.1 w back m.1)
        | inr n ↦ apart b g parts.1 h.1 n.0 v w back n.1 one two
      ]
    ]
apart (Left a) (Alt f g) ok h front v w back e one two = apart a f (and_true (safe f) (safe g) ok).0 h front v w back e one two
apart (Right b) (Alt f g) ok h front v w back e one two = apart b g (and_true (safe f) (safe g) ok).1 h front v w back e one two
apart (Single a) (Repeat f g) ok h front v w back e one two = apart a f (and_true (safe f) (safe g) (and_true (safe f && safe g) (not ((ends f || ends g) && first_set g colon_kind)) ok).0).0 h front v w back e one two
apart (Snoc t b) (Repeat f g) ok h front v w back e one two =
    let c = and_true (safe f && safe g) (not ((ends f || ends g) && first_set g colon_kind)) ok in
    let parts = and_true (safe f) (safe g) c.0 in
    elim (between (yield t) (yield b) front v w back e) [
      | inl l ↦ apart t (Repeat f g) ok h.0 front v w l.0 l.1 one two
      | inr r ↦ elim r [
        | inl m ↦ never_both (ends f || ends g) (first_set g colon_kind) c.1 (ends_in t (Repeat f g) h.0 front v m.0 one) (ap (first_set g) (sym two) ∙ begins_with b g h.1 w back m.1)
        | inr n ↦ apart b g parts.1 h.1 n.0 v w back n.1 one two
      ]
    ]
apart (Deeper x t) (Nested p n) ok h front v w back e one two =
    let level = and_true (safe (rule n)) (not (ends (rule n))) (levels_safe n) in
    elim (between (x ∷ []) (yield t) front v w back e) [
      | inl l ↦ too_long front l.0 l.1
      | inr r ↦ elim r [
        | inl m ↦ never_both (p else_kind) (first_set (rule n) colon_kind) ok (ap p (sym one) ∙ ap (λ (u : Word). p (kind_of u)) (sym (one_last x v front m.0)) ∙ h.0) (ap (first_set (rule n)) (sym two) ∙ begins_with t (rule n) h.1 w back m.1)
        | inr n_ ↦ apart t (rule n) level.0 h.1 n_.0 v w back n_.1 one two
      ]
    ]
  where
    too_long : (front us : List Word) → x ∷ [] ≡ front ++ v ∷ w ∷ us → ⊥
    too_long [] us e = cc
    too_long (y ∷ front) us e = no_end front v (w ∷ us) (let tail : [] ≡ front ++ v ∷ w ∷ us = cc in sym tail)
apart _ _ ok h front v w back e one two = absurd h

pub no_colon_behind : (t : ParseTree) → Derives rule t config → (front : List Word) (v w : Word) (back : List Word) → yield t ≡ front ++ v ∷ w ∷ back → kind_of v ≡ IsSymbol symbols.Else → kind_of w ≡ IsSymbol symbols.Colon → ⊥
no_colon_behind t h front v w back e one two = apart t config refl h front v w back e one two
