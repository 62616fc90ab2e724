-- Behind some words a part of a tree's words may be another: the tree with the other part is one of the same form.
use Rattle.std.proofs.Common.{◌≡◌, Bool, true, false, ◌||◌, ◌&&◌, not, List, [], ◌∷◌, ◌++◌, length, refl, sym, ap, subst, ◌∙◌, append_assoc, append-nil, arith, ◌⊎◌, inl, inr}
use Rattle.std.proofs.lemmas.List.{length-append}
use Rattle.conf_lex.specs.declared.word.Word.{Word}
use Rattle.conf_lex.specs.Kind.{Kind, kind_of}
use Rattle.conf_lex.specs.Grammar.{Terminal, Epsilon, Seq, Alt, Repeat, Nested, ParseTree, Leaf, NoWords, Pair, Left, Right, Single, Snoc, Deeper, yield, begins, is_blank, can_continue, can_continue_in, DerivesLongest}
use Rattle.conf_lex.proofs.Checks.{all_of, kinds, is_kind, all_in, and_true, or_cases, or_left, or_right}
use Rattle.conf_lex.proofs.Unique.{fronts}
use Rattle.expr_syntax.specs.Syntax.{rule}
use Rattle.expr_syntax.specs.Levels.{Level, Form}
use Rattle.conf_syntax.proofs.Ends.{implied, stops_low}

-- ---- truths

seq_low : (b n a c : Bool) → (a ≡ true → c ≡ true) → (b || (n && a)) ≡ true → (b || (n && c)) ≡ true
seq_low true n a c f e = refl
seq_low false true a c f e = f e
seq_low false false a c f e = absurd cc

second_low : (b d m n a : Bool) → m ≡ false → (b ≡ true → d ≡ true) → (b || (m && a)) ≡ true → (d || (n && a)) ≡ true
second_low true d m n a none f e = or_left _ _ (f refl)
second_low false d true n a none f e = absurd cc
second_low false d false n a none f e = absurd cc

or_low : (a b c : Bool) → (a ≡ true → b ≡ true) → (a || c) ≡ true → (b || c) ≡ true
or_low true b c f e = or_left _ _ (f refl)
or_low false b c f e = or_right _ _ e

-- ---- lists with one word in their midst

still_stops : (p q : Kind → Bool) (ws : List Word) → ((k : Kind) → p k ≡ true → q k ≡ true) → begins q ws ≡ false → begins p ws ≡ false
still_stops p q [] h e = refl
still_stops p q (w ∷ ws) h e = stops_low _ _ (h (kind_of w)) e

begins_again : (p : Kind → Bool) (q : List Word) (o : Word) (x y : List Word) → begins p (q ++ o ∷ x) ≡ begins p (q ++ o ∷ y)
begins_again p [] o x y = refl
begins_again p (w ∷ q) o x y = refl

not_blank : (q : List Word) (o : Word) (x : List Word) → is_blank (q ++ o ∷ x) ≡ false
not_blank [] o x = refl
not_blank (w ∷ q) o x = refl

no_word : (front : List Word) (o : Word) (rest : List Word) → [] ≡ front ++ o ∷ rest → ⊥
no_word front o rest e = omega (arith, ap (λ (u : List Word). length u) e, length-append front (o ∷ rest))

one_word : (v : Word) (front : List Word) (o : Word) (rest : List Word) → v ∷ [] ≡ front ++ o ∷ rest → (front ≡ []) × (v ≡ o)
one_word v [] o rest e = (refl, cc)
one_word v (x ∷ front) o rest e = absurd (omega (arith, ap (λ (u : List Word). length u) e, length-append front (o ∷ rest)))

grown : (front : List Word) (o : Word) (new behind more : List Word) → (front ++ o ∷ (new ++ behind)) ++ more ≡ front ++ o ∷ (new ++ (behind ++ more))
grown front o new behind more = append_assoc front (o ∷ (new ++ behind)) more ∙ ap (λ (l : List Word). front ++ o ∷ l) (append_assoc new behind more)

-- where a word of two lists stands
data At (x y front : List Word) (o : Word) (rest : List Word) : Type 0 where
  in_left : (r : List Word) → x ≡ front ++ o ∷ r → rest ≡ r ++ y → At x y front o rest
  in_right : (q : List Word) → front ≡ x ++ q → y ≡ q ++ o ∷ rest → At x y front o rest

at_place : (x y front : List Word) (o : Word) (rest : List Word) → x ++ y ≡ front ++ o ∷ rest → At x y front o rest
at_place x y front o rest e = elim (fronts x y front (o ∷ rest) e) [
  | inl same ↦ in_right [] (sym same.0 ∙ sym (append-nil x)) same.1
  | inr other ↦ elim other [
    | inl l ↦ from_left l.word l.more l.front l.rest
    | inr l ↦ in_right (l.word ∷ l.more) l.front l.rest
  ]
]
  where
    from_left : (v : Word) (more : List Word) → x ≡ front ++ v ∷ more → o ∷ rest ≡ v ∷ (more ++ y) → At x y front o rest
    from_left v more cut s =
        let same : v ≡ o = cc in
        let behind : rest ≡ more ++ y = cc in
        in_left more (cut ∙ ap (λ (u : Word). front ++ u ∷ more) same) behind

-- ---- trees

-- a tree of the form, of these words, with which no more goes on than with the other tree
pub record Changed (t : ParseTree) (f : Form) (vs : List Word) : Type 0 where
  pub tree : ParseTree
  pub fits : DerivesLongest rule tree f
  pub reads : yield tree ≡ vs
  pub on : (k : Kind) → can_continue rule tree f k ≡ true → can_continue rule t f k ≡ true
  pub within : (k : Kind) → can_continue_in rule tree f k ≡ true → can_continue_in rule t f k ≡ true

changed_first : (a b : ParseTree) (f g : Form) → DerivesLongest rule (Pair a b) (Seq f g) → (vs : List Word) → Changed a f vs → Changed (Pair a b) (Seq f g) (vs ++ yield b)
changed_first a b f g fits vs y = record {
  tree = Pair y.tree b;
  fits = (y.fits, fits.1, still_stops (can_continue rule y.tree f) (can_continue rule a f) (yield b) y.on fits.2);
  reads = ap (λ (l : List Word). l ++ yield b) y.reads;
  on = λ k. seq_low _ _ _ _ (y.on k);
  within = λ k e. e;
}

changed_chain : (t b : ParseTree) (f g : Form) → DerivesLongest rule (Snoc t b) (Repeat f g) → (vs : List Word) → Changed t (Repeat f g) vs → Changed (Snoc t b) (Repeat f g) (vs ++ yield b)
changed_chain t b f g fits vs y = record {
  tree = Snoc y.tree b;
  fits = (y.fits, fits.1, still_stops (can_continue_in rule y.tree (Repeat f g)) (can_continue_in rule t (Repeat f g)) (yield b) y.within fits.2);
  reads = ap (λ (l : List Word). l ++ yield b) y.reads;
  on = λ k e. e;
  within = λ k e. e;
}

changed_left : (a : ParseTree) (f g : Form) (vs : List Word) → Changed a f vs → Changed (Left a) (Alt f g) vs
changed_left a f g vs y = record { tree = Left y.tree; fits = y.fits; reads = y.reads; on = y.on; within = λ k e. e }

changed_single : (a : ParseTree) (f g : Form) (vs : List Word) → Changed a f vs → Changed (Single a) (Repeat f g) vs
changed_single a f g vs y = record { tree = Single y.tree; fits = y.fits; reads = y.reads; on = λ k. or_low _ _ _ (y.on k); within = y.on }

changed_deeper : (v : Word) (t : ParseTree) (p : Kind → Bool) (n : Level) → p (kind_of v) ≡ true → (vs : List Word) → Changed t (rule n) vs → Changed (Deeper v t) (Nested p n) (v ∷ vs)
changed_deeper v t p n passes vs y =
    record { tree = Deeper v y.tree; fits = (passes, y.fits); reads = ap (λ (l : List Word). v ∷ l) y.reads; on = y.on; within = λ k e. e }

-- the first word of the second part stays: it stands before the one word, or is it
module _ (b : ParseTree) (q : List Word) (o : Word) (rest : List Word) (is : yield b ≡ q ++ o ∷ rest) (vs : List Word) where
  full : (u : List Word) → u ≡ q ++ o ∷ vs → is_blank u ≡ false
  full u e = ap is_blank e ∙ not_blank q o vs

  second_stops : (p : Kind → Bool) (u : List Word) → u ≡ q ++ o ∷ vs → begins p (yield b) ≡ false → begins p u ≡ false
  second_stops p u e stops = ap (begins p) e ∙ begins_again p q o vs rest ∙ ap (begins p) (sym is) ∙ stops

  changed_second : (a : ParseTree) (f g : Form) → DerivesLongest rule (Pair a b) (Seq f g) → Changed b g (q ++ o ∷ vs) → Changed (Pair a b) (Seq f g) ((yield a ++ q) ++ o ∷ vs)
  changed_second a f g fits y = record {
    tree = Pair a y.tree;
    fits = (fits.0, y.fits, second_stops (can_continue rule a f) (yield y.tree) y.reads fits.2);
    reads = ap (λ (l : List Word). yield a ++ l) y.reads ∙ sym (append_assoc (yield a) q (o ∷ vs));
    on = λ k. second_low _ _ _ _ _ (full (yield y.tree) y.reads) (y.on k);
    within = λ k e. e;
  }

  changed_last : (t : ParseTree) (f g : Form) → DerivesLongest rule (Snoc t b) (Repeat f g) → Changed b g (q ++ o ∷ vs) → Changed (Snoc t b) (Repeat f g) ((yield t ++ q) ++ o ∷ vs)
  changed_last t f g fits y = record {
    tree = Snoc t y.tree;
    fits = (fits.0, y.fits, second_stops (can_continue_in rule t (Repeat f g)) (yield y.tree) y.reads fits.2);
    reads = ap (λ (l : List Word). yield t ++ l) y.reads ∙ sym (append_assoc (yield t) q (o ∷ vs));
    on = λ k. or_low _ _ _ (y.on k);
    within = y.on;
  }

  changed_right : (f g : Form) → Changed b g (q ++ o ∷ vs) → Changed (Right b) (Alt f g) (q ++ o ∷ vs)
  changed_right f g y = record { tree = Right y.tree; fits = y.fits; reads = y.reads; on = λ k. second_low _ _ _ _ _ (full (yield y.tree) y.reads) (y.on k); within = λ k e. e }

-- what may stand behind the word, and what stands behind that
module _ (Inside Closed : List Word → Type 0) (more : (xs ys : List Word) → Closed xs → Closed (xs ++ ys)) where
  pub record Opened (t : ParseTree) (f : Form) (front : List Word) (o : Word) (rest : List Word) : Type 0 where
    pub old : List Word
    pub behind : List Word
    pub cut : rest ≡ old ++ behind
    pub inside : Inside old
    pub closed : Closed behind
    pub swap : (new : List Word) → Inside new → Changed t f (front ++ o ∷ (new ++ behind))

  -- with another front
  moved : (t u : ParseTree) (f g : Form) (front other : List Word) (o : Word) (rest : List Word) → ((vs : List Word) → Changed t f (front ++ o ∷ vs) → Changed u g (other ++ o ∷ vs)) → Opened t f front o rest → Opened u g other o rest
  moved t u f g front other o rest change x = record { old = x.old; behind = x.behind; cut = x.cut; inside = x.inside; closed = x.closed; swap = λ new ok. change (new ++ x.behind) (x.swap new ok) }

  -- with more behind
  wider : (t u : ParseTree) (f g : Form) (front : List Word) (o : Word) (rest ys : List Word) → ((vs : List Word) → Changed t f vs → Changed u g (vs ++ ys)) → Opened t f front o rest → Opened u g front o (rest ++ ys)
  wider t u f g front o rest ys change x = record {
    old = x.old;
    behind = x.behind ++ ys;
    cut = ap (λ (l : List Word). l ++ ys) x.cut ∙ append_assoc x.old x.behind ys;
    inside = x.inside;
    closed = more x.behind ys x.closed;
    swap = λ new ok. subst (Changed u g) (grown front o new x.behind ys) (change (front ++ o ∷ (new ++ x.behind)) (x.swap new ok));
  }

  -- ---- the word, of one kind of words, begins a part in each tree

  module _ (opens : Kind → Bool) (is_site : Form → Form → Bool) where
    -- the word isn't alone such a part
    abbrev pub clean : Form → Bool
    clean (Terminal p) = all_of kinds (λ k. not (opens k) || not (p k))
    clean (Nested p n) = all_of kinds (λ k. not (opens k) || not (p k))
    clean _ = true

    abbrev pub sited : Form → Bool
    sited (Seq f g) = (sited f && sited g) && ((is_site f g || clean f) && clean g)
    sited (Alt f g) = (sited f && sited g) && (clean f && clean g)
    sited (Repeat f g) = (sited f && sited g) && (clean f && clean g)
    sited _ = true

    abbrev IsHead : Form → List Word → Word → Type 0
    IsHead (Terminal p) front o = (p (kind_of o) ≡ true) × (front ≡ [])
    IsHead (Nested p n) front o = (p (kind_of o) ≡ true) × (front ≡ [])
    IsHead _ front o = ⊥

    is_shut : (p : Kind → Bool) (o : Word) → opens (kind_of o) ≡ true → all_of kinds (λ k. not (opens k) || not (p k)) ≡ true → p (kind_of o) ≡ true → ⊥
    is_shut p o is all passes =
        let off = implied _ _ (all_in (λ k. not (opens k) || not (p k)) (kind_of o) kinds (is_kind (kind_of o)) all) is in
        let never : true ≡ false = sym off ∙ ap not passes in
        cc

    no_head : (f : Form) (front : List Word) (o : Word) → opens (kind_of o) ≡ true → clean f ≡ true → IsHead f front o → ⊥
    no_head (Terminal p) front o is ok h = is_shut p o is ok h.0
    no_head (Nested p n) front o is ok h = is_shut p o is ok h.0
    no_head _ front o is ok h = absurd h

    head_front : (f : Form) (front : List Word) (o : Word) → IsHead f front o → front ≡ []
    head_front (Terminal p) front o h = h.1
    head_front (Nested p n) front o h = h.1
    head_front _ front o h = absurd h

    abbrev Found : ParseTree → Form → List Word → Word → List Word → Type 0
    Found t f front o rest = Opened t f front o rest ⊎ IsHead f front o

    inner : (t : ParseTree) (f : Form) (front : List Word) (o : Word) (rest : List Word) → opens (kind_of o) ≡ true → clean f ≡ true → Found t f front o rest → Opened t f front o rest
    inner t f front o rest is ok found = elim found [ inl x ↦ x | inr h ↦ absurd (no_head f front o is ok h) ]

    module _ (levels : (n : Level) → (sited (rule n) && clean (rule n)) ≡ true) (at_site : (f g : Form) → is_site f g ≡ true → (a b : ParseTree) → DerivesLongest rule (Pair a b) (Seq f g) → (o : Word) (rest : List Word) → yield a ++ yield b ≡ o ∷ rest → opens (kind_of o) ≡ true → Opened (Pair a b) (Seq f g) [] o rest) where
      at_head : (a b : ParseTree) (f g : Form) → is_site f g ≡ true → DerivesLongest rule (Pair a b) (Seq f g) → (front : List Word) (o : Word) (rest : List Word) → yield a ++ yield b ≡ front ++ o ∷ rest → opens (kind_of o) ≡ true → front ≡ [] → Opened (Pair a b) (Seq f g) front o rest
      at_head a b f g site fits [] o rest e is none = at_site f g site a b fits o rest e is
      at_head a b f g site fits (x ∷ front) o rest e is none = absurd cc

      first_found : (a b : ParseTree) (f g : Form) → (is_site f g || clean f) ≡ true → DerivesLongest rule (Pair a b) (Seq f g) → (front : List Word) (o : Word) (rest r : List Word) → yield a ++ yield b ≡ front ++ o ∷ rest → opens (kind_of o) ≡ true → rest ≡ r ++ yield b → Found a f front o r → Opened (Pair a b) (Seq f g) front o rest
      first_found a b f g ok fits front o rest r e is cut (inl x) = subst (λ (u : List Word). Opened (Pair a b) (Seq f g) front o u) (sym cut) (wider a (Pair a b) f (Seq f g) front o r (yield b) (changed_first a b f g fits) x)
      first_found a b f g ok fits front o rest r e is cut (inr h) = elim (or_cases (is_site f g) (clean f) ok) [
        | inl site ↦ at_head a b f g site fits front o rest e is (head_front f front o h)
        | inr none ↦ absurd (no_head f front o is none h)
      ]

      found : (t : ParseTree) (f : Form) → sited f ≡ true → DerivesLongest rule t f → (front : List Word) (o : Word) (rest : List Word) → yield t ≡ front ++ o ∷ rest → opens (kind_of o) ≡ true → Found t f front o rest
      found (Leaf v) (Terminal p) ok fits front o rest e is =
          let w = one_word v front o rest e in
          inr (ap (λ (u : Word). p (kind_of u)) (sym w.1) ∙ fits, w.0)
      found NoWords Epsilon ok fits front o rest e is = absurd (no_word front o rest e)
      found (Pair a b) (Seq f g) ok fits front o rest e is =
          let parts = and_true (sited f && sited g) ((is_site f g || clean f) && clean g) ok in
          let both = and_true (sited f) (sited g) parts.0 in
          let heads = and_true (is_site f g || clean f) (clean g) parts.1 in
          elim (at_place (yield a) (yield b) front o rest e) [
            | in_left r cut behind ↦ inl (first_found a b f g heads.0 fits front o rest r e is behind (found a f both.0 fits.0 front o r cut is))
            | in_right q before cut ↦ inl (subst (λ (u : List Word). Opened (Pair a b) (Seq f g) u o rest) (sym before) (moved b (Pair a b) g (Seq f g) q (yield a ++ q) o rest (λ vs. changed_second b q o rest cut vs a f g fits) (inner b g q o rest is heads.1 (found b g both.1 fits.1 q o rest cut is))))
          ]
      found (Left a) (Alt f g) ok fits front o rest e is =
          let parts = and_true (sited f && sited g) (clean f && clean g) ok in
          inl (moved a (Left a) f (Alt f g) front front o rest (λ vs. changed_left a f g (front ++ o ∷ vs)) (inner a f front o rest is (and_true (clean f) (clean g) parts.1).0 (found a f (and_true (sited f) (sited g) parts.0).0 fits front o rest e is)))
      found (Right b) (Alt f g) ok fits front o rest e is =
          let parts = and_true (sited f && sited g) (clean f && clean g) ok in
          inl (moved b (Right b) g (Alt f g) front front o rest (λ vs. changed_right b front o rest e vs f g) (inner b g front o rest is (and_true (clean f) (clean g) parts.1).1 (found b g (and_true (sited f) (sited g) parts.0).1 fits front o rest e is)))
      found (Single a) (Repeat f g) ok fits front o rest e is =
          let parts = and_true (sited f && sited g) (clean f && clean g) ok in
          inl (moved a (Single a) f (Repeat f g) front front o rest (λ vs. changed_single a f g (front ++ o ∷ vs)) (inner a f front o rest is (and_true (clean f) (clean g) parts.1).0 (found a f (and_true (sited f) (sited g) parts.0).0 fits front o rest e is)))
      found (Snoc t b) (Repeat f g) ok fits front o rest e is =
          let parts = and_true (sited f && sited g) (clean f && clean g) ok in
          elim (at_place (yield t) (yield b) front o rest e) [
            | in_left r cut behind ↦ inl (subst (λ (u : List Word). Opened (Snoc t b) (Repeat f g) front o u) (sym behind) (wider t (Snoc t b) (Repeat f g) (Repeat f g) front o r (yield b) (changed_chain t b f g fits) (inner t (Repeat f g) front o r is refl (found t (Repeat f g) ok fits.0 front o r cut is))))
            | in_right q before cut ↦ inl (subst (λ (u : List Word). Opened (Snoc t b) (Repeat f g) u o rest) (sym before) (moved b (Snoc t b) g (Repeat f g) q (yield t ++ q) o rest (λ vs. changed_last b q o rest cut vs t f g fits) (inner b g q o rest is (and_true (clean f) (clean g) parts.1).1 (found b g (and_true (sited f) (sited g) parts.0).1 fits.1 q o rest cut is))))
          ]
      found (Deeper v t) (Nested p n) ok fits [] o rest e is =
          let same : v ≡ o = cc in
          inr (ap (λ (u : Word). p (kind_of u)) (sym same) ∙ fits.0, refl)
      found (Deeper v t) (Nested p n) ok fits (x ∷ front) o rest e is =
          let same : v ≡ x = cc in
          let next : yield t ≡ front ++ o ∷ rest = cc in
          let level = and_true (sited (rule n)) (clean (rule n)) (levels n) in
          inl (subst (λ (u : Word). Opened (Deeper v t) (Nested p n) (u ∷ front) o rest) same (moved t (Deeper v t) (rule n) (Nested p n) front (v ∷ front) o rest (λ vs. changed_deeper v t p n fits.0 (front ++ o ∷ vs)) (inner t (rule n) front o rest is level.1 (found t (rule n) level.0 fits.1 front o rest next is))))
      found _ _ ok fits front o rest e is = absurd fits

      -- what stands behind the word in a tree
      pub opened : (t : ParseTree) (f : Form) → sited f ≡ true → clean f ≡ true → DerivesLongest rule t f → (front : List Word) (o : Word) (rest : List Word) → yield t ≡ front ++ o ∷ rest → opens (kind_of o) ≡ true → Opened t f front o rest
      opened t f ok none fits front o rest e is = inner t f front o rest is none (found t f ok fits front o rest e is)
