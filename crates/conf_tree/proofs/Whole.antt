-- Words that are read to their end: what they are, the only place where they stop, and what can stand behind others.
use Rattle.std.proofs.Common.{◌≡◌, ◌≢◌, ◌↔◌, ℕ, Bool, true, IsTrue, List, [], ◌∷◌, ◌++◌, length, Option, Some, None, refl, sym, ap, subst, ◌∙◌, append_assoc, append-nil, arith, ◌==◌, inl, inr}
use Rattle.std.proofs.lemmas.Bool.{eqb-true}
use Rattle.std.specs.Borrow.{Bor}
use Rattle.conf_lex.specs.declared.word.Word.{Word}
use Rattle.conf_lex.specs.Grammar.{Why, Bad, TooDeep, ParseTree, yield, DerivesLongest, too_deep}
use Rattle.conf_lex.specs.Reading.{Read, Parsed, Failed, Reader, and_then, read}
use Rattle.conf_lex.specs.Sentences.{IsBegun, IsBegunWithin, IsLast, IsRead, IsBad, IsTooDeep}
use Rattle.conf_lex.specs.Agrees.{AgreesOnError}
use Rattle.conf_lex.specs.declared.refusal.Refusal.{Refusal}
use Rattle.conf_lex.specs.declared.refusal.Refusal.TheVariants as refusals
use Rattle.conf_lex.proofs.Good.{outcome, and_then_got, and_then_fault}
use Rattle.conf_lex.proofs.Checks.{check}
use Rattle.conf_lex.proofs.Exact.{got_is_read, fault_is_bad, fault_is_too_deep, whole}
use Rattle.conf_lex.proofs.Unique.{Longer, fronts, too_deep_is_fault}
use Rattle.expr_syntax.specs.Syntax.{rule}
use Rattle.expr_syntax.specs.Levels.{Form}
use Rattle.conf_lex.proofs.PartShapes.{bad_from, deep_from}
use Rattle.filt_syntax.proofs.Follows.{begun_next, not_next, no_deep_within, deep_follows}
use Rattle.expr_syntax.proofs.Tested.{model, after, checked}
use Rattle.conf_syntax.specs.Syntax.{config}
use Rattle.conf_tree.specs.Readers.{config_at, to_the_end, whole_at}
use Rattle.conf_tree.specs.Sentence.{IsSentence, IsStop}
use Rattle.conf_tree.proofs.Tested.{config_checked}

-- ---- a form, read to the end of the words

unfoldable pub read_whole : ℕ → Form → Reader
read_whole k f ws = and_then (read rule k f ws) to_the_end

-- the words before the rest begin a sentence; with the next one they begin none
record StopAt (k : ℕ) (f : Form) (words rest : List Word) : Type 0 where
  before : List Word
  front : words ≡ before ++ rest
  begun : IsBegunWithin rule k f before
  last : IsLast rule f before rest
  unfinished : rest ≡ [] → (t : ParseTree) → DerivesLongest rule t f → yield t ≢ before

at_end : (x : Read) (a : ParseTree) (u : List Word) (t : ParseTree) (rest : List Word) → x ≡ Parsed a u → to_the_end a u ≡ Parsed t rest → (rest ≡ []) × (x ≡ Parsed t [])
at_end x a [] t rest e h = let none : rest ≡ [] = cc in let same : a ≡ t = cc in (none, e ∙ ap (λ (v : ParseTree). Parsed v []) same)
at_end x a (w ∷ u) t rest e h = absurd cc

-- behind a tree no more than one place is refused
only_bad : (a : ParseTree) (u : List Word) (why : Why) (rest : List Word) → to_the_end a u ≡ Failed why rest → why ≡ Bad
only_bad a [] why rest h = absurd cc
only_bad a (w ∷ u) why rest h = cc

bad_at : (t : ParseTree) (end rest : List Word) → rest ≡ end → (rest ≡ [] → ⊥) → to_the_end t end ≡ Failed Bad rest
bad_at t [] rest e never = absurd (never e)
bad_at t (w ∷ u) rest e never = ap (λ (v : List Word). Failed Bad v) (sym e)

none_late : (d : Option (List Word)) → d ≡ None → (deep : List Word) → d ≡ Some deep → ⊥
none_late d e deep h = cc

-- nothing is begun by more than the last front
past_last : (f : Form) (a r b s : List Word) → IsLast rule f b s → Longer a r b s → IsBegun rule f a → ⊥
past_last f a r b s last l begun =
    let front : a ≡ b ++ l.word ∷ l.more = l.front in
    not_next f b s last l.word (l.more ++ r) l.rest (begun_next f begun.0 b l.word (l.more ++ begun.1) begun.2 (begun.3 ∙ ap (λ (u : List Word). u ++ begun.1) front ∙ append_assoc b (l.word ∷ l.more) begun.1))

module _ (k : ℕ) (f : Form) (ok : check model after f ≡ true) where
  whole_got : (ws : List Word) (t : ParseTree) (rest : List Word) → read_whole k f ws ≡ Parsed t rest → (rest ≡ []) × (read rule k f ws ≡ Parsed t [])
  unfolding read_whole
  whole_got ws t rest e = let x = and_then_got (read rule k f ws) to_the_end t rest e in at_end (read rule k f ws) x.0 x.1 t rest x.2 x.3

  sentence_got : (ws : List Word) (t : ParseTree) → DerivesLongest rule t f → yield t ≡ ws → too_deep t k ≡ None → read_whole k f ws ≡ Parsed t []
  unfolding read_whole
  sentence_got ws t fits e levels =
      let sentence : read rule k f ws ≡ Parsed t [] = subst (λ (u : List Word). read rule k f u ≡ outcome (too_deep t k) t []) e (whole rule model after checked k f ok t fits) ∙ ap (λ (d : Option (List Word)). outcome d t []) levels in
      ap (λ (x : Read). and_then x to_the_end) sentence

  bad_stop : (ws rest : List Word) → IsBad rule k f ws rest → StopAt k f ws rest
  bad_stop ws rest h = record { before = h.before; front = h.front; begun = h.begun; last = h.last; unfinished = λ none. h.unfinished }

  read_stop : (ws : List Word) (t : ParseTree) (w : Word) (u : List Word) → IsRead rule k f ws t (w ∷ u) → StopAt k f ws (w ∷ u)
  read_stop ws t w u g =
      let begun : IsBegunWithin rule k f (yield t) = (t, [], g.fits, sym (append-nil (yield t)), λ deep s. absurd (none_late (too_deep t k) g.levels deep s)) in
      record { before = yield t; front = g.front; begun = begun; last = g.longest; unfinished = λ none. absurd cc }

  left_stop : (ws : List Word) (t : ParseTree) (u rest : List Word) → read rule k f ws ≡ Parsed t u → to_the_end t u ≡ Failed Bad rest → StopAt k f ws rest
  left_stop ws t [] rest e h = absurd cc
  left_stop ws t (w ∷ u) rest e h = let same : w ∷ u ≡ rest = cc in subst (λ (r : List Word). StopAt k f ws r) same (read_stop ws t w u (got_is_read rule model after checked k f ok ws t (w ∷ u) e))

  fault_stop : (ws rest : List Word) → read_whole k f ws ≡ Failed Bad rest → StopAt k f ws rest
  unfolding read_whole
  fault_stop ws rest e = elim (and_then_fault (read rule k f ws) to_the_end Bad rest e) [
    | inl failed ↦ bad_stop ws rest (fault_is_bad rule model after checked k f ok ws rest failed)
    | inr got ↦ left_stop ws got.0 got.1 rest got.2 got.3
  ]

  -- words stop at one place
  stop_read : (ws rest : List Word) (s : StopAt k f ws rest) (x : Read) → read rule k f ws ≡ x → and_then x to_the_end ≡ Failed Bad rest
  stop_read ws rest s (Parsed t end) e =
      let g = got_is_read rule model after checked k f ok ws t end e in
      elim (fronts s.before rest (yield t) end (sym s.front ∙ g.front)) [
        | inl same ↦ bad_at t end rest same.1 (λ none. s.unfinished none t g.fits (sym same.0))
        | inr x ↦ elim x [
          | inl l ↦ absurd (past_last f s.before rest (yield t) end g.longest l (s.begun.0, s.begun.1, s.begun.2, s.begun.3))
          | inr l ↦ absurd (past_last f (yield t) end s.before rest s.last l (t, [], g.fits, sym (append-nil (yield t))))
        ]
      ]
  stop_read ws rest s (Failed Bad end) e =
      let g = fault_is_bad rule model after checked k f ok ws end e in
      elim (fronts s.before rest g.before end (sym s.front ∙ g.front)) [
        | inl same ↦ ap (λ (u : List Word). Failed Bad u) (sym same.1)
        | inr x ↦ elim x [
          | inl l ↦ absurd (past_last f s.before rest g.before end g.last l (s.begun.0, s.begun.1, s.begun.2, s.begun.3))
          | inr l ↦ absurd (past_last f g.before end s.before rest s.last l (g.begun.0, g.begun.1, g.begun.2, g.begun.3))
        ]
      ]
  stop_read ws rest s (Failed TooDeep end) e =
      let g = fault_is_too_deep rule model after checked k f ok ws end e in
      elim (fronts s.before rest g.before end (sym s.front ∙ g.front)) [
        | inl same ↦ absurd (not_next f s.before rest s.last g.opener g.behind (same.1 ∙ g.opens) (begun_next f g.tree s.before g.opener g.more g.fits (g.begun ∙ ap (λ (u : List Word). u ++ g.opener ∷ g.more) (sym same.0))))
        | inr x ↦ elim x [
          | inl l ↦
              let word : g.opener ≡ l.word = let p = l.rest in let q = g.opens in cc in
              let front : s.before ≡ g.before ++ g.opener ∷ l.more = l.front ∙ ap (λ (w : Word). g.before ++ w ∷ l.more) (sym word) in
              absurd (no_deep_within k f ok s.before s.begun g.before g.opener l.more front g.tree g.more g.fits g.begun g.levels)
          | inr l ↦ absurd (past_last f g.before end s.before rest s.last l (g.tree, g.opener ∷ g.more, g.fits, g.begun))
        ]
      ]

  stop_fault : (ws rest : List Word) → StopAt k f ws rest → read_whole k f ws ≡ Failed Bad rest
  unfolding read_whole
  stop_fault ws rest s = stop_read ws rest s (read rule k f ws) refl

  fault_deep : (ws rest : List Word) → read_whole k f ws ≡ Failed TooDeep rest → IsTooDeep rule k f ws rest
  unfolding read_whole
  fault_deep ws rest e = elim (and_then_fault (read rule k f ws) to_the_end TooDeep rest e) [
    | inl failed ↦ fault_is_too_deep rule model after checked k f ok ws rest failed
    | inr got ↦ let why : TooDeep ≡ Bad = only_bad got.0 got.1 TooDeep rest got.3 in absurd cc
  ]

  deep_fault : (ws rest : List Word) → IsTooDeep rule k f ws rest → read_whole k f ws ≡ Failed TooDeep rest
  unfolding read_whole
  deep_fault ws rest h = ap (λ (x : Read). and_then x to_the_end) (too_deep_is_fault rule model after checked k f ok ws rest h)

  -- ---- a word more

  got_begun : (ws : List Word) (t : ParseTree) (rest : List Word) → read_whole k f ws ≡ Parsed t rest → IsBegun rule f ws
  got_begun ws t rest e =
      let g = got_is_read rule model after checked k f ok ws t [] (whole_got ws t rest e).1 in
      (t, [], g.fits, sym (append-nil (yield t)) ∙ sym (append-nil (yield t ++ [])) ∙ ap (λ (u : List Word). u ++ []) (sym g.front))

  bad_begun : (ws rest : List Word) → read_whole k f ws ≡ Failed Bad rest → rest ≡ [] → IsBegun rule f ws
  bad_begun ws rest e none =
      let s = fault_stop ws rest e in
      let all : ws ≡ s.before = s.front ∙ ap (λ (u : List Word). s.before ++ u) none ∙ append-nil s.before in
      (s.begun.0, s.begun.1, s.begun.2, s.begun.3 ∙ ap (λ (u : List Word). u ++ s.begun.1) (sym all))

  bad_not_begun : (ws rest : List Word) (w : Word) (u : List Word) → read_whole k f ws ≡ Failed Bad rest → rest ≡ w ∷ u → IsBegun rule f ws → ⊥
  bad_not_begun ws rest w u e is b =
      let s = fault_stop ws rest e in
      let all : ws ≡ s.before ++ w ∷ u = s.front ∙ ap (λ (v : List Word). s.before ++ v) is in
      not_next f s.before rest s.last w u is (begun_next f b.0 s.before w (u ++ b.1) b.2 (b.3 ∙ ap (λ (v : List Word). v ++ b.1) all ∙ append_assoc s.before (w ∷ u) b.1))

-- ---- a configuration

whole_same : (k : ℕ) (ws : List Word) → whole_at k ws ≡ read_whole k config ws
unfolding read_whole whole_at config_at
whole_same k ws = refl

pub got_sentence : (ws : List Word) (t : ParseTree) (rest : List Word) → whole_at 64 ws ≡ Parsed t rest → IsSentence ws t
got_sentence ws t rest e =
    let g = got_is_read rule model after checked 64 config config_checked ws t [] (whole_got 64 config config_checked ws t rest (sym (whole_same 64 ws) ∙ e)).1 in
    record { fits = g.fits; whole = sym (append-nil (yield t)) ∙ sym g.front; levels = g.levels }

pub sentence_is : (ws : List Word) (t : ParseTree) → IsSentence ws t → whole_at 64 ws ≡ Parsed t []
sentence_is ws t h = whole_same 64 ws ∙ sentence_got 64 config config_checked ws t h.fits h.whole h.levels

pub bad_is_stop : (ws rest : List Word) → whole_at 64 ws ≡ Failed Bad rest → IsStop ws rest
bad_is_stop ws rest e =
    let s = fault_stop 64 config config_checked ws rest (sym (whole_same 64 ws) ∙ e) in
    record { before = s.before; front = s.front; begun = s.begun; last = s.last; unfinished = s.unfinished }

pub stop_is_bad : (ws rest : List Word) → IsStop ws rest → whole_at 64 ws ≡ Failed Bad rest
stop_is_bad ws rest s =
    let at : StopAt 64 config ws rest = record { before = s.before; front = s.front; begun = s.begun; last = s.last; unfinished = s.unfinished } in
    whole_same 64 ws ∙ stop_fault 64 config config_checked ws rest at

pub deep_is_deep : (ws rest : List Word) → whole_at 64 ws ≡ Failed TooDeep rest → IsTooDeep rule 64 config ws rest
deep_is_deep ws rest e = fault_deep 64 config config_checked ws rest (sym (whole_same 64 ws) ∙ e)

pub deep_is_fault : (ws rest : List Word) → IsTooDeep rule 64 config ws rest → whole_at 64 ws ≡ Failed TooDeep rest
deep_is_fault ws rest h = whole_same 64 ws ∙ deep_fault 64 config config_checked ws rest h

-- ---- whether a word can stand behind others

pub got_stands : (ws : List Word) (t : ParseTree) (rest : List Word) → whole_at 64 ws ≡ Parsed t rest → IsBegun rule config ws
got_stands ws t rest e = got_begun 64 config config_checked ws t rest (sym (whole_same 64 ws) ∙ e)

pub bad_stands : (ws rest : List Word) → whole_at 64 ws ≡ Failed Bad rest → rest ≡ [] → IsBegun rule config ws
bad_stands ws rest e none = bad_begun 64 config config_checked ws rest (sym (whole_same 64 ws) ∙ e) none

pub bad_stands_not : (ws rest : List Word) → whole_at 64 ws ≡ Failed Bad rest → (rest ≡ [] → ⊥) → IsBegun rule config ws → ⊥
bad_stands_not ws [] e some b = some refl
bad_stands_not ws (w ∷ rest) e some b = bad_not_begun 64 config config_checked ws (w ∷ rest) w rest (sym (whole_same 64 ws) ∙ e) refl b

pub deep_stands : (before : List Word) (w : Word) (rest : List Word) → IsBegunWithin rule 64 config before → whole_at 64 (before ++ w ∷ []) ≡ Failed TooDeep rest → IsBegun rule config (before ++ w ∷ [])
deep_stands before w rest b e = deep_follows 64 config config_checked before w rest b (deep_is_deep (before ++ w ∷ []) rest e)

-- ---- what the parser answers to them

pub got_can : (ws all : List Word) (t : ParseTree) (rest : List Word) → ws ≡ all → whole_at 64 ws ≡ Parsed t rest → IsTrue true ↔ IsBegun rule config all
got_can ws all t rest is e = (λ yes. got_stands all t rest (subst (λ (u : List Word). whole_at 64 u ≡ Parsed t rest) is e), λ begun. refl)

pub bad_can : (ws all : List Word) (e : Refusal) (rest : Bor (List Word)) (b : Bool) → ws ≡ all → e ≡ refusals.Bad rest → AgreesOnError e (whole_at 64 ws) → b ≡ (length rest.now == 0) → IsTrue b ↔ IsBegun rule config all
bad_can ws all e rest b is why failed same =
    let bad : whole_at 64 all ≡ Failed Bad rest.now = bad_from e rest (whole_at 64 all) why (subst (λ (u : List Word). AgreesOnError e (whole_at 64 u)) is failed) in
    by_rest rest.now b bad same
  where
    by_rest : (r : List Word) (b : Bool) → whole_at 64 all ≡ Failed Bad r → b ≡ (length r == 0) → IsTrue b ↔ IsBegun rule config all
    by_rest [] b bad same = (λ yes. bad_stands all [] bad refl, λ begun. same)
    by_rest (w ∷ r) b bad same = (λ yes. absurd (omega (arith, eqb-true (length (w ∷ r)) 0 (sym same ∙ yes))), λ begun. absurd (bad_stands_not all (w ∷ r) bad (λ none. cc) begun))

pub deep_can : (ws before : List Word) (w : Word) (e : Refusal) (rest : Bor (List Word)) → ws ≡ before ++ w ∷ [] → IsBegunWithin rule 64 config before → e ≡ refusals.TooDeep rest → AgreesOnError e (whole_at 64 ws) → IsTrue true ↔ IsBegun rule config ws
deep_can ws before w e rest is begun why failed =
    let deep = deep_from e rest (whole_at 64 (before ++ w ∷ [])) why (subst (λ (u : List Word). AgreesOnError e (whole_at 64 u)) is failed) in
    (λ yes. subst (λ (u : List Word). IsBegun rule config u) (sym is) (deep_stands before w rest.now begun deep), λ b. refl)
