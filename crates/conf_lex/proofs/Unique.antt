-- What stands at the front, and each refusal, is the only one.
use Rattle.std.proofs.Common.{◌≡◌, ℕ, ◌≤◌, ◌<◌, Bool, true, List, [], ◌∷◌, ◌++◌, length, Option, Some, None, refl, sym, ap, subst, ◌∙◌, append_assoc, append-nil, arith, ◌⊎◌, inl, inr}
use Rattle.std.proofs.lemmas.List.{length-append}
use Rattle.conf_lex.specs.Kind.{Kind}
use Rattle.conf_lex.specs.declared.word.Word.{Word}
use Rattle.conf_lex.specs.Grammar.{Bad, TooDeep, Form, ParseTree, yield, DerivesLongest, too_deep}
use Rattle.conf_lex.specs.Reading.{Read, Parsed, Failed, read}
use Rattle.conf_lex.specs.Sentences.{IsBegun, IsLast, IsBad, IsTooDeep}
use Rattle.conf_lex.proofs.Good.{first_word, outcome}
use Rattle.conf_lex.proofs.Checks.{check, Checked, good}
use Rattle.conf_lex.proofs.Exact.{got_is_read, fault_is_bad, fault_is_too_deep, whole}

-- ---- two fronts of the same words

-- the first is the longer one
pub record Longer (a r b s : List Word) : Type 0 where
  pub word : Word
  pub more : List Word
  pub front : a ≡ b ++ word ∷ more
  pub rest : s ≡ word ∷ (more ++ r)

pub fronts : (a r b s : List Word) → a ++ r ≡ b ++ s → ((a ≡ b) × (r ≡ s)) ⊎ (Longer a r b s ⊎ Longer b s a r)
fronts [] r [] s e = inl (refl, e)
fronts [] r (y ∷ b) s e = inr (inr (record { word = y; more = b; front = refl; rest = e }))
fronts (x ∷ a) r [] s e = inr (inl (record { word = x; more = a; front = refl; rest = sym e }))
fronts (x ∷ a) r (y ∷ b) s e =
    let head : x ≡ y = cc in
    let tail : a ++ r ≡ b ++ s = cc in
    elim (fronts a r b s tail) [
      | inl h ↦ inl (cc, h.1)
      | inr h ↦ elim h [
        | inl l ↦ let front : x ∷ a ≡ y ∷ (b ++ l.word ∷ l.more) = let f = l.front in cc in inr (inl (record { word = l.word; more = l.more; front = front; rest = l.rest }))
        | inr l ↦ let front : y ∷ b ≡ x ∷ (a ++ l.word ∷ l.more) = let f = l.front in cc in inr (inr (record { word = l.word; more = l.more; front = front; rest = l.rest }))
      ]
    ]

same_front : (a b s : List Word) → a ++ s ≡ b ++ s → a ≡ b
same_front a b s e = elim (fronts a s b s e) [
  | inl h ↦ h.0
  | inr h ↦ elim h [
    | inl l ↦ absurd (omega (arith, ap (λ (u : List Word). length u) l.rest, length-append l.more s))
    | inr l ↦ absurd (omega (arith, ap (λ (u : List Word). length u) l.rest, length-append l.more s))
  ]
]

pub late_outcome : (d : Option (List Word)) (t : ParseTree) (more ws : List Word) → ((deep : List Word) → d ≡ Some deep → length deep ≤ length more) → outcome d t [] ≡ Failed TooDeep ws → length more < length ws → ⊥
late_outcome None t more ws late e longer = cc
late_outcome (Some deep) t more ws late e longer =
    let same : deep ++ [] ≡ ws = cc in
    omega (arith, late deep refl, ap (λ (u : List Word). length u) same, length-append deep [])

module _ {L : Type 0} (rule : L → Form L) (model : L → ParseTree) (after : L → Kind → Bool) (checked : Checked rule model after) (k : ℕ) (f : Form L) (ok : check model after f ≡ true) where
  -- a word that opens a level too many in a sentence is refused wherever the words before it and it come
  stopped : (t : ParseTree) (before : List Word) (w : Word) (more : List Word) → DerivesLongest rule t f → yield t ≡ before ++ w ∷ more → too_deep t k ≡ Some (w ∷ more) → (rest : List Word) → read rule k f (before ++ w ∷ rest) ≡ Failed TooDeep (w ∷ rest)
  unfolding first_word
  stopped t before w more fits reads stops rest =
      let sentence : read rule k f (yield t) ≡ Failed TooDeep ((w ∷ more) ++ []) = whole rule model after checked k f ok t fits ∙ ap (λ (d : Option (List Word)). outcome d t []) stops in
      let fault : read rule k f (yield t) ≡ Failed TooDeep (w ∷ more) = sentence ∙ ap (λ (u : List Word). Failed TooDeep u) (append-nil (w ∷ more)) in
      let r = (good rule model after checked k f ok).fault (yield t) TooDeep (w ∷ more) fault in
      let same : r.before ≡ before = same_front r.before before (w ∷ more) (sym r.front ∙ reads) in
      subst (λ (b : List Word). read rule k f (b ++ w ∷ rest) ≡ Failed TooDeep (w ∷ rest)) same (r.local (w ∷ rest) refl)

  pub too_deep_is_fault : (words rest : List Word) → IsTooDeep rule k f words rest → read rule k f words ≡ Failed TooDeep rest
  too_deep_is_fault words rest h = rw (h.front, h.opens) (stopped h.tree h.before h.opener h.more h.fits h.begun h.levels h.behind)

  -- nothing is begun by more than the last front
  past_last : (a r b s : List Word) → IsLast rule f b s → Longer a r b s → IsBegun rule f a → ⊥
  past_last a r b [] last l begun = let e = l.rest in cc
  past_last a r b (v ∷ s) last l begun =
      let same : v ≡ l.word = let e = l.rest in cc in
      let front : a ≡ (b ++ v ∷ []) ++ l.more = l.front ∙ ap (λ (x : Word). b ++ x ∷ l.more) (sym same) ∙ sym (append_assoc b (v ∷ []) l.more) in
      last (begun.0, l.more ++ begun.1, begun.2, begun.3 ∙ ap (λ (u : List Word). u ++ begun.1) front ∙ append_assoc (b ++ v ∷ []) l.more begun.1)

  -- a word that opens a level too many in a sentence comes no sooner than a bad one
  no_stop_before : (words rest : List Word) (h : IsBad rule k f words rest) (t : ParseTree) (before : List Word) (w : Word) (behind more : List Word) → words ≡ before ++ w ∷ behind → DerivesLongest rule t f → yield t ≡ before ++ w ∷ more → too_deep t k ≡ Some (w ∷ more) → ⊥
  no_stop_before words rest h t before w behind more front fits reads stops = elim (fronts h.before rest before (w ∷ behind) (sym h.front ∙ front)) [
    | inl same ↦ bad_last (IsLast rule f) h.before rest h.last w behind same.1 (t, more, fits, reads ∙ ap (λ (b : List Word). b ++ w ∷ more) (sym same.0) ∙ sym (append_assoc h.before (w ∷ []) more))
    | inr x ↦ elim x [
      | inl l ↦ later l
      | inr l ↦ past_last before (w ∷ behind) h.before rest h.last l (t, w ∷ more, fits, reads)
    ]
  ]
    where
      bad_last : (P : List Word → List Word → Type 0) (b s : List Word) → IsLast rule f b s → (v : Word) (u : List Word) → s ≡ v ∷ u → IsBegun rule f (b ++ v ∷ []) → ⊥
      bad_last P b [] last v u e begun = cc
      bad_last P b (x ∷ s) last v u e begun = let same : x ≡ v = cc in last (subst (λ (y : Word). IsBegun rule f (b ++ y ∷ [])) (sym same) begun)

      later : Longer h.before rest before (w ∷ behind) → ⊥
      later l =
          let b = h.begun in
          let same : w ≡ l.word = let e = l.rest in cc in
          let words-are : yield b.0 ≡ before ++ w ∷ (l.more ++ b.1) =
          b.3 ∙ ap (λ (u : List Word). u ++ b.1) l.front ∙ append_assoc before (l.word ∷ l.more) b.1 ∙ ap (λ (x : Word). before ++ x ∷ (l.more ++ b.1)) (sym same) in
          let failed : read rule k f (yield b.0) ≡ Failed TooDeep (w ∷ (l.more ++ b.1)) = rw words-are (stopped t before w more fits reads stops (l.more ++ b.1)) in
          late_outcome (too_deep b.0 k) b.0 b.1 (w ∷ (l.more ++ b.1)) b.4 (sym (whole rule model after checked k f ok b.0 b.2) ∙ failed) (omega (arith, length-append l.more b.1))

  bad_is : (words rest : List Word) → IsBad rule k f words rest → (x : Read) → read rule k f words ≡ x → x ≡ Failed Bad rest
  bad_is words rest h (Parsed t end) e =
      let g = got_is_read rule model after checked k f ok words t end e in
      elim (fronts h.before rest (yield t) end (sym h.front ∙ g.front)) [
        | inl same ↦ absurd (h.unfinished t g.fits (sym same.0))
        | inr x ↦ elim x [
          | inl l ↦ absurd (past_last h.before rest (yield t) end g.longest l (h.begun.0, h.begun.1, h.begun.2, h.begun.3))
          | inr l ↦ absurd (past_last (yield t) end h.before rest h.last l (t, [], g.fits, sym (append-nil (yield t))))
        ]
      ]
  bad_is words rest h (Failed Bad end) e =
      let g = fault_is_bad rule model after checked k f ok words end e in
      elim (fronts h.before rest g.before end (sym h.front ∙ g.front)) [
        | inl same ↦ ap (λ (u : List Word). Failed Bad u) (sym same.1)
        | inr x ↦ elim x [
          | inl l ↦ absurd (past_last h.before rest g.before end g.last l (h.begun.0, h.begun.1, h.begun.2, h.begun.3))
          | inr l ↦ absurd (past_last g.before end h.before rest h.last l (g.begun.0, g.begun.1, g.begun.2, g.begun.3))
        ]
      ]
  bad_is words rest h (Failed TooDeep end) e =
      let g = fault_is_too_deep rule model after checked k f ok words end e in
      absurd (no_stop_before words rest h g.tree g.before g.opener g.behind g.more (g.front ∙ ap (λ (u : List Word). g.before ++ u) g.opens) g.fits g.begun g.levels)

  pub bad_is_fault : (words rest : List Word) → IsBad rule k f words rest → read rule k f words ≡ Failed Bad rest
  bad_is_fault words rest h = bad_is words rest h (read rule k f words) refl
