-- From each token on a form is parsed or refused, with one tree and end, or one refusal.
use Rattle.std.proofs.Common.{◌≡◌, ◌≢◌, ◌↔◌, ℕ, ◌+◌, ◌≤◌, Bool, true, false, IsTrue, ◌==◌, List, [], ◌∷◌, ◌++◌, length, take, drop, refl, sym, ap, subst, ◌∙◌, arith, inl, inr, ◌⊎◌}
use Rattle.std.proofs.lemmas.Bool.{false≢true}
use Rattle.std.proofs.lemmas.List.{length-append, length-drop}
use Rattle.std.proofs.Math.Seq.{drop-append_seam}
use Rattle.conf_lex.specs.Grammar.{Bad, TooDeep, ParseTree, yield}
use Rattle.conf_lex.specs.Reading.{Read, Parsed, Failed, read}
use Rattle.conf_lex.specs.Sentences.{IsBegunWithin, IsRead, IsBad, IsTooDeep}
use Rattle.conf_scan.specs.declared.token.Token.{Token}
use Rattle.conf_lex.specs.declared.word.Word.{Word}
use Rattle.conf_lex.proofs.Exact.{got_is_read, read_is_got, fault_is_bad, fault_is_too_deep}
use Rattle.conf_lex.proofs.Unique.{bad_is_fault, too_deep_is_fault}
use Rattle.expr_syntax.specs.Syntax.{rule}
use Rattle.expr_syntax.specs.Levels.{Form}
use Rattle.filt_syntax.specs.Parse.{ParsesAt, IsSyntaxFault}
use Rattle.filt_syntax.specs.RefusedToken.{CanFollow}
use Rattle.filt_syntax.specs.Tokens.{words_behind, token_place, place_of, moved, IsPastOf, ParsesAtToken, IsRefusedIn}
use Rattle.filt_syntax.specs.declared.parse.SyntaxFault.{SyntaxFault}
use Rattle.filt_syntax.specs.declared.parse.SyntaxFault.TheVariants as faults
use Rattle.filt_syntax.proofs.Follows.{stands_follow, fault_follow}
use Rattle.filt_syntax.proofs.RefusedTokens.{one_past_at}
use Rattle.expr_syntax.proofs.Tested.{is_checked, model, after, checked}
use Rattle.syntax_laws.proofs.Pasts.{words_before, some_past_first}
use Rattle.syntax_laws.proofs.Told.{Told}

-- ---- whether something holds

told_by : {P : Type 0} → (b : Bool) → IsTrue b ↔ P → Told P
told_by true told = inl (told.0 refl)
told_by false told = inr (λ p. false≢true (told.1 p))

-- ---- fronts

front_within : (ws front rest : List Word) → ws ≡ front ++ rest → length front ≤ length ws
front_within ws front rest is = omega (arith, ap (λ (u : List Word). length u) is, length-append front rest)

rest_is : (ws front rest : List Word) → ws ≡ front ++ rest → drop (length front) ws ≡ rest
rest_is ws front rest is = ap (λ (u : List Word). drop (length front) u) is ∙ drop-append_seam front rest

same_place : (ws : List Word) (a b : ℕ) → a ≤ length ws → b ≤ length ws → drop a ws ≡ drop b ws → a ≡ b
same_place ws a b low least same = omega (arith, low, least, ap (λ (u : List Word). length u) same, length-drop a ws, length-drop b ws)

-- ---- what is answered to words

record Stands (f : Form) (ws : List Word) : Type 0 where
  tree : ParseTree
  place : ℕ
  stands : ParsesAt f ws 0 tree place

record Stopped (f : Form) (ws : List Word) : Type 0 where
  fault : SyntaxFault
  told : fault ≢ faults.Memory
  refused : IsSyntaxFault f ws 0 fault

read_stands : (f : Form) (ws : List Word) (t : ParseTree) (rest : List Word) → IsRead rule 64 f ws t rest → ParsesAt f ws 0 t (length (yield t))
read_stands f ws t rest h = (front_within ws (yield t) rest h.front, subst (λ (u : List Word). IsRead rule 64 f ws t u) (sym (rest_is ws (yield t) rest h.front)) h)

bad_refused : (f : Form) (ws rest : List Word) (h : IsBad rule 64 f ws rest) → IsSyntaxFault f ws 0 (faults.Bad (length h.before))
bad_refused f ws rest h = (front_within ws h.before rest h.front, subst (λ (u : List Word). IsBad rule 64 f ws u) (sym (rest_is ws h.before rest h.front)) h)

deep_refused : (f : Form) (ws rest : List Word) (h : IsTooDeep rule 64 f ws rest) → IsSyntaxFault f ws 0 (faults.TooDeep (length h.before))
deep_refused f ws rest h = (front_within ws h.before rest h.front, subst (λ (u : List Word). IsTooDeep rule 64 f ws u) (sym (rest_is ws h.before rest h.front)) h)

module _ (f : Form) (ok : is_checked f) where
  answer_by : (ws : List Word) (r : Read) → read rule 64 f ws ≡ r → Stands f ws ⊎ Stopped f ws
  answer_by ws (Parsed t rest) is =
      inl (record { tree = t; place = length (yield t); stands = read_stands f ws t rest (got_is_read rule model after checked 64 f ok ws t rest is) })
  answer_by ws (Failed Bad rest) is =
      let h = fault_is_bad rule model after checked 64 f ok ws rest is in
      inr (record { fault = faults.Bad (length h.before); told = λ e. cc; refused = bad_refused f ws rest h })
  answer_by ws (Failed TooDeep rest) is =
      let h = fault_is_too_deep rule model after checked 64 f ok ws rest is in
      inr (record { fault = faults.TooDeep (length h.before); told = λ e. cc; refused = deep_refused f ws rest h })

  answer : (ws : List Word) → Stands f ws ⊎ Stopped f ws
  answer ws = answer_by ws (read rule 64 f ws) refl

  -- ---- whether a word can follow

  follow_by_fault : (before : List Word) (w : Word) → IsBegunWithin rule 64 f before → (e : SyntaxFault) → e ≢ faults.Memory → IsSyntaxFault f (before ++ w ∷ []) 0 e → Told (CanFollow f before w)
  follow_by_fault before w begun (faults.Bad at) told h =
      told_by (at == length (before ++ w ∷ [])) (fault_follow f ok (before ++ w ∷ []) before w refl (faults.Bad at) begun h (at == length (before ++ w ∷ [])) refl)
  follow_by_fault before w begun (faults.TooDeep at) told h =
      told_by true (fault_follow f ok (before ++ w ∷ []) before w refl (faults.TooDeep at) begun h true refl)
  follow_by_fault before w begun (faults.Unsupported at) told h = absurd h
  follow_by_fault before w begun faults.Memory told h = absurd (told refl)

  told_follow : (before : List Word) (w : Word) → IsBegunWithin rule 64 f before → Told (CanFollow f before w)
  told_follow before w begun = elim (answer (before ++ w ∷ [])) [
    | inl got ↦ told_by (got.place == length (before ++ w ∷ [])) (stands_follow f ok (before ++ w ∷ []) before w refl got.tree got.place got.stands (got.place == length (before ++ w ∷ [])) refl)
    | inr stopped ↦ follow_by_fault before w begun stopped.fault stopped.told stopped.refused
  ]

  -- ---- a text has an answer

  abbrev RefusedText : List ℕ → List Token → ℕ → Type 0
  RefusedText text tokens from = (e : SyntaxFault) × IsRefusedIn f text tokens from e × (e ≢ faults.Memory)

  refused_text : (text : List ℕ) (tokens : List Token) (from : ℕ) (e : SyntaxFault) → e ≢ faults.Memory → IsSyntaxFault f (words_behind text tokens from) 0 e → RefusedText text tokens from
  refused_text text tokens from (faults.Bad at) told h =
      let past = some_past_first f told_follow (take at (words_behind text tokens from)) (drop at (words_behind text tokens from)) (words_before f (words_behind text tokens from) at h) in
      (faults.Bad (token_place text tokens from at + past.0), record { word_fault = faults.Bad at; refused = h; past = past.0; is_past = past.1; is = refl }, λ e. cc)
  refused_text text tokens from (faults.TooDeep at) told h =
      (faults.TooDeep (token_place text tokens from at + 0), record { word_fault = faults.TooDeep at; refused = h; past = 0; is_past = refl; is = refl }, λ e. cc)
  refused_text text tokens from (faults.Unsupported at) told h = absurd h
  refused_text text tokens from faults.Memory told h = absurd (told refl)

  pub parsed_or_refused : (text : List ℕ) (tokens : List Token) (from : ℕ)
      → ((t : ParseTree) × (end : ℕ) × ParsesAtToken f text tokens from t end) ⊎ ((e : SyntaxFault) × IsRefusedIn f text tokens from e × (e ≢ faults.Memory))
  parsed_or_refused text tokens from = elim (answer (words_behind text tokens from)) [
    | inl got ↦ inl (got.tree, token_place text tokens from got.place, record { place = got.place; stands = got.stands; ends = refl })
    | inr stopped ↦ inr (refused_text text tokens from stopped.fault stopped.told stopped.refused)
  ]

  -- ---- and no other one

  stands_is : (ws : List Word) (t : ParseTree) (place : ℕ) → ParsesAt f ws 0 t place → read rule 64 f ws ≡ Parsed t (drop place ws)
  stands_is ws t place h = read_is_got rule model after checked 64 f ok ws t (drop place ws) h.1

  bad_is : (ws : List Word) (at : ℕ) → IsSyntaxFault f ws 0 (faults.Bad at) → read rule 64 f ws ≡ Failed Bad (drop at ws)
  bad_is ws at h = bad_is_fault rule model after checked 64 f ok ws (drop at ws) h.1

  deep_is : (ws : List Word) (at : ℕ) → IsSyntaxFault f ws 0 (faults.TooDeep at) → read rule 64 f ws ≡ Failed TooDeep (drop at ws)
  deep_is ws at h = too_deep_is_fault rule model after checked 64 f ok ws (drop at ws) h.1

  stands_or_stops : (ws : List Word) (t : ParseTree) (place : ℕ) → ParsesAt f ws 0 t place → (e : SyntaxFault) → IsSyntaxFault f ws 0 e → e ≡ faults.Memory
  stands_or_stops ws t place h (faults.Bad at) refused = let same = sym (stands_is ws t place h) ∙ bad_is ws at refused in absurd cc
  stands_or_stops ws t place h (faults.TooDeep at) refused = let same = sym (stands_is ws t place h) ∙ deep_is ws at refused in absurd cc
  stands_or_stops ws t place h (faults.Unsupported at) refused = absurd refused
  stands_or_stops ws t place h faults.Memory refused = refl

  pub not_refused : (text : List ℕ) (tokens : List Token) (from : ℕ) (t : ParseTree) (end : ℕ) (e : SyntaxFault) → ParsesAtToken f text tokens from t end → IsRefusedIn f text tokens from e → e ≡ faults.Memory
  not_refused text tokens from t end e one two =
      let none = stands_or_stops (words_behind text tokens from) t one.place one.stands two.word_fault two.refused in
      two.is ∙ ap (λ (d : SyntaxFault). moved (token_place text tokens from (place_of two.word_fault) + two.past) d) none

  pub one_tree : (text : List ℕ) (tokens : List Token) (from : ℕ) (t u : ParseTree) (end stop : ℕ) → ParsesAtToken f text tokens from t end → ParsesAtToken f text tokens from u stop → (t ≡ u) × (end ≡ stop)
  one_tree text tokens from t u end stop one two =
      let ws = words_behind text tokens from in
      let same : Parsed t (drop one.place ws) ≡ Parsed u (drop two.place ws) = sym (stands_is ws t one.place one.stands) ∙ stands_is ws u two.place two.stands in
      let tree_is : t ≡ u = cc in
      let rest : drop one.place ws ≡ drop two.place ws = cc in
      let place_is = same_place ws one.place two.place one.stands.0 two.stands.0 rest in
      (tree_is, one.ends ∙ ap (λ (n : ℕ). token_place text tokens from n) place_is ∙ sym two.ends)

  -- one refusal of words
  one_stop : (ws : List Word) (d e : SyntaxFault) → d ≢ faults.Memory → e ≢ faults.Memory → IsSyntaxFault f ws 0 d → IsSyntaxFault f ws 0 e → d ≡ e
  one_stop ws (faults.Bad a) (faults.Bad b) one two h g =
      let same : Failed Bad (drop a ws) ≡ Failed Bad (drop b ws) = sym (bad_is ws a h) ∙ bad_is ws b g in
      let rest : drop a ws ≡ drop b ws = cc in
      ap (λ (n : ℕ). faults.Bad n) (same_place ws a b h.0 g.0 rest)
  one_stop ws (faults.TooDeep a) (faults.TooDeep b) one two h g =
      let same : Failed TooDeep (drop a ws) ≡ Failed TooDeep (drop b ws) = sym (deep_is ws a h) ∙ deep_is ws b g in
      let rest : drop a ws ≡ drop b ws = cc in
      ap (λ (n : ℕ). faults.TooDeep n) (same_place ws a b h.0 g.0 rest)
  one_stop ws (faults.Bad a) (faults.TooDeep b) one two h g = let same = sym (bad_is ws a h) ∙ deep_is ws b g in absurd cc
  one_stop ws (faults.TooDeep a) (faults.Bad b) one two h g = let same = sym (deep_is ws a h) ∙ bad_is ws b g in absurd cc
  one_stop ws (faults.Unsupported a) e one two h g = absurd h
  one_stop ws faults.Memory e one two h g = absurd (one refl)
  one_stop ws (faults.Bad a) (faults.Unsupported b) one two h g = absurd g
  one_stop ws (faults.Bad a) faults.Memory one two h g = absurd (two refl)
  one_stop ws (faults.TooDeep a) (faults.Unsupported b) one two h g = absurd g
  one_stop ws (faults.TooDeep a) faults.Memory one two h g = absurd (two refl)

  one_past_of : (ws : List Word) (e : SyntaxFault) (m n : ℕ) → IsPastOf f ws e m → IsPastOf f ws e n → m ≡ n
  one_past_of ws (faults.Bad at) m n h g = one_past_at f ws at m n h g
  one_past_of ws (faults.TooDeep at) m n h g = h ∙ sym g
  one_past_of ws (faults.Unsupported at) m n h g = h ∙ sym g
  one_past_of ws faults.Memory m n h g = h ∙ sym g

  -- a refusal that isn't want of memory is of words that are so
  of_words : (place : ℕ) (d e : SyntaxFault) → e ≢ faults.Memory → e ≡ moved place d → d ≢ faults.Memory
  of_words place d e told is none = told (is ∙ ap (λ (x : SyntaxFault). moved place x) none)

  pub one_refusal : (text : List ℕ) (tokens : List Token) (from : ℕ) (d e : SyntaxFault) → IsRefusedIn f text tokens from d → IsRefusedIn f text tokens from e → d ≢ faults.Memory → e ≢ faults.Memory → d ≡ e
  one_refusal text tokens from d e one two told other =
      let ws = words_behind text tokens from in
      let place = λ (x : SyntaxFault) (n : ℕ). token_place text tokens from (place_of x) + n in
      let same = one_stop ws one.word_fault two.word_fault (of_words (place one.word_fault one.past) one.word_fault d told one.is) (of_words (place two.word_fault two.past) two.word_fault e other two.is) one.refused two.refused in
      let past = one_past_of ws two.word_fault one.past two.past (subst (λ (x : SyntaxFault). IsPastOf f ws x one.past) same one.is_past) two.is_past in
      one.is ∙ ap (λ (x : SyntaxFault). moved (place x one.past) x) same ∙ ap (λ (n : ℕ). moved (place two.word_fault n) two.word_fault) past ∙ sym two.is
