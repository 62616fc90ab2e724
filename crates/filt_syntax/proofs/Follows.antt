-- Whether a word can stand behind others, by what the parser answers to them all.
use Rattle.std.proofs.Common.{◌≡◌, ◌↔◌, ℕ, ◌+◌, ◌≤◌, Bool, true, IsTrue, List, [], ◌∷◌, ◌++◌, length, take, drop, Some, refl, sym, ap, subst, ◌∙◌, append_assoc, append-nil, arith, ◌==◌, inl, inr}
use Rattle.std.proofs.lemmas.List.{length-append, length-drop, take_at}
use Rattle.std.proofs.lemmas.Bool.{eqb-true}
use Rattle.conf_lex.specs.declared.word.Word.{Word}
use Rattle.conf_lex.specs.Grammar.{ParseTree, yield, DerivesLongest, too_deep}
use Rattle.conf_lex.specs.Sentences.{IsBegun, IsBegunWithin, IsLast, IsTooDeep}
use Rattle.conf_lex.proofs.Checks.{check}
use Rattle.conf_lex.proofs.Exact.{whole}
use Rattle.conf_lex.proofs.Unique.{fronts, late_outcome, too_deep_is_fault}
use Rattle.expr_syntax.specs.Syntax.{rule}
use Rattle.expr_syntax.specs.Levels.{Form}
use Rattle.filt_syntax.specs.declared.parse.SyntaxFault.{SyntaxFault}
use Rattle.filt_syntax.specs.declared.parse.SyntaxFault.TheVariants as faults
use Rattle.filt_syntax.specs.Parse.{ParsesAt, IsSyntaxFault}
use Rattle.filt_syntax.specs.RefusedToken.{CanFollow}
use Rattle.filt_syntax.specs.Inside.{IsEndBy}
use Rattle.expr_syntax.proofs.Tested.{model, after, checked}

-- ---- fronts

pub begun_next : (f : Form) (t : ParseTree) (before : List Word) (w : Word) (more : List Word) → DerivesLongest rule t f → yield t ≡ before ++ w ∷ more → IsBegun rule f (before ++ w ∷ [])
begun_next f t before w more fits e = (t, more, fits, e ∙ sym (append_assoc before (w ∷ []) more))

-- the first word of the rest is none that goes on
pub not_next : (f : Form) (before rest : List Word) → IsLast rule f before rest → (w : Word) (u : List Word) → rest ≡ w ∷ u → IsBegun rule f (before ++ w ∷ []) → ⊥
not_next f before [] last w u e begun = cc
not_next f before (v ∷ rest) last w u e begun = let same : v ≡ w = cc in last (subst (λ (x : Word). IsBegun rule f (before ++ x ∷ [])) (sym same) begun)

-- a front of what is begun is begun
begun_front : (f : Form) (ws front : List Word) (w : Word) (more : List Word) → ws ≡ front ++ w ∷ more → IsBegun rule f ws → IsBegun rule f (front ++ w ∷ [])
begun_front f ws front w more e b =
    begun_next f b.0 front w (more ++ b.1) b.2 (b.3 ∙ ap (λ (u : List Word). u ++ b.1) e ∙ append_assoc front (w ∷ more) b.1)

module _ (k : ℕ) (f : Form) (ok : check model after f ≡ true) where
  -- what begins within the levels has no word that opens one too many
  pub no_deep_within : (before : List Word) → IsBegunWithin rule k f before → (front : List Word) (w : Word) (m : List Word) → before ≡ front ++ w ∷ m → (t : ParseTree) (more : List Word) → DerivesLongest rule t f → yield t ≡ front ++ w ∷ more → too_deep t k ≡ Some (w ∷ more) → ⊥
  no_deep_within before b front w m e t more fits reads levels =
      let all : yield b.0 ≡ front ++ w ∷ (m ++ b.1) = b.3 ∙ ap (λ (u : List Word). u ++ b.1) e ∙ append_assoc front (w ∷ m) b.1 in
      let deep : IsTooDeep rule k f (yield b.0) (w ∷ (m ++ b.1)) = record { before = front; opener = w; behind = m ++ b.1; tree = t; more = more; front = all; opens = refl; fits = fits; begun = reads; levels = levels } in
      let failed = too_deep_is_fault rule model after checked k f ok (yield b.0) (w ∷ (m ++ b.1)) deep in
      late_outcome (too_deep b.0 k) b.0 b.1 (w ∷ (m ++ b.1)) b.4 (sym (whole rule model after checked k f ok b.0 b.2) ∙ failed) (omega (arith, length-append m b.1))

  -- a level too many is opened by the last word alone, where the words before it have none
  pub deep_follows : (before : List Word) (w : Word) (rest : List Word) → IsBegunWithin rule k f before → IsTooDeep rule k f (before ++ w ∷ []) rest → IsBegun rule f (before ++ w ∷ [])
  deep_follows before w rest b g =
      let all : before ++ w ∷ [] ≡ g.before ++ g.opener ∷ g.behind = g.front ∙ ap (λ (v : List Word). g.before ++ v) g.opens in
      elim (fronts before (w ∷ []) g.before (g.opener ∷ g.behind) all) [
        | inl same ↦
            let word : g.opener ≡ w = let p = same.1 in cc in
            begun_next f g.tree before w g.more g.fits (g.begun ∙ ap (λ (u : List Word). u ++ g.opener ∷ g.more) (sym same.0) ∙ ap (λ (v : Word). before ++ v ∷ g.more) word)
        | inr x ↦ elim x [
          | inl l ↦
              let word : g.opener ≡ l.word = let p = l.rest in cc in
              let front : before ≡ g.before ++ g.opener ∷ l.more = l.front ∙ ap (λ (v : Word). g.before ++ v ∷ l.more) (sym word) in
              absurd (no_deep_within before b g.before g.opener l.more front g.tree g.more g.fits g.begun g.levels)
          | inr l ↦
              let tail : w ∷ [] ≡ l.word ∷ (l.more ++ g.opener ∷ g.behind) = l.rest in
              absurd (omega (arith, ap (λ (u : List Word). length u) tail, length-append l.more (g.opener ∷ g.behind)))
        ]
      ]

-- ---- what the parser answers

not_end : (ws rest : List Word) (w : Word) (u : List Word) (end : ℕ) → drop end ws ≡ w ∷ u → end ≡ length ws → ⊥
not_end ws rest w u end e at = omega (arith, at, ap (λ (l : List Word). length l) e, length-drop end ws)

at_end : (ws : List Word) (end : ℕ) → end ≤ length ws → drop end ws ≡ [] → end ≡ length ws
at_end ws end within e = omega (arith, within, ap (λ (l : List Word). length l) e, length-drop end ws)

eq_true : (m n : ℕ) → m ≡ n → (b : Bool) → b ≡ (m == n) → b ≡ true
eq_true m n e b is = is ∙ rw e (grind arith)

never_true : (m n : ℕ) → (m ≡ n → ⊥) → (b : Bool) → b ≡ (m == n) → IsTrue b → ⊥
never_true m n apart b is holds = apart (eqb-true m n (sym is ∙ holds))

module _ (f : Form) (ok : check model after f ≡ true) (ws before : List Word) (w : Word) (is : ws ≡ before ++ w ∷ []) where
  -- by a front of them that is begun, and behind which the next word can't stand
  by_rest : (end : ℕ) (front rest : List Word) → end ≤ length ws → drop end ws ≡ rest → ws ≡ front ++ rest → (rest ≡ [] → IsBegun rule f ws) → IsLast rule f front rest → (b : Bool) → b ≡ (end == length ws) → IsTrue b ↔ CanFollow f before w
  by_rest end front [] within cut whole begun last b same =
      (λ t. subst (λ (u : List Word). IsBegun rule f u) is (begun refl), λ can. eq_true end (length ws) (at_end ws end within cut) b same)
  by_rest end front (v ∷ rest) within cut whole begun last b same =
      (λ t. absurd (never_true end (length ws) (not_end ws rest v rest end cut) b same t), λ can. absurd (last (begun_front f ws front v rest whole (subst (λ (u : List Word). IsBegun rule f u) (sym is) can))))

  pub stands_follow : (t : ParseTree) (end : ℕ) → ParsesAt f ws 0 t end → (b : Bool) → b ≡ (end == length ws) → IsTrue b ↔ CanFollow f before w
  stands_follow t end h b same =
      by_rest end (yield t) (drop end ws) h.0 refl h.1.front
      (λ none. (t, [], h.1.fits, sym (append-nil (yield t)) ∙ ap (λ (u : List Word). yield t ++ u) (sym none) ∙ sym h.1.front ∙ sym (append-nil ws)))
      h.1.longest b same

  begun_is : (front rest : List Word) → ws ≡ front ++ rest → rest ≡ [] → IsBegun rule f front → IsBegun rule f ws
  begun_is front rest e none b = subst (λ (u : List Word). IsBegun rule f u) (sym (e ∙ ap (λ (u : List Word). front ++ u) none ∙ append-nil front)) b

  pub fault_follow : (e : SyntaxFault) → IsBegunWithin rule 64 f before → IsSyntaxFault f ws 0 e → (b : Bool) → IsEndBy e (length ws) b → IsTrue b ↔ CanFollow f before w
  fault_follow (faults.Bad at) begun h b same =
      by_rest at h.1.before (drop at ws) h.0 refl h.1.front
      (λ none. begun_is h.1.before (drop at ws) h.1.front none (h.1.begun.0, h.1.begun.1, h.1.begun.2, h.1.begun.3))
      h.1.last b same
  fault_follow (faults.TooDeep at) begun h b same =
      (λ t. deep_follows 64 f ok before w (drop at ws) begun (subst (λ (u : List Word). IsTooDeep rule 64 f u (drop at ws)) is h.1), λ can. same)
  fault_follow (faults.Unsupported at) begun h b same = absurd h
  fault_follow faults.Memory begun h b same = absurd same

-- the same of all of them
pub begun_by : (f : Form) (ws before : List Word) (w : Word) → ws ≡ before ++ w ∷ [] → (b : Bool) → IsTrue b ↔ CanFollow f before w → IsTrue b ↔ IsBegun rule f ws
begun_by f ws before w is b h = subst (λ (u : List Word). IsTrue b ↔ IsBegun rule f u) (sym is) h

-- ---- a word more, and gone again

pub gone_again : (old pushed new : List Word) (w : Word) (n : ℕ) → pushed ≡ old ++ w ∷ [] → n + 1 ≡ length pushed → new ≡ take n pushed → new ≡ old
gone_again old pushed new w n is len cut =
    let count : length old ≡ n = omega (arith, len, ap (λ (u : List Word). length u) is, length-append old (w ∷ [])) in
    cut ∙ ap (λ (u : List Word). take n u) is ∙ take_at old (w ∷ []) n count

-- the words before a word begin a sentence within the levels that they do with it
pub begun_before : (f : Form) (ws front : List Word) (w : Word) → ws ≡ front ++ w ∷ [] → IsBegunWithin rule 64 f ws → IsBegunWithin rule 64 f front
begun_before f ws front w is b =
    let all : yield b.0 ≡ front ++ (w ∷ b.1) = b.3 ∙ ap (λ (u : List Word). u ++ b.1) is ∙ append_assoc front (w ∷ []) b.1 in
    (b.0, w ∷ b.1, b.2, all, λ deep s. omega (arith, b.4 deep s))
