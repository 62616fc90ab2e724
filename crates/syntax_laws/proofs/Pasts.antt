-- What stands before a refused word, and how far behind its first token it is refused, where it is told of each word whether
-- it can stand there.
use Rattle.std.proofs.Common.{◌≡◌, ℕ, ◌≤◌, Bool, if◌then◌else◌, List, [], ◌∷◌, ◌++◌, length, take, drop, refl, sym, ap, subst, ◌∙◌, arith, append_assoc, inl, inr, ◌⊎◌}
use Rattle.std.proofs.lemmas.List.{length-append, length-drop}
use Rattle.std.proofs.Math.Seq.{take-append_seam}
use Rattle.bits_ip.specs.declared.address.Addr.{Addr}
use Rattle.conf_lex.specs.Sentences.{IsBegunWithin}
use Rattle.conf_lex.specs.declared.word.Word.{Word}
use Rattle.conf_lex.specs.declared.word.Word.TheVariants as words
use Rattle.expr_syntax.specs.Syntax.{rule}
use Rattle.expr_syntax.specs.Levels.{Form}
use Rattle.filt_syntax.specs.Parse.{IsSyntaxFault}
use Rattle.filt_syntax.specs.RefusedToken.{CanFollow, some_prefix, some_address, EndInAddress, IsCount, IsPast, IsPastFirst}
use Rattle.filt_syntax.specs.declared.parse.SyntaxFault.TheVariants as faults
use Rattle.filt_syntax.specs.declared.refused_token.Torn.{Torn}
use Rattle.filt_syntax.specs.declared.refused_token.Torn.TheVariants as torns
use Rattle.filt_syntax.proofs.RefusedTokens.{last_is}
use Rattle.syntax_laws.proofs.Told.{Told}

told_alone : {P Q : Type 0} → Told P → Told Q → Told (P × (Q → ⊥))
told_alone (inl p) (inl q) = inr (λ both. both.1 q)
told_alone (inl p) (inr none) = inl (p, none)
told_alone (inr none) q = inr (λ both. none both.0)

counts : (P : Type 0) (most : ℕ) → Told P → (n : ℕ) × IsCount P most n
counts P most (inl p) = (most, inl (p, refl))
counts P most (inr none) = (0, inr (none, refl))

-- ---- last words

pub record Last (ws : List Word) : Type 0 where
  pub front : List Word
  pub word : Word
  pub cut : ws ≡ front ++ word ∷ []

last_behind : (w : Word) (ws : List Word) → (ws ≡ []) ⊎ Last ws → Last (w ∷ ws)
last_behind w ws (inl none) = record { front = []; word = w; cut = ap (λ (u : List Word). w ∷ u) none }
last_behind w ws (inr last) = record { front = w ∷ last.front; word = last.word; cut = ap (λ (u : List Word). w ∷ u) last.cut }

pub last_of : (ws : List Word) → (ws ≡ []) ⊎ Last ws
last_of [] = inl refl
last_of (w ∷ ws) = inr (last_behind w ws (last_of ws))

record IsIp (w : Word) : Type 0 where
  at : ℕ
  addr : Addr
  ip : w ≡ words.Ip at addr

told_ip : (w : Word) → Told (IsIp w)
told_ip (words.Ip at addr) = inl (record { at = at; addr = addr; ip = refl })
told_ip (words.Name at start len) = inr (λ is. let same = is.ip in cc)
told_ip (words.Number at value) = inr (λ is. let same = is.ip in cc)
told_ip (words.Text at start len) = inr (λ is. let same = is.ip in cc)
told_ip (words.Prefix at net) = inr (λ is. let same = is.ip in cc)
told_ip (words.BadPrefix at) = inr (λ is. let same = is.ip in cc)
told_ip (words.Attribute at a) = inr (λ is. let same = is.ip in cc)
told_ip (words.Constant at c) = inr (λ is. let same = is.ip in cc)
told_ip (words.Symbol s) = inr (λ is. let same = is.ip in cc)
told_ip (words.Placed at s) = inr (λ is. let same = is.ip in cc)

-- a front of what begins within the levels does so
pub front_begun : (f : Form) (ws front : List Word) (w : Word) → ws ≡ front ++ w ∷ [] → IsBegunWithin rule 64 f ws → IsBegunWithin rule 64 f front
front_begun f ws front w is b =
    (b.0, w ∷ b.1, b.2, b.3 ∙ ap (λ (u : List Word). u ++ b.1) is ∙ append_assoc front (w ∷ []) b.1, λ deep s. omega (arith, b.4 deep s))

-- ---- the words before a refused one

pub front_is : (ws front : List Word) (at : ℕ) → at ≤ length ws → ws ≡ front ++ drop at ws → front ≡ take at ws
front_is ws front at within is =
    let count : length front ≡ at = omega (arith, within, ap (λ (u : List Word). length u) is, length-append front (drop at ws), length-drop at ws) in
    sym (take-append_seam front (drop at ws)) ∙ ap (λ (u : List Word). take (length front) u) (sym is) ∙ ap (λ (n : ℕ). take n ws) count

pub words_before : (f : Form) (ws : List Word) (at : ℕ) → IsSyntaxFault f ws 0 (faults.Bad at) → IsBegunWithin rule 64 f (take at ws)
words_before f ws at h = subst (λ (u : List Word). IsBegunWithin rule 64 f u) (front_is ws h.1.before at h.0 h.1.front) h.1.begun

-- ---- how far

module _ (f : Form) (told_follow : (before : List Word) (w : Word) → IsBegunWithin rule 64 f before → Told (CanFollow f before w)) where
  address_by : (before front : List Word) (w : Word) → before ≡ front ++ w ∷ [] → IsBegunWithin rule 64 f before → Told (IsIp w) → Told (EndInAddress f before)
  address_by before front w cut begun (inl is) = elim (told_follow front some_prefix (front_begun f before front w cut begun)) [
    | inl can ↦ inl (record { front = front; at = is.at; addr = is.addr; cut = cut ∙ ap (λ (x : Word). front ++ x ∷ []) is.ip; prefix = can })
    | inr none ↦ inr (λ e. none (subst (λ (u : List Word). CanFollow f u some_prefix) (last_is e.front front (words.Ip e.at e.addr) w (sym e.cut ∙ cut)).0 e.prefix))
  ]
  address_by before front w cut begun (inr other) =
      inr (λ e. other (record { at = e.at; addr = e.addr; ip = (last_is front e.front w (words.Ip e.at e.addr) (sym cut ∙ e.cut)).1 }))

  told_address : (before : List Word) → IsBegunWithin rule 64 f before → Told (EndInAddress f before)
  told_address before begun = elim (last_of before) [
    | inl none ↦ inr (λ e. omega (arith, ap (λ (u : List Word). length u) none, ap (λ (u : List Word). length u) e.cut, length-append e.front (words.Ip e.at e.addr ∷ [])))
    | inr last ↦ address_by before last.front last.word last.cut begun (told_ip last.word)
  ]

  some_past : (before : List Word) (torn : Torn) (slash : Bool) → IsBegunWithin rule 64 f before → (n : ℕ) × IsPast f before torn slash n
  some_past before torns.Prefix slash begun = counts _ 1 (told_alone (told_follow before some_address begun) (told_follow before some_prefix begun))
  some_past before torns.Address slash begun = counts _ (if slash then 2 else 1) (told_alone (told_follow before some_prefix begun) (told_follow before some_address begun))
  some_past before torns.Slash slash begun = counts _ 1 (told_address before begun)
  some_past before torns.Other slash begun = (0, refl)

  pub some_past_first : (before rest : List Word) → IsBegunWithin rule 64 f before → (n : ℕ) × IsPastFirst f before rest n
  some_past_first before [] begun = (0, refl)
  some_past_first before (w ∷ ws) begun = some_past before _ _ begun
