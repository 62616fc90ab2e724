-- What was read, by places in the words.
use Rattle.std.proofs.Common.{◌≡◌, ℕ, ◌+◌, ◌-◌, ◌≤◌, List, ◌++◌, length, take, drop, refl, sym, ap, subst, ◌∙◌, arith, append_assoc, Ok, Err, inl, inr}
use Rattle.std.proofs.lemmas.List.{length-append, length-drop, take-append-drop, drop_at}
use Rattle.conf_lex.specs.declared.word.Word.{Word}
use Rattle.conf_lex.specs.Grammar.{ParseTree, yield}
use Rattle.conf_lex.specs.Reading.{Parsed, Failed, Reader, read}
use Rattle.conf_lex.specs.Grammar.{Why, Bad, TooDeep}
use Rattle.conf_lex.specs.Sentences.{IsBad, IsTooDeep}
use Rattle.conf_lex.proofs.Exact.{got_is_read, read_is_got, fault_is_bad, fault_is_too_deep}
use Rattle.conf_lex.proofs.Unique.{bad_is_fault, too_deep_is_fault}
use Rattle.filt_syntax.specs.declared.parse.SyntaxFault.{SyntaxFault}
use Rattle.filt_syntax.specs.declared.parse.SyntaxFault.TheVariants as faults
use Rattle.conf_lex.specs.declared.refusal.Refusal.{Refusal}
use Rattle.conf_lex.specs.declared.refusal.Refusal.TheVariants as refusals
use Rattle.conf_lex.specs.Agrees.{AgreesOnError}
use Rattle.expr_syntax.specs.Syntax.{rule}
use Rattle.expr_syntax.specs.Levels.{Form}
use Rattle.filt_syntax.specs.Parse.{ParsesAt, IsSyntaxFault, IsFault}
use Rattle.filt_syntax.specs.Inside.{refused_words, fault_of}
use Rattle.expr_syntax.proofs.Tested.{is_checked, model, after, checked}

-- the rest of what stands from a place on
ends : (words front rest : List Word) (from n : ℕ) → from ≤ length words → drop from words ≡ front ++ rest → n + length rest ≡ length words → drop n words ≡ rest
ends words front rest from n in_range is len =
    let whole : words ≡ (take from words ++ front) ++ rest = sym (take-append-drop from words) ∙ ap (λ (u : List Word). take from words ++ u) is ∙ sym (append_assoc (take from words) front rest) in
    let count : length (take from words ++ front) ≡ n = omega (arith, ap (λ (u : List Word). length u) whole, length-append (take from words ++ front) rest) in
    ap (λ (u : List Word). drop n u) whole ∙ drop_at (take from words ++ front) rest n count

fewer : (words front rest : List Word) (from : ℕ) → drop from words ≡ front ++ rest → length rest ≤ length words
fewer words front rest from is = omega (arith, ap (λ (u : List Word). length u) is, length-append front rest, length-drop from words)

module _ (f : Form) (ok : is_checked f) (reader : Reader) (same_reader : (ws : List Word) → read rule 64 f ws ≡ reader ws) (words : List Word) (from : ℕ) (in_range : from ≤ length words) where
  pub got_fewer : (t : ParseTree) (rest : List Word) → reader (drop from words) ≡ Parsed t rest → length rest ≤ length words
  got_fewer t rest e = fewer words (yield t) rest from (got_is_read rule model after checked 64 f ok (drop from words) t rest (same_reader (drop from words) ∙ e)).front

  bad_fewer : (rest : List Word) → reader (drop from words) ≡ Failed Bad rest → length rest ≤ length words
  bad_fewer rest e = let h = fault_is_bad rule model after checked 64 f ok (drop from words) rest (same_reader (drop from words) ∙ e) in fewer words h.before rest from h.front

  deep_fewer : (rest : List Word) → reader (drop from words) ≡ Failed TooDeep rest → length rest ≤ length words
  deep_fewer rest e = let h = fault_is_too_deep rule model after checked 64 f ok (drop from words) rest (same_reader (drop from words) ∙ e) in fewer words h.before rest from h.front

  pub got_stands : (t : ParseTree) (rest : List Word) (n : ℕ) → n + length rest ≡ length words → reader (drop from words) ≡ Parsed t rest → ParsesAt f words from t n
  got_stands t rest n len e =
      let h = got_is_read rule model after checked 64 f ok (drop from words) t rest (same_reader (drop from words) ∙ e) in
      let place = ends words (yield t) rest from n in_range h.front len in
      (omega arith, rw place h)

  bad_refused : (rest : List Word) (n : ℕ) → n + length rest ≡ length words → reader (drop from words) ≡ Failed Bad rest → IsSyntaxFault f words from (faults.Bad n)
  bad_refused rest n len e =
      let h = fault_is_bad rule model after checked 64 f ok (drop from words) rest (same_reader (drop from words) ∙ e) in
      let place = ends words h.before rest from n in_range h.front len in
      (omega arith, subst (λ (u : List Word). IsBad rule 64 f (drop from words) u) (sym place) h)

  deep_refused : (rest : List Word) (n : ℕ) → n + length rest ≡ length words → reader (drop from words) ≡ Failed TooDeep rest → IsSyntaxFault f words from (faults.TooDeep n)
  deep_refused rest n len e =
      let h = fault_is_too_deep rule model after checked 64 f ok (drop from words) rest (same_reader (drop from words) ∙ e) in
      let place = ends words h.before rest from n in_range h.front len in
      (omega arith, subst (λ (u : List Word). IsTooDeep rule 64 f (drop from words) u) (sym place) h)

  stands_read : (t : ParseTree) (end : ℕ) → ParsesAt f words from t end → read rule 64 f (drop from words) ≡ Parsed t (drop end words)
  stands_read t end h = read_is_got rule model after checked 64 f ok (drop from words) t (drop end words) h.1

  pub got_only : (t : ParseTree) (rest : List Word) (n : ℕ) → n + length rest ≡ length words → reader (drop from words) ≡ Parsed t rest → (other : ParseTree) (end : ℕ) → ParsesAt f words from other end → (t ≡ other) × (n ≡ end)
  got_only t rest n len e other end h =
      let same : Parsed t rest ≡ Parsed other (drop end words) = sym e ∙ sym (same_reader (drop from words)) ∙ stands_read other end h in
      let rest-is : rest ≡ drop end words = cc in
      let tree-is : t ≡ other = cc in
      (tree-is, omega (arith, h.0, ap (λ (u : List Word). length u) rest-is, length-drop end words))

  not_fault : (rest : List Word) (why : Why) → reader (drop from words) ≡ Failed why rest → (other : ParseTree) (end : ℕ) → ParsesAt f words from other end → ⊥
  not_fault rest why e other end h =
      let same : Failed why rest ≡ Parsed other (drop end words) = sym e ∙ sym (same_reader (drop from words)) ∙ stands_read other end h in
      cc

  same_end : (n end : ℕ) (rest : List Word) → n + length rest ≡ length words → end ≤ length words → rest ≡ drop end words → n ≡ end
  same_end n end rest len within is = omega (arith, ap (λ (u : List Word). length u) is, length-drop end words)

  -- what was read is not refused
  pub got_exact : (X : Type 0) (found : X × ℕ) (t : ParseTree) (rest : List Word) → reader (drop from words) ≡ Parsed t rest → (e : SyntaxFault) → IsSyntaxFault f words from e → IsFault {X = X} (Ok found) e
  got_exact X found t rest got (faults.Bad at) h = let bad = sym got ∙ sym (same_reader (drop from words)) ∙ bad_is_fault rule model after checked 64 f ok (drop from words) (drop at words) h.1 in cc
  got_exact X found t rest got (faults.TooDeep at) h = let deep = sym got ∙ sym (same_reader (drop from words)) ∙ too_deep_is_fault rule model after checked 64 f ok (drop from words) (drop at words) h.1 in cc
  got_exact X found t rest got (faults.Unsupported at) h = absurd h
  got_exact X found t rest got faults.Memory h = tt

  bad_exact : (X : Type 0) (rest : List Word) (n : ℕ) → n + length rest ≡ length words → reader (drop from words) ≡ Failed Bad rest → (e : SyntaxFault) → IsSyntaxFault f words from e → IsFault {X = X} (Err (faults.Bad n)) e
  bad_exact X rest n len failed (faults.Bad at) h =
      let same = sym failed ∙ sym (same_reader (drop from words)) ∙ bad_is_fault rule model after checked 64 f ok (drop from words) (drop at words) h.1 in
      let rest-is : rest ≡ drop at words = cc in
      inr (ap (λ (m : ℕ). faults.Bad m) (same_end n at rest len h.0 rest-is))
  bad_exact X rest n len failed (faults.TooDeep at) h = let same = sym failed ∙ sym (same_reader (drop from words)) ∙ too_deep_is_fault rule model after checked 64 f ok (drop from words) (drop at words) h.1 in absurd cc
  bad_exact X rest n len failed (faults.Unsupported at) h = absurd h
  bad_exact X rest n len failed faults.Memory h = tt

  deep_exact : (X : Type 0) (rest : List Word) (n : ℕ) → n + length rest ≡ length words → reader (drop from words) ≡ Failed TooDeep rest → (e : SyntaxFault) → IsSyntaxFault f words from e → IsFault {X = X} (Err (faults.TooDeep n)) e
  deep_exact X rest n len failed (faults.Bad at) h = let same = sym failed ∙ sym (same_reader (drop from words)) ∙ bad_is_fault rule model after checked 64 f ok (drop from words) (drop at words) h.1 in absurd cc
  deep_exact X rest n len failed (faults.TooDeep at) h =
      let same = sym failed ∙ sym (same_reader (drop from words)) ∙ too_deep_is_fault rule model after checked 64 f ok (drop from words) (drop at words) h.1 in
      let rest-is : rest ≡ drop at words = cc in
      inr (ap (λ (m : ℕ). faults.TooDeep m) (same_end n at rest len h.0 rest-is))
  deep_exact X rest n len failed (faults.Unsupported at) h = absurd h
  deep_exact X rest n len failed faults.Memory h = tt

  -- ---- a refusal, whatever its cause

  pub fault_fewer : (r : Refusal) → AgreesOnError r (reader (drop from words)) → length (refused_words r) ≤ length words
  fault_fewer refusals.Memory h = omega arith
  fault_fewer (refusals.Bad at) h = bad_fewer at.now h
  fault_fewer (refusals.TooDeep at) h = deep_fewer at.now h

  pub fault_refused : (r : Refusal) → AgreesOnError r (reader (drop from words)) → IsSyntaxFault f words from (fault_of (length words) r)
  fault_refused refusals.Memory h = tt
  fault_refused (refusals.Bad at) h = bad_refused at.now (length words - length at.now) (omega (arith, bad_fewer at.now h)) h
  fault_refused (refusals.TooDeep at) h = deep_refused at.now (length words - length at.now) (omega (arith, deep_fewer at.now h)) h

  pub fault_only : (r : Refusal) → AgreesOnError r (reader (drop from words)) → (t : ParseTree) (end : ℕ) → ParsesAt f words from t end → fault_of (length words) r ≡ faults.Memory
  fault_only refusals.Memory h t end stands = refl
  fault_only (refusals.Bad at) h t end stands = absurd (not_fault at.now Bad h t end stands)
  fault_only (refusals.TooDeep at) h t end stands = absurd (not_fault at.now TooDeep h t end stands)

  no_memory : (X : Type 0) (e : SyntaxFault) → IsFault {X = X} (Err faults.Memory) e
  no_memory X (faults.Bad at) = inl refl
  no_memory X (faults.TooDeep at) = inl refl
  no_memory X (faults.Unsupported at) = inl refl
  no_memory X faults.Memory = tt

  pub fault_exact : (X : Type 0) (r : Refusal) → AgreesOnError r (reader (drop from words)) → (e : SyntaxFault) → IsSyntaxFault f words from e → IsFault {X = X} (Err (fault_of (length words) r)) e
  fault_exact X refusals.Memory h e refused = no_memory X e
  fault_exact X (refusals.Bad at) h e refused = bad_exact X at.now (length words - length at.now) (omega (arith, bad_fewer at.now h)) h e refused
  fault_exact X (refusals.TooDeep at) h e refused = deep_exact X at.now (length words - length at.now) (omega (arith, deep_fewer at.now h)) h e refused
