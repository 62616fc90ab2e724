-- What ports made, a table has: of each source just the changes of its one port.
use Rattle.std.proofs.Common.{◌≡◌, ℕ, suc, ◌+◌, inl, inr, Bool, true, false, cond, List, [], ◌∷◌, ◌++◌, length, map, reverse, refl, sym, ap, subst, ◌∙◌, arith, append-nil, append_assoc}
use Rattle.std.specs.Prelude.{Contains, ◌==◌, if◌then◌else◌}
use Rattle.std.proofs.lemmas.List.{reverse-append, reverse-reverse}
use Rattle.std.proofs.lemmas.Bool.{cases_Bool}
use Rattle.std.proofs.lemmas.Bool.Decides.{eqb_tells}
use Rattle.bits_ip.specs.Prefix.{Net}
use Rattle.attrs.specs.History.{Content, IsReal, after, empty}
use Rattle.attrs.specs.declared.journal.JEntry.{JEntry}
use Rattle.attrs.specs.declared.route.Change.{Change}
use Rattle.import_core.specs.declared.operation.Op.{Op}
use Rattle.jour_rule.specs.declared.views.Entry.{Entry}
use Rattle.jour_rule.specs.Journal.{receipts}
use Rattle.rec_words.specs.Entries.{Spells}
use Rattle.core_machine.specs.Histories.{AreReal, content_of, of_those, own}
use Rattle.core_machine.specs.Rules.{Rules, changes}
use Rattle.core_machine.proofs.Contents.{if_true, if_false}
use Rattle.table_shared.specs.Opening.{TableOpening, sources_of}
use Rattle.table_shared.specs.Records.{AreRecords, at_first, change_of}
use Rattle.table_shared.proofs.Histories.{real}
use Rattle.table_shared.proofs.Records.{after_both}
use Rattle.phase_legal.specs.Changes.{AreMade, AreWithin, IsAlone, IsNobodys, Says, changes_in, entered, given, made_by}

module _ (one : (words : List ℕ) (a b : JEntry) → Spells a words → Spells b words → a ≡ b) where
  says_one : (words : List ℕ) (c d : Change) → Says words c → Says words d → c ≡ d
  says_one words c d p q = sym p.2 ∙ ap change_of (one words p.0 q.0 p.1 q.1) ∙ q.2

  -- receipts say one list of changes
  pub made_one : (rs : List (ℕ × List ℕ)) (xs ys : List (ℕ × Change)) → AreMade rs xs → AreMade rs ys → xs ≡ ys
  made_one [] [] [] p q = refl
  made_one [] [] (y ∷ ys) p q = absurd q
  made_one [] (x ∷ xs) ys p q = absurd p
  made_one (r ∷ rs) [] ys p q = absurd p
  made_one (r ∷ rs) (x ∷ xs) [] p q = absurd q
  made_one (r ∷ rs) (x ∷ xs) (y ∷ ys) p q =
      let at : x.0 ≡ y.0 = p.0.0 ∙ sym q.0.0 in
      let change : x.1 ≡ y.1 = says_one r.1 x.1 y.1 p.0.1 q.0.1 in
      let rest : xs ≡ ys = made_one rs xs ys p.1 q.1 in
      λ i. (at i, change i) ∷ rest i

-- a port's receipts are what it made of the entries
pub made_here : (opening : TableOpening) (before : Content) (n k : ℕ) (es : List Entry) (said : List JEntry) → AreRecords opening before es said → AreMade (receipts n k es) (made_by n k (entered es said))
made_here opening before n k [] [] are = tt
made_here opening before n k [] (s ∷ ss) are = absurd are
made_here opening before n k (e ∷ es) [] are = absurd are
made_here opening before n k (e ∷ es) (s ∷ ss) are =
    let rest = made_here opening (after before (change_of s ∷ [])) (suc n) k es ss are.1 in
    elim (e.maker == k) as (λ b. AreMade (cond b ((suc n, e.words) ∷ receipts (suc n) k es) (receipts (suc n) k es)) (cond b ((suc n, change_of s) ∷ made_by (suc n) k (entered es ss)) (made_by (suc n) k (entered es ss)))) [
      | true ↦ ((refl, (s, are.0.words, refl)), rest)
      | false ↦ rest
    ]

pub those_both : (test : ℕ → Bool) (xs ys : List Change) → of_those test (xs ++ ys) ≡ of_those test xs ++ of_those test ys
those_both test [] ys = refl
those_both test (c ∷ xs) ys = elim (test c.num) as (λ b. (if b then c ∷ of_those test (xs ++ ys) else of_those test (xs ++ ys)) ≡ (if b then c ∷ of_those test xs else of_those test xs) ++ of_those test ys) [
  | true ↦ ap (λ z. c ∷ z) (those_both test xs ys)
  | false ↦ those_both test xs ys
]

-- one change before the others, read backwards
those_last : (test : ℕ → Bool) (c : Change) (cs : List Change) → of_those test (reverse (c ∷ cs)) ≡ of_those test (reverse cs) ++ (if test c.num then c ∷ [] else [])
those_last test c cs = ap (of_those test) (reverse-append (c ∷ []) cs) ∙ those_both test (reverse cs) (c ∷ [])

-- the changes of a port's sources are what it made
pub those_made :
    (test : ℕ → Bool) (opening : TableOpening) (k : ℕ) → IsAlone test opening k → (before : Content) (n : ℕ) (es : List Entry) (said : List JEntry) → AreRecords opening before es said
    → of_those test (reverse (map change_of said)) ≡ reverse (changes_in (made_by n k (entered es said)))
those_made test opening k alone before n [] [] are = refl
those_made test opening k alone before n [] (s ∷ ss) are = absurd are
those_made test opening k alone before n (e ∷ es) [] are = absurd are
those_made test opening k alone before n (e ∷ es) (s ∷ ss) are =
    let made : List (ℕ × Change) = made_by (suc n) k (entered es ss) in
    let more = those_made test opening k alone (after before (change_of s ∷ [])) (suc n) es ss are.1 in
    those_last test (change_of s) (map change_of ss)
    ∙ elim (eqb_tells e.maker k) [
      | inl w ↦
          let mine : test s.num ≡ true = alone.mine s.num (subst (λ z. Contains (sources_of opening z) s.num) w.1 are.0.source) in
          ap (λ z. of_those test (reverse (map change_of ss)) ++ z) (if_true (test s.num) (change_of s ∷ []) [] mine)
          ∙ ap (λ z. z ++ change_of s ∷ []) more
          ∙ sym (reverse-append (change_of s ∷ []) (changes_in made))
          ∙ ap (λ b. reverse (changes_in (cond b ((suc n, change_of s) ∷ made) made))) (sym w.0)
      | inr w ↦
          let other : test s.num ≡ false = elim (cases_Bool (test s.num)) [ inl t ↦ absurd (w.1 (alone.alone e.maker s.num are.0.source t)) | inr f ↦ f ] in
          ap (λ z. of_those test (reverse (map change_of ss)) ++ z) (if_false (test s.num) (change_of s ∷ []) [] other)
          ∙ append-nil (of_those test (reverse (map change_of ss)))
          ∙ more
          ∙ ap (λ b. reverse (changes_in (cond b ((suc n, change_of s) ∷ made) made))) (sym w.0)
    ]

-- there are none of sources that no port has
pub those_none : (test : ℕ → Bool) (opening : TableOpening) → IsNobodys test opening → (before : Content) (es : List Entry) (said : List JEntry) → AreRecords opening before es said → of_those test (reverse (map change_of said)) ≡ []
those_none test opening none before [] [] are = refl
those_none test opening none before [] (s ∷ ss) are = absurd are
those_none test opening none before (e ∷ es) [] are = absurd are
those_none test opening none before (e ∷ es) (s ∷ ss) are =
    those_last test (change_of s) (map change_of ss)
    ∙ ap (λ z. of_those test (reverse (map change_of ss)) ++ z) (if_false (test s.num) (change_of s ∷ []) [] (none e.maker s.num are.0.source))
    ∙ append-nil (of_those test (reverse (map change_of ss)))
    ∙ those_none test opening none (after before (change_of s ∷ [])) es ss are.1

-- ---- real histories

real_both : (start : Content) (xs ys : List Change) → IsReal start xs → IsReal (after start xs) ys → IsReal start (xs ++ ys)
real_both start [] ys p q = q
real_both start (x ∷ xs) ys p q = (p.0, real_both (after start (x ∷ [])) xs ys p.1 (subst (λ z. IsReal z ys) (after_both start (x ∷ []) xs) q))

pub real_on : (opening : TableOpening) (es : List Entry) (said : List JEntry) (before : List Change) → AreRecords opening (at_first opening) es said
    → ((net : Net) (num : ℕ) → at_first opening net num ≡ content_of before net num) → AreReal before → AreReal (reverse (map change_of said) ++ before)
real_on opening es said before are same past =
    let cs : List Change = map change_of said in
    let here : at_first opening ≡ content_of before = λ i net num. same net num i in
    subst (IsReal empty) (sym (reverse-append (reverse cs) before ∙ ap (λ z. reverse before ++ z) (reverse-reverse cs)))
    (real_both empty (reverse before) cs past (subst (λ z. IsReal z cs) here (real opening (at_first opening) es said are)))

-- ---- what operations give

pub given_on : (rules : Rules) (i : ℕ) (past ops : List Op) → changes rules i (ops ++ past) ≡ given rules i past ops ++ changes rules i past
given_on rules i past [] = refl
given_on rules i past (op ∷ ops) =
    ap (λ z. (rules.gives i (ops ++ past) op).changes ++ z) (given_on rules i past ops)
    ∙ sym (append_assoc (rules.gives i (ops ++ past) op).changes (given rules i past ops) (changes rules i past))

module _ (one : (words : List ℕ) (a b : JEntry) → Spells a words → Spells b words → a ≡ b) where
  -- the changes of a port's sources are those that its receipts say
  pub those_said :
      (test : ℕ → Bool) (opening : TableOpening) (before : Content) (n k : ℕ) (es : List Entry) (said : List JEntry) (made : List (ℕ × Change)) → AreRecords opening before es said → IsAlone test opening k
      → AreMade (receipts n k es) made → of_those test (reverse (map change_of said)) ≡ reverse (changes_in made)
  those_said test opening before n k es said made are alone says =
      those_made test opening k alone before n es said are
      ∙ ap (λ z. reverse (changes_in z)) (made_one one (receipts n k es) (made_by n k (entered es said)) made (made_here opening before n k es said are) says)

  pub exact_on :
      (rules : Rules) (i : ℕ) (past ops : List Op) (before : List Change) (opening : TableOpening) (n k : ℕ) (es : List Entry) (said : List JEntry) (made : List (ℕ × Change))
      → own i before ≡ changes rules i past → AreRecords opening (at_first opening) es said → IsAlone (λ num. num == i) opening k → AreMade (receipts n k es) made
      → given rules i past ops ≡ reverse (changes_in made) → own i (reverse (map change_of said) ++ before) ≡ changes rules i (ops ++ past)
  exact_on rules i past ops before opening n k es said made was are alone says gave =
      those_both (λ num. num == i) (reverse (map change_of said)) before
      ∙ ap (λ z. z ++ own i before) (those_said (λ num. num == i) opening (at_first opening) n k es said made are alone says ∙ sym gave)
      ∙ ap (λ z. given rules i past ops ++ z) was
      ∙ sym (given_on rules i past ops)

-- ---- positions

made_step : (n k : ℕ) (e : Entry) (es : List Entry) (b : Bool) → ((made : List (ℕ × Change)) → AreMade (receipts (suc n) k es) made → AreWithin (suc n + length es) made)
    → (made : List (ℕ × Change)) → AreMade (cond b ((suc n, e.words) ∷ receipts (suc n) k es) (receipts (suc n) k es)) made → AreWithin (suc n + length es) made
made_step n k e es true more [] are = absurd are
made_step n k e es true more (m ∷ made) are = ((let at = are.0.0 in omega (arith, at)), more made are.1)
made_step n k e es false more made are = more made are

-- what a port made stands at most at the head of what it has seen
pub made_within : (n k : ℕ) (es : List Entry) (made : List (ℕ × Change)) → AreMade (receipts n k es) made → AreWithin (n + length es) made
made_within n k [] [] are = tt
made_within n k [] (m ∷ made) are = absurd are
made_within n k (e ∷ es) made are =
    subst (λ z. AreWithin z made) (let h : suc n + length es ≡ n + length (e ∷ es) = omega arith in h)
    (made_step n k e es (e.maker == k) (λ ms is. made_within (suc n) k es ms is) made are)
