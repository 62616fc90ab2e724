-- Records as a history of changes, and whose they are.
use Rattle.std.proofs.Common.{◌≡◌, ◌≢◌, ⊎_elim, ℕ, suc, Bool, true, false, ◌&&◌, ◌==◌, cond, List, [], ◌∷◌, map, Some, None, refl, sym, ap, ◌∙◌, subst}
use Rattle.std.specs.Prelude.{Contains, unwrap_or}
use Rattle.std.proofs.lemmas.Bool.{cases_Bool, eq-eqb, false≢true, ne_eqb}
use Rattle.bits_ip.specs.Prefix.{Net, same_net}
use Rattle.attrs.specs.History.{Content, IsReal, after, last_of}
use Rattle.attrs.specs.declared.journal.JEntry.{JEntry}
use Rattle.attrs.specs.declared.route.Change.{Change}
use Rattle.jour_rule.specs.declared.views.Entry.{Entry}
use Rattle.jour_rule.specs.Journal.{receipts}
use Rattle.rec_words.specs.Entries.{Spells}
use Rattle.table_shared.specs.Opening.{TableOpening, sources_of}
use Rattle.table_shared.specs.Records.{AreRecords, AreSaid, change_of}
use Rattle.table_shared.proofs.Records.{after_both}

pub real : (opening : TableOpening) (before : Content) (entries : List Entry) (said : List JEntry) → AreRecords opening before entries said → IsReal before (map change_of said)
real opening before [] [] are = tt
real opening before [] (s ∷ ss) are = absurd are
real opening before (e ∷ es) [] are = absurd are
real opening before (e ∷ es) (s ∷ ss) are = (are.0.real, real opening (after before (change_of s ∷ [])) es ss are.1)

-- a change leaves alike what stood alike
after_same : (left right : Content) (c : Change) (net : Net) (num : ℕ) → left net num ≡ right net num → after left (c ∷ []) net num ≡ after right (c ∷ []) net num
after_same left right c net num e = ap (unwrap_or (last_of net num (c ∷ []))) e

and_false : (b : Bool) → (b && false) ≡ false
and_false true = refl
and_false false = refl

-- and leaves the keys of other sources
after_other : (before : Content) (c : Change) (net : Net) (num : ℕ) → num ≢ c.num → after before (c ∷ []) net num ≡ before net num
after_other before c net num differs =
    ap (λ (b : Bool). unwrap_or (cond (same_net net c.net && b) (Some c.new) None) (before net num)) (ne_eqb num c.num differs)
    ∙ ap (λ (b : Bool). unwrap_or (cond b (Some c.new) None) (before net num)) (and_false (same_net net c.net))

module _ (one : (words : List ℕ) (a b : JEntry) → Spells a words → Spells b words → a ≡ b) where
  pub same_records : (opening : TableOpening) (before : Content) (entries : List Entry) (said other : List JEntry) → AreRecords opening before entries said → AreRecords opening before entries other → said ≡ other
  same_records opening before [] [] [] are also = refl
  same_records opening before [] [] (o ∷ os) are also = absurd also
  same_records opening before [] (s ∷ ss) other are also = absurd are
  same_records opening before (e ∷ es) [] other are also = absurd are
  same_records opening before (e ∷ es) (s ∷ ss) [] are also = absurd also
  same_records opening before (e ∷ es) (s ∷ ss) (o ∷ os) are also =
      let first : s ≡ o = one e.words s o are.0.words also.0.words in
      let rest : ss ≡ os = same_records opening (after before (change_of s ∷ [])) es ss os are.1 (subst (λ (x : JEntry). AreRecords opening (after before (change_of x ∷ [])) es os) (sym first) also.1) in
      λ i. first i ∷ rest i

  module _ (opening : TableOpening) (port num : ℕ) (net : Net) (alone : (other : ℕ) → Contains (sources_of opening other) num → other ≡ port) where
    -- the first receipt is of the first entry
    first_own :
        (left right : Content) (words : List ℕ) (position : ℕ) (s : JEntry) (ss : List JEntry) (rest : List (ℕ × List ℕ)) → Spells s words → left net num ≡ right net num
        → ((r : Content) (ms : List JEntry) → AreSaid rest ms → after left (change_of s ∷ []) net num ≡ r net num → after (after left (change_of s ∷ [])) (map change_of ss) net num ≡ after r (map change_of ms) net num)
        → (mine : List JEntry) → AreSaid ((position, words) ∷ rest) mine → after left (map change_of (s ∷ ss)) net num ≡ after right (map change_of mine) net num
    first_own left right words position s ss rest spelled e more [] said = absurd said
    first_own left right words position s ss rest spelled e more (m ∷ ms) said =
        let first : s ≡ m = one words s m spelled said.0 in
        let here : after left (change_of s ∷ []) net num ≡ after right (change_of m ∷ []) net num =
        after_same left right (change_of s) net num e ∙ ap (λ (x : JEntry). after right (change_of x ∷ []) net num) first in
        (λ i. after_both left (change_of s ∷ []) (map change_of ss) i net num)
        ∙ more (after right (change_of m ∷ [])) ms said.1 here
        ∙ (λ i. sym (after_both right (change_of m ∷ []) (map change_of ms)) i net num)

    pub owned :
        (before left right : Content) (start : ℕ) (entries : List Entry) (said mine : List JEntry) → AreRecords opening before entries said → AreSaid (receipts start port entries) mine
        → left net num ≡ right net num → after left (map change_of said) net num ≡ after right (map change_of mine) net num
    owned before left right start [] [] [] are own e = e
    owned before left right start [] [] (m ∷ ms) are own e = absurd own
    owned before left right start [] (s ∷ ss) mine are own e = absurd are
    owned before left right start (x ∷ xs) [] mine are own e = absurd are
    owned before left right start (x ∷ xs) (s ∷ ss) mine are own e = ⊎_elim
        (λ t. first_own left right x.words (suc start) s ss (receipts (suc start) port xs) are.0.words e
        (λ r ms own' here. owned (after before (change_of s ∷ [])) (after left (change_of s ∷ [])) r (suc start) xs ss ms are.1 own' here) mine
        (subst (λ (b : Bool). AreSaid (cond b ((suc start, x.words) ∷ receipts (suc start) port xs) (receipts (suc start) port xs)) mine) t own))
        (λ f.
        let other : num ≢ s.num = λ same. false≢true (sym f ∙ eq_test x.maker (alone x.maker (subst (Contains (sources_of opening x.maker)) (sym same) are.0.source))) in
        (λ i. after_both left (change_of s ∷ []) (map change_of ss) i net num)
        ∙ owned (after before (change_of s ∷ [])) (after left (change_of s ∷ [])) right (suc start) xs ss mine are.1
        (subst (λ (b : Bool). AreSaid (cond b ((suc start, x.words) ∷ receipts (suc start) port xs) (receipts (suc start) port xs)) mine) f own)
        (after_other left (change_of s) net num other ∙ e))
        (cases_Bool (x.maker == port))
      where
        eq_test : (n : ℕ) → n ≡ port → (n == port) ≡ true
        eq_test n e = eq-eqb n port e
