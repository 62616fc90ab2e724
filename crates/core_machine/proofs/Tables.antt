-- Which changes stand in which table.
use Rattle.std.proofs.Common.{◌≡◌, ◌≢◌, ℕ, inl, inr, Bool, true, false, List, [], ◌∷◌, ◌++◌, Option, Some, None, refl, sym, ◌∙◌, ap, subst}
use Rattle.std.specs.Prelude.{◌==◌, not}
use Rattle.std.proofs.lemmas.Bool.Decides.{eqb_tells}
use Rattle.attrs.specs.declared.route.Change.{Change}
use Rattle.import_core.specs.declared.operation.Op.{Op}
use Rattle.export_core.specs.declared.log.LogItem.{LogItem}
use Rattle.core_machine.specs.Enters.{enters}
use Rattle.core_machine.specs.Histories.{AreFrom, AreReal, content_of, of_those, own}
use Rattle.core_machine.specs.Pipes.{ends_with, passes, passes_to}
use Rattle.core_machine.specs.Rules.{IsRules, Rules, changes}
use Rattle.core_machine.proofs.Contents.{AllOf, content_own, eqb_no, none_some, own_all, real_less, real_more, some_same, those_less, those_more}

-- a source's changes, real over its own earlier ones, are real
pub reals_more : (i : ℕ) (cs h : List Change) → AreFrom i cs → AreReal h → AreReal (cs ++ own i h) → AreReal (cs ++ h)
reals_more i [] h a r s = r
reals_more i (c ∷ cs) h a r s = let z = real_less c (cs ++ own i h) s in real_more c (cs ++ h) (reals_more i cs h a.1 r z.0)
    (λ e. z.1 (sym (content_own c.net c.num (cs ++ h)
    ∙ subst (λ n. content_of (own n (cs ++ h)) c.net c.num ≡ content_of (cs ++ own i h) c.net c.num) (sym a.0.change) (ap (λ l. content_of l c.net c.num) (those_more (λ num. num == i) cs h (own_all i cs a.1)))) ∙ e))

all_not : (test : ℕ → Bool) (i : ℕ) (cs : List Change) → test i ≡ false → AreFrom i cs → AllOf (λ n. not (test n)) cs
all_not test i [] e a = tt
all_not test i (c ∷ cs) e a = (ap (λ n. not (test n)) a.0.change ∙ ap not e, all_not test i cs e a.1)

all_but : (test other : ℕ → Bool) (cs : List Change) → ((n : ℕ) → test n ≡ true → other n ≡ false) → AllOf test cs → AllOf (λ n. not (other n)) cs
all_but test other [] w a = tt
all_but test other (c ∷ cs) w a = (ap not (w c.num a.0), all_but test other cs w a.1)

-- the way of a source that a direction passes
pub passed_way : (g : Rules) (d num : ℕ) (o : Option ℕ) → g.target d ≡ o → passes g d num ≡ true → (t : ℕ) × (ds : List ℕ) × (o ≡ Some t) × (g.hops t num ≡ Some (d ∷ ds))
passed_way g d num None e p = absurd (let bad : false ≡ true = sym (ap (λ o. passes_to g d num o) e) ∙ p in cc)
passed_way g d num (Some t) e p = let q : ends_with d (g.hops t num) ≡ true = sym (ap (λ o. passes_to g d num o) e) ∙ p in last (g.hops t num) refl q where
  last : (w : Option (List ℕ)) → g.hops t num ≡ w → ends_with d w ≡ true → (t2 : ℕ) × (ds : List ℕ) × (Some t ≡ Some t2) × (g.hops t2 num ≡ Some (d ∷ ds))
  last None h q = absurd (let bad : false ≡ true = q in cc)
  last (Some []) h q = absurd (let bad : false ≡ true = q in cc)
  last (Some (x ∷ ds)) h q = elim (eqb_tells x d) [ inl z ↦ (t, ds, refl, h ∙ ap (λ y. Some (y ∷ ds)) z.1) | inr z ↦ absurd (let bad : false ≡ true = sym z.0 ∙ q in cc) ]

pub passes_is : (g : Rules) (d t num : ℕ) → g.target d ≡ Some t → passes g d num ≡ ends_with d (g.hops t num)
passes_is g d t num e = ap (λ o. passes_to g d num o) e

-- which changes stand where
pub record IsExact (g : Rules) (history : ℕ → List Change) (ops : ℕ → List Op) (logs : ℕ → List LogItem) : Type 0 where
  pub real : (t : ℕ) → AreReal (history t)
  pub exact : (i : ℕ) → own i (history (g.table i)) ≡ changes g i (ops i)
  pub entered : (d t : ℕ) → g.target d ≡ Some t → of_those (passes g d) (history t) ≡ enters g (logs d)
  pub no_others : (t i : ℕ) → g.hops t i ≡ None → own i (history t) ≡ []

module _ (g : Rules) (ok : IsRules g) where
  -- a way by a direction is no other way
  apart_own : (d t num i : ℕ) → g.target d ≡ Some t → g.table i ≡ t → passes g d num ≡ true → (num == i) ≡ false
  apart_own d t num i e w p = eqb_no num i (λ same.
      let q = passed_way g d num (g.target d) refl p in
      let here : g.hops t num ≡ Some (d ∷ q.1) = subst (λ n. g.hops n num ≡ Some (d ∷ q.1)) (some_same (sym q.2 ∙ e)) q.3 in
      let home : g.hops t num ≡ Some [] = subst (λ n. g.hops t n ≡ Some []) (sym same) (subst (λ n. g.hops n i ≡ Some []) w (ok.ways.home i)) in
      let bad : d ∷ q.1 ≡ [] = some_same (sym here ∙ home) in cc)

  apart_by : (d e t num : ℕ) → g.target d ≡ Some t → g.target e ≡ Some t → d ≢ e → passes g d num ≡ true → passes g e num ≡ false
  apart_by d e t num td te other p =
      let q = passed_way g d num (g.target d) refl p in
      let here : g.hops t num ≡ Some (d ∷ q.1) = subst (λ n. g.hops n num ≡ Some (d ∷ q.1)) (some_same (sym q.2 ∙ td)) q.3 in
      passes_is g e t num te ∙ ap (ends_with e) here ∙ eqb_no d e other

  apart_none : (d t num j : ℕ) → g.target d ≡ Some t → g.hops t j ≡ None → passes g d num ≡ true → (num == j) ≡ false
  apart_none d t num j td e p = eqb_no num j (λ same.
      let q = passed_way g d num (g.target d) refl p in
      none_some (sym e ∙ subst (λ y. g.hops t y ≡ Some (d ∷ q.1)) same (subst (λ y. g.hops y num ≡ Some (d ∷ q.1)) (some_same (sym q.2 ∙ td)) q.3)))

  -- a protocol's changes come to its table
  pub exact_own : (i : ℕ) (cs : List Change) (h h2 : ℕ → List Change) (ops ops2 : ℕ → List Op) (logs : ℕ → List LogItem)
      → AreFrom i cs → AreReal (cs ++ changes g i (ops i)) → changes g i (ops2 i) ≡ cs ++ changes g i (ops i) → ((j : ℕ) → i ≢ j → ops2 j ≡ ops j)
      → h2 (g.table i) ≡ cs ++ h (g.table i) → ((t : ℕ) → g.table i ≢ t → h2 t ≡ h t) → IsExact g h ops logs → IsExact g h2 ops2 logs
  exact_own i cs h h2 ops ops2 logs a r own_is same here there x =
      let t0 = g.table i in
      record {
        real = λ t. elim (eqb_tells t0 t) [
          | inl w ↦ subst (λ n. AreReal (h2 n)) w.1 (subst AreReal (sym here) (reals_more i cs (h t0) a (x.real t0) (subst (λ l. AreReal (cs ++ l)) (sym (x.exact i)) r)))
          | inr w ↦ subst AreReal (sym (there t w.1)) (x.real t)
        ];
        exact = λ j. elim (eqb_tells i j) [
          | inl w ↦ subst (λ n. own n (h2 (g.table n)) ≡ changes g n (ops2 n)) w.1 (ap (own i) here ∙ those_more (λ num. num == i) cs (h t0) (own_all i cs a) ∙ ap (λ l. cs ++ l) (x.exact i) ∙ sym own_is)
          | inr w ↦ elim (eqb_tells t0 (g.table j)) [
            | inl z ↦ subst (λ n. own j (h2 n) ≡ own j (h n)) z.1 (ap (own j) here ∙ those_less (λ num. num == j) cs (h t0) (all_not (λ num. num == j) i cs (eqb_no i j w.1) a))
            | inr z ↦ ap (own j) (there (g.table j) z.1)
          ] ∙ x.exact j ∙ ap (changes g j) (sym (same j w.1))
        ];
        entered = λ d t e. elim (eqb_tells t0 t) [
          | inl w ↦ subst (λ n. of_those (passes g d) (h2 n) ≡ of_those (passes g d) (h n)) w.1
              (ap (of_those (passes g d)) here ∙ those_less (passes g d) cs (h t0) (all_not (passes g d) i cs (passes_is g d t0 i (e ∙ ap (λ n. Some n) (sym w.1)) ∙ ap (ends_with d) (ok.ways.home i)) a))
          | inr w ↦ ap (of_those (passes g d)) (there t w.1)
        ] ∙ x.entered d t e;
        no_others = λ t j e. elim (eqb_tells t0 t) [
          | inl w ↦ subst (λ n. own j (h2 n) ≡ own j (h n)) w.1 (ap (own j) here ∙ those_less (λ num. num == j) cs (h t0) (all_not (λ num. num == j) i cs
              (eqb_no i j (λ ij. none_some (sym e ∙ subst (λ n. g.hops n j ≡ Some []) w.1 (subst (λ n. g.hops t0 n ≡ Some []) ij (ok.ways.home i))))) a))
          | inr w ↦ ap (own j) (there t w.1)
        ] ∙ x.no_others t j e;
      }

  -- a direction's changes come to the table that it writes
  pub exact_by : (d t : ℕ) (cs : List Change) (h h2 : ℕ → List Change) (ops : ℕ → List Op) (logs logs2 : ℕ → List LogItem)
      → g.target d ≡ Some t → AllOf (passes g d) cs → AreReal (cs ++ h t) → enters g (logs2 d) ≡ cs ++ enters g (logs d) → ((e : ℕ) → d ≢ e → logs2 e ≡ logs e)
      → h2 t ≡ cs ++ h t → ((n : ℕ) → t ≢ n → h2 n ≡ h n) → IsExact g h ops logs → IsExact g h2 ops logs2
  exact_by d t cs h h2 ops logs logs2 td a r more same here there x = record {
    real = λ n. elim (eqb_tells t n) [
      | inl w ↦ subst (λ n. AreReal (h2 n)) w.1 (subst AreReal (sym here) r)
      | inr w ↦ subst AreReal (sym (there n w.1)) (x.real n)
    ];
    exact = λ j. elim (eqb_tells t (g.table j)) [
      | inl w ↦ subst (λ n. own j (h2 n) ≡ own j (h n)) w.1 (ap (own j) here ∙ those_less (λ num. num == j) cs (h t) (all_but (passes g d) (λ num. num == j) cs (λ n. apart_own d t n j td (sym w.1)) a))
      | inr w ↦ ap (own j) (there (g.table j) w.1)
    ] ∙ x.exact j;
    entered = λ e n te. elim (eqb_tells d e) [
      | inl w ↦ subst (λ q. of_those (passes g q) (h2 n) ≡ enters g (logs2 q)) w.1
          (let nt : t ≡ n = some_same (sym td ∙ ap g.target w.1 ∙ te) in subst (λ q. of_those (passes g d) (h2 q) ≡ enters g (logs2 d)) nt
          (ap (of_those (passes g d)) here ∙ those_more (passes g d) cs (h t) a ∙ ap (λ l. cs ++ l) (x.entered d t td) ∙ sym more))
      | inr w ↦ elim (eqb_tells t n) [
        | inl z ↦ subst (λ q. of_those (passes g e) (h2 q) ≡ of_those (passes g e) (h q)) z.1
            (ap (of_those (passes g e)) here ∙ those_less (passes g e) cs (h t) (all_but (passes g d) (passes g e) cs (λ m. apart_by d e t m td (te ∙ ap (λ q. Some q) (sym z.1)) w.1) a))
        | inr z ↦ ap (of_those (passes g e)) (there n z.1)
      ] ∙ x.entered e n te ∙ ap (enters g) (sym (same e w.1))
    ];
    no_others = λ n j e. elim (eqb_tells t n) [
      | inl w ↦ subst (λ q. own j (h2 q) ≡ own j (h q)) w.1 (ap (own j) here ∙ those_less (λ num. num == j) cs (h t) (all_but (passes g d) (λ num. num == j) cs (λ m p. apart_none d t m j td (subst (λ q. g.hops q j ≡ None) (sym w.1) e) p) a))
      | inr w ↦ ap (own j) (there n w.1)
    ] ∙ x.no_others n j e;
  }

  -- logs that give the same changes
  pub exact_logs : (h : ℕ → List Change) (ops : ℕ → List Op) (logs logs2 : ℕ → List LogItem) → ((d : ℕ) → enters g (logs2 d) ≡ enters g (logs d)) → IsExact g h ops logs → IsExact g h ops logs2
  exact_logs h ops logs logs2 same x = record { real = x.real; exact = x.exact; entered = λ d t e. x.entered d t e ∙ sym (same d); no_others = x.no_others }
