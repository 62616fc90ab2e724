-- The last entry of a table was seen by the port that made it.
use Rattle.std.proofs.Common.{◌≡◌, ℕ, zero, suc, ◌+◌, ◌-◌, ◌<◌, ◌≤◌, ◌==◌, arith, cond, Bool, true, false, List, [], ◌∷◌, ◌++◌, inl, inr, length, refl, sym, ap, subst, ◌∙◌}
use Rattle.std.specs.Prelude.{Contains, drop, take}
use Rattle.std.proofs.lemmas.Bool.{eq-eqb}
use Rattle.std.proofs.lemmas.List.{length-append}
use Rattle.attrs.specs.History.{Content, after}
use Rattle.attrs.specs.declared.journal.JEntry.{JEntry}
use Rattle.jour_rule.specs.declared.views.Entry.{Entry}
use Rattle.jour_rule.specs.declared.views.Terms.{Terms}
use Rattle.jour_rule.specs.Journal.{receipts}
use Rattle.jour.specs.Seats.{front, number_of}
use Rattle.table_shared.specs.Opening.{TableOpening, sources_of}
use Rattle.table_shared.specs.Records.{AreRecords, at_first, change_of}
use Rattle.pipe_turns.specs.Ends.{AreBelow}

-- a port that makes one entry more has more receipts
one_more : {A : Type 0} (test : Bool) (x : A) (xs ys : List A) → length xs < length ys → length (cond test (x ∷ xs) xs) < length (cond test (x ∷ ys) ys)
one_more true x xs ys less = omega (arith, less)
one_more false x xs ys less = less

first_one : {A : Type 0} (test : Bool) (x : A) (xs : List A) → test ≡ true → 0 < length (cond test (x ∷ xs) xs)
first_one true x xs is = omega arith
first_one false x xs is = absurd (let bad : false ≡ true = is in cc)

more_made : (n k : ℕ) (es : List Entry) (e : Entry) (rest : List Entry) → e.maker ≡ k → length (receipts n k es) < length (receipts n k (es ++ e ∷ rest))
more_made n k [] e rest is = first_one (e.maker == k) (suc n, e.words) (receipts (suc n) k rest) (eq-eqb e.maker k is)
more_made n k (x ∷ es) e rest is = one_more (x.maker == k) (suc n, x.words) (receipts (suc n) k es) (receipts (suc n) k (es ++ e ∷ rest)) (more_made (suc n) k es e rest is)

-- of two fronts of one list the longer one has no fewer
no_fewer : {A : Type 0} (test : Bool) (x : A) (xs ys : List A) → length xs ≤ length ys → length (cond test (x ∷ xs) xs) ≤ length (cond test (x ∷ ys) ys)
no_fewer true x xs ys few = omega (arith, few)
no_fewer false x xs ys few = few

few_made : (n k : ℕ) (es more fs rest : List Entry) → es ++ more ≡ fs ++ rest → length es ≤ length fs → length (receipts n k es) ≤ length (receipts n k fs)
few_made n k [] more fs rest same few = omega arith
few_made n k (e ∷ es) more [] rest same few = absurd (omega (arith, few))
few_made n k (e ∷ es) more (f ∷ fs) rest same few =
    let first : e ≡ f = (let s = same in cc) in
    let others : es ++ more ≡ fs ++ rest = (let s = same in cc) in
    subst (λ (g : Entry). length (cond (e.maker == k) ((suc n, e.words) ∷ receipts (suc n) k es) (receipts (suc n) k es)) ≤ length (cond (g.maker == k) ((suc n, g.words) ∷ receipts (suc n) k fs) (receipts (suc n) k fs))) first
    (no_fewer (e.maker == k) (suc n, e.words) (receipts (suc n) k es) (receipts (suc n) k fs) (few_made (suc n) k es more fs rest others (omega (arith, few))))

-- each entry is of a port that has a source
source_there : (opening : TableOpening) (before : Content) (es : List Entry) (e : Entry) (rest : List Entry) (said : List JEntry) → AreRecords opening before (es ++ e ∷ rest) said → (num : ℕ) × Contains (sources_of opening e.maker) num
source_there opening before [] e rest [] are = absurd are
source_there opening before [] e rest (x ∷ said) are = (x.num, are.0.source)
source_there opening before (y ∷ es) e rest [] are = absurd are
source_there opening before (y ∷ es) e rest (x ∷ said) are = source_there opening (after before (change_of x ∷ [])) es e rest said are.1

-- a list is cut behind so many entries
cut : {A : Type 0} (n : ℕ) (xs : List A) → n ≤ length xs → (es : List A) × (rest : List A) × (es ++ rest ≡ xs) × (length es ≡ n)
cut zero xs few = ([], xs, refl, refl)
cut (suc n) [] few = absurd (omega (arith, few))
cut (suc n) (x ∷ xs) few =
    let c = cut n xs (omega (arith, few)) in
    (x ∷ c.0, c.1, ap (λ l. x ∷ l) c.2, ap suc c.3)

module _ (terms : Terms TableOpening) (list : List Entry) (said : List JEntry) (head : ℕ) (are : AreRecords terms.opening (at_first terms.opening) list said) (least : terms.start ≤ head) (below : AreBelow terms list head) where
  none_behind : (es rest : List Entry) → es ++ rest ≡ list → length es + terms.start ≡ head → length rest ≡ 0
  none_behind es [] is at = refl
  none_behind es (e ∷ rest) is at =
      let there = source_there terms.opening (at_first terms.opening) es e rest said (subst (λ l. AreRecords terms.opening (at_first terms.opening) l said) (sym is) are) in
      let port = below e.maker there.0 there.1 in
      let start : port.0.1.seen.terms.start ≡ terms.start = ap (λ z. z.start) port.1.here in
      let seen = port.1.seen in
      let heard = port.1.retired.heard.seen in
      let more = more_made terms.start e.maker es e rest refl in
      let whole = ap (λ l. length (receipts terms.start e.maker l)) is in
      let made =
      ap length
      (ap (λ k. receipts terms.start k list) (sym port.1.number_is)
      ∙ port.1.retired.receipts
      ∙ ap (λ n. receipts n (number_of port.0.1.role) (front port.0.1)) start
      ∙ ap (λ k. receipts terms.start k (front port.0.1)) port.1.number_is) in
      let few = few_made terms.start e.maker (front port.0.1) heard.0 es (e ∷ rest) (heard.1 ∙ sym is) (omega (arith, start, seen, at)) in
      absurd (omega (arith, more, whole, made, few))

  pub last_head : head ≤ terms.start + length list → head ≡ terms.start + length list
  last_head most =
      let c = cut (head - terms.start) list (omega (arith, most, least)) in
      let long = c.3 in
      let none = none_behind c.0 c.1 c.2 (omega (arith, long, least)) in
      let all = ap length c.2 in
      let parts = length-append c.0 c.1 in
      omega (arith, none, all, parts, long, least)
