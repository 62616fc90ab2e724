-- The rows of a chunk: what they tell of its range, and nothing else.
use Rattle.std.proofs.Common.{◌≡◌, ⊎_elim, inl, inr, Bool, true, false, not, List, [], ◌∷◌, ◌++◌, Option, Some, None, refl, sym, ap, ◌∙◌, subst}
use Rattle.std.specs.Prelude.{◌&&◌, IsSome, if◌then◌else◌, ⊤}
use Rattle.std.proofs.lemmas.Bool.{cond-true, cond-false, cases_Bool}
use Rattle.attrs.specs.Select.{rows_from}
use Rattle.attrs.specs.Table.{AreRows, IsBelow}
use Rattle.attrs.specs.declared.journal.Chunk.{Chunk}
use Rattle.attrs.specs.declared.route.Row.{Row}
use Rattle.attrs.proofs.Nets.{precedes_chain, precedes_other}
use Rattle.bits_ip.specs.Address.{family_of}
use Rattle.bits_ip.specs.Prefix.{Net, precedes, same_net}
use Rattle.bits_ip.specs.declared.address.Family.{Family}
use Rattle.export_core.specs.Candidates.{IsChunk, best_in, candidate_of, covers, first_of, floor_of, is_below, is_from}
use Rattle.export_core.specs.declared.log.Key.{Key}
use Rattle.export_core.specs.declared.passing.ExportSpec.{ExportSpec}
use Rattle.export_core.proofs.Nets.{net_tells}
use Rattle.rib.specs.Rib.{AreOfFamily}
use Rattle.table_shared.specs.Views.{first_net}

false_true : false ≡ true → ⊥
false_true e = cc

-- each row's net passes a test
abbrev AllPass : (Net → Bool) → List Row → Type 0
AllPass test [] = ⊤
AllPass test (row ∷ rows) = (test row.net ≡ true) × AllPass test rows

-- no row is of the net
abbrev HasNo : Net → List Row → Type 0
HasNo net [] = ⊤
HasNo net (row ∷ rows) = (same_net net row.net ≡ false) × HasNo net rows

none_passing : (test : Net → Bool) (net : Net) → test net ≡ false → (rows : List Row) → AllPass test rows → HasNo net rows
none_passing test net fails [] pass = tt
none_passing test net fails (row ∷ rows) pass = (
  elim (net_tells net row.net) [
    | inl w ↦ absurd (false_true (sym fails ∙ ap test w.1 ∙ pass.0))
    | inr w ↦ w.0
  ],
  none_passing test net fails rows pass.1,
)

pass_front : (test : Net → Bool) (front back : List Row) → AllPass test (front ++ back) → AllPass test front
pass_front test [] back pass = tt
pass_front test (row ∷ front) back pass = (pass.0, pass_front test front back pass.1)

pass_back : (test : Net → Bool) (front back : List Row) → AllPass test (front ++ back) → AllPass test back
pass_back test [] back pass = pass
pass_back test (row ∷ front) back pass = pass_back test front back pass.1

both : (one other : Net → Bool) (rows : List Row) → AllPass one rows → AllPass other rows → AllPass (λ n. one n && other n) rows
both one other [] a b = tt
both one other (row ∷ rows) a b = (and_is (one row.net) (other row.net) a.0 b.0, both one other rows a.1 b.1) where
  and_is : (x y : Bool) → x ≡ true → y ≡ true → (x && y) ≡ true
  and_is x y e f = rw (e, f) refl

-- ---- the rows from a net on

from_pass : (from : Option Net) (rows : List Row) → AllPass (is_from from) (rows_from from rows)
from_pass None [] = tt
from_pass None (row ∷ rows) = (refl, from_pass None rows)
from_pass (Some net) [] = tt
from_pass (Some net) (row ∷ rows) = ⊎_elim
    (λ h. subst (AllPass (is_from (Some net))) (sym (cond-false _ (row ∷ rows_from (Some net) rows) (rows_from (Some net) rows) (ap not h))) (from_pass (Some net) rows))
    (λ h. subst (AllPass (is_from (Some net))) (sym (cond-true _ (row ∷ rows_from (Some net) rows) (rows_from (Some net) rows) (ap not h))) (ap not h, from_pass (Some net) rows))
    (cases_Bool (precedes row.net net))

below_chain : (net next : Net) (rows : List Row) → precedes net next ≡ true → IsBelow next rows → IsBelow net rows
below_chain net next [] h below = tt
below_chain net next (row ∷ rows) h below = precedes_chain net next row.net h below

from_below : (net first : Net) (rows : List Row) → AreRows rows → IsBelow net rows → IsBelow net (rows_from (Some first) rows)
from_below net first [] are below = tt
from_below net first (row ∷ rows) are below = ⊎_elim
    (λ h. subst (IsBelow net) (sym (cond-false _ (row ∷ rows_from (Some first) rows) (rows_from (Some first) rows) (ap not h))) (from_below net first rows are.2 (below_chain net row.net rows below are.1)))
    (λ h. subst (IsBelow net) (sym (cond-true _ (row ∷ rows_from (Some first) rows) (rows_from (Some first) rows) (ap not h))) below)
    (cases_Bool (precedes row.net first))

from_rows : (from : Option Net) (rows : List Row) → AreRows rows → AreRows (rows_from from rows)
from_rows None rows are = are
from_rows (Some net) [] are = tt
from_rows (Some net) (row ∷ rows) are = ⊎_elim
    (λ h. subst AreRows (sym (cond-false _ (row ∷ rows_from (Some net) rows) (rows_from (Some net) rows) (ap not h))) (from_rows (Some net) rows are.2))
    (λ h. subst AreRows (sym (cond-true _ (row ∷ rows_from (Some net) rows) (rows_from (Some net) rows) (ap not h))) (are.0, from_below row.net net rows are.2 are.1, from_rows (Some net) rows are.2))
    (cases_Bool (precedes row.net net))

rows_back : (front back : List Row) → AreRows (front ++ back) → AreRows back
rows_back [] back are = are
rows_back (row ∷ front) back are = rows_back front back are.2

before_later : (net : Net) (front : List Row) (row : Row) (back : List Row) → IsBelow net (front ++ row ∷ back) → AreRows (front ++ row ∷ back) → precedes net row.net ≡ true
before_later net [] row back below are = below
before_later net (f ∷ front) row back below are = precedes_chain net f.net row.net below (before_later f.net front row back are.1 are.2)

-- rows at the front are before the first behind them
front_pass : (front back : List Row) → AreRows (front ++ back) → AllPass (is_below (first_net back)) front
front_pass [] back are = tt
front_pass (row ∷ front) [] are = (refl, front_pass front [] are.2)
front_pass (row ∷ front) (b ∷ back) are = (before_later row.net front b back are.1 are.2, front_pass front (b ∷ back) are.2)

-- a net before the first row is that of none
below_none : (net : Net) (rows : List Row) → AreRows rows → IsBelow net rows → HasNo net rows
below_none net [] are below = tt
below_none net (row ∷ rows) are below = (precedes_other net row.net below, below_none net rows are.2 (below_chain net row.net rows below are.1))

first_none : (net : Net) (rows : List Row) → AreRows rows → is_below (first_net rows) net ≡ true → HasNo net rows
first_none net [] are before = tt
first_none net (row ∷ rows) are before = below_none net (row ∷ rows) are before

-- ---- what rows tell

module _ (spec : ExportSpec) (k : Key) where
  skip : (row : Row) (rows : List Row) → same_net k.net row.net ≡ false → best_in spec k (row ∷ rows) ≡ best_in spec k rows
  skip row rows e = ap (λ b. if b then first_of (candidate_of spec k.num row.routes) (best_in spec k rows) else best_in spec k rows) e

  best_none : (rows : List Row) → HasNo k.net rows → best_in spec k rows ≡ None
  best_none [] none = refl
  best_none (row ∷ rows) none = skip row rows none.0 ∙ best_none rows none.1

  best_front : (front back : List Row) → HasNo k.net back → best_in spec k (front ++ back) ≡ best_in spec k front
  best_front [] back none = best_none back none
  best_front (row ∷ front) back none = ap (λ z. if same_net k.net row.net then first_of (candidate_of spec k.num row.routes) z else z) (best_front front back none)

  best_from : (from : Option Net) → is_from from k.net ≡ true → (rows : List Row) → best_in spec k (rows_from from rows) ≡ best_in spec k rows
  best_from None is rows = refl
  best_from (Some net) is [] = refl
  best_from (Some net) is (row ∷ rows) = ⊎_elim
      (λ h.
      ap (best_in spec k) (cond-false _ (row ∷ rows_from (Some net) rows) (rows_from (Some net) rows) (ap not h))
      ∙ best_from (Some net) is rows
      ∙ sym (skip row rows (elim (net_tells k.net row.net) [
        | inl w ↦ absurd (let here : precedes k.net net ≡ true = subst (λ n. precedes n net ≡ true) (sym w.1) h in let bad : false ≡ true = sym (ap not here) ∙ is in false_true bad)
        | inr w ↦ w.0
      ])))
      (λ h.
      ap (best_in spec k) (cond-true _ (row ∷ rows_from (Some net) rows) (rows_from (Some net) rows) (ap not h))
      ∙ ap (λ z. if same_net k.net row.net then first_of (candidate_of spec k.num row.routes) z else z) (best_from (Some net) is rows))
      (cases_Bool (precedes row.net net))

  pub best_family : (family : Family) (rows : List Row) → AreOfFamily family rows → IsSome (best_in spec k rows) → family_of k.net.addr ≡ family
  best_family family [] are some = absurd (false_true some)
  best_family family (row ∷ rows) are some = elim (net_tells k.net row.net) [
    | inl w ↦ ap (λ n. family_of n.addr) w.1 ∙ are.0
    | inr w ↦ best_family family rows are.1 (subst IsSome (skip row rows w.0) some)
  ]

and_left : (a b : Bool) → (a && b) ≡ true → a ≡ true
and_left true b e = refl
and_left false b e = e

and_right : (a b : Bool) → (a && b) ≡ true → b ≡ true
and_right true b e = e
and_right false b e = absurd (false_true e)

first_pass : (test : Net → Bool) (rows : List Row) (end : Net) → AllPass test rows → first_net rows ≡ Some end → test end ≡ true
first_pass test [] end pass e = absurd (let no : None ≡ Some end = e in cc)
first_pass test (row ∷ rows) end pass e = subst (λ n. test n ≡ true) (let same : row.net ≡ end = (let is : Some row.net ≡ Some end = e in cc) in same) pass.0

-- the first rows from a net on, and the net behind them
module _ (spec : ExportSpec) (from : Option Net) (all front back : List Row) (chunk : Chunk) (are : AreRows all) (whole : front ++ back ≡ rows_from from all) (begins : chunk.from ≡ from) (rows : chunk.rows ≡ front) (ends : chunk.upto ≡ first_net back) where
  in_order : AreRows (front ++ back)
  in_order = subst AreRows (sym whole) (from_rows from all are)

  all_from : AllPass (is_from from) (front ++ back)
  all_from = subst (AllPass (is_from from)) (sym whole) (from_pass from all)

  over : (k : Key) → covers (floor_of chunk) k ≡ (is_from from k.net && is_below (first_net back) k.net)
  over k = ap (λ (f : Option Net). is_from f k.net && is_below chunk.upto k.net) begins ∙ ap (λ (u : Option Net). is_from from k.net && is_below u k.net) ends

  pub is_chunk : IsChunk spec chunk
  is_chunk = record {
    forward = λ end e. subst (λ (f : Option Net). is_from f end ≡ true) (sym begins) (first_pass (is_from from) back end (pass_back (is_from from) front back all_from) (sym ends ∙ e));
    within = λ k out. subst (λ (rs : List Row). best_in spec k rs ≡ None) (sym rows)
        (best_none spec k front
        (none_passing (λ n. is_from from n && is_below (first_net back) n) k.net (sym (over k) ∙ out) front
        (both (is_from from) (is_below (first_net back)) front (pass_front (is_from from) front back all_from) (front_pass front back in_order))));
  }

  pub same_best : (k : Key) → covers (floor_of chunk) k ≡ true → best_in spec k all ≡ best_in spec k chunk.rows
  same_best k covered =
      let is = sym (over k) ∙ covered in
      sym (best_from spec k from (and_left (is_from from k.net) (is_below (first_net back) k.net) is) all)
      ∙ ap (best_in spec k) (sym whole)
      ∙ best_front spec k front back (first_none k.net back (rows_back front back in_order) (and_right (is_from from k.net) (is_below (first_net back) k.net) is))
      ∙ ap (best_in spec k) (sym rows)
