-- The rows from a net on, and the net behind the first of them.
use Rattle.std.proofs.Common.{◌≡◌, ⊎_elim, ℕ, zero, suc, true, false, List, [], ◌∷◌, ◌++◌, take, drop, length, ◌<◌, ◌≤◌, ◌-◌, Option, Some, None, refl, sym, ap, ◌∙◌, subst, arith, append_assoc}
use Rattle.std.specs.Prelude.{◌↔◌, Bool, IsTrue, is_some, not, slice_index_or}
use Rattle.std.proofs.lemmas.Bool.{cond-true, cond-false, cases_Bool}
use Rattle.std.proofs.lemmas.Bool.Decides.{nat_tests}
use Rattle.bits_ip.specs.Prefix.{Net, precedes}
use Rattle.attrs.specs.declared.route.Row.{Row}
use Rattle.attrs.specs.Select.{rows_from}
use Rattle.attrs.specs.Table.{AreRows, IsBelow}
use Rattle.attrs.proofs.Nets.{precedes_chain}
use Rattle.table_shared.specs.Views.{first_net}

not_both : (a b : Net) → precedes a b ≡ true → precedes b a ≡ false
not_both a b h = grind (arith, nat_tests)

not_itself : (a : Net) → precedes a a ≡ false
not_itself a = grind (arith, nat_tests)

-- a row that isn't before the net stays
stays : (net : Net) (row : Row) (rows : List Row) → precedes row.net net ≡ false → rows_from (Some net) (row ∷ rows) ≡ row ∷ rows_from (Some net) rows
stays net row rows e = cond-true _ _ _ (ap not e)

goes : (net : Net) (row : Row) (rows : List Row) → precedes row.net net ≡ true → rows_from (Some net) (row ∷ rows) ≡ rows_from (Some net) rows
goes net row rows e = cond-false _ _ _ (ap not e)

-- where a net isn't behind the first row, no row goes
below_chain : (net next : Net) (rows : List Row) → precedes net next ≡ true → IsBelow next rows → IsBelow net rows
below_chain net next [] h below = tt
below_chain net next (row ∷ rows) h below = precedes_chain net next row.net h below

all_stay : (net : Net) (rows : List Row) → AreRows rows → IsBelow net rows → rows_from (Some net) rows ≡ rows
all_stay net [] are below = refl
all_stay net (row ∷ rows) are below =
    stays net row rows (not_both net row.net below) ∙ ap (λ (l : List Row). row ∷ l) (all_stay net rows are.2 (below_chain net row.net rows below are.1))

-- from a row's own net on
from_own : (row : Row) (rows : List Row) → AreRows (row ∷ rows) → rows_from (Some row.net) (row ∷ rows) ≡ row ∷ rows
from_own row rows are = stays row.net row rows (not_itself row.net) ∙ ap (λ (l : List Row). row ∷ l) (all_stay row.net rows are.2 are.1)

-- a row is before those behind it
before_later : (net : Net) (front : List Row) (row : Row) (back : List Row) → IsBelow net (front ++ row ∷ back) → AreRows (front ++ row ∷ back) → precedes net row.net ≡ true
before_later net [] row back below are = below
before_later net (f ∷ front) row back below are = precedes_chain net f.net row.net below (before_later f.net front row back are.1 are.2)

from_place : (front : List Row) (row : Row) (back : List Row) → AreRows (front ++ row ∷ back) → rows_from (Some row.net) (front ++ row ∷ back) ≡ row ∷ back
from_place [] row back are = from_own row back are
from_place (f ∷ front) row back are =
    goes row.net f (front ++ row ∷ back) (before_later f.net front row back are.1 are.2) ∙ from_place front row back are.2

-- a row that isn't before a net has none behind it that is
none_behind : (net : Net) (row : Row) (rows : List Row) → precedes row.net net ≡ false → IsBelow row.net rows → AreRows rows → rows_from (Some net) rows ≡ rows
none_behind net row [] e below are = refl
none_behind net row (next ∷ rows) e below are = ⊎_elim
    (λ h. absurd (apart (sym (precedes_chain row.net next.net net below h) ∙ e)))
    (λ h. stays net next rows h ∙ ap (λ (l : List Row). next ∷ l) (none_behind net next rows h are.1 are.2))
    (cases_Bool (precedes next.net net)) where
      apart : true ≡ false → ⊥
      apart h = cc (h)

-- the rows from a net on are the back of all
pub cut : (from : Option Net) (rows : List Row) → AreRows rows → (front : List Row) × (front ++ rows_from from rows ≡ rows)
cut None rows are = ([], refl)
cut (Some net) [] are = ([], refl)
cut (Some net) (row ∷ rows) are = ⊎_elim
    (λ h. let rest = cut (Some net) rows are.2 in (row ∷ rest.0, ap (λ (l : List Row). row ∷ (rest.0 ++ l)) (goes net row rows h) ∙ ap (λ (l : List Row). row ∷ l) rest.1))
    (λ h. ([], stays net row rows h ∙ ap (λ (l : List Row). row ∷ l) (none_behind net row rows h are.1 are.2)))
    (cases_Bool (precedes row.net net))

-- ---- the place behind the first of a list

place_is : {A : Type 0} (k : ℕ) (xs : List A) (x : A) → k < length (take (suc k) xs) → x ≡ slice_index_or (take (suc k) xs) k x → xs ≡ take k xs ++ x ∷ drop (suc k) xs
place_is k [] x inside e = absurd (omega arith)
place_is zero (y ∷ ys) x inside e = ap (λ z. z ∷ ys) (sym e)
place_is (suc k) (y ∷ ys) x inside e = ap (λ l. y ∷ l) (place_is k ys x (omega arith) e)

nothing_is : {A : Type 0} (k : ℕ) (xs : List A) → length (take (suc k) xs) ≤ k → drop (suc k) xs ≡ []
nothing_is k [] few = refl
nothing_is zero (y ∷ ys) few = absurd (omega arith)
nothing_is (suc k) (y ∷ ys) few = nothing_is k ys (omega arith)

-- ---- the net behind the first rows from a net on

at_place :
    (from : Option Net) (rows : List Row) (k : ℕ) (row : Row) → AreRows rows → k < length (take (suc k) (rows_from from rows)) → row ≡ slice_index_or (take (suc k) (rows_from from rows)) k row
    → first_net (drop 1 (rows_from (Some row.net) rows)) ≡ first_net (drop (suc k) (rows_from from rows))
at_place from rows k row are inside here =
    let part = cut from rows are in
    let own = rows_from from rows in
    let whole : (part.0 ++ take k own) ++ row ∷ drop (suc k) own ≡ rows = append_assoc part.0 (take k own) (row ∷ drop (suc k) own) ∙ ap (λ (l : List Row). part.0 ++ l) (sym (place_is k own row inside here)) ∙ part.1 in
    let behind : rows_from (Some row.net) rows ≡ row ∷ drop (suc k) own =
    ap (rows_from (Some row.net)) (sym whole) ∙ from_place (part.0 ++ take k own) row (drop (suc k) own) (subst AreRows (sym whole) are) in
    ap (λ (l : List Row). first_net (drop 1 l)) behind

pub net_behind :
    (from : Option Net) (rows : List Row) (max : ℕ) (some : List Row) (row : Row) → 1 ≤ max → AreRows rows → some ≡ take max (rows_from from rows) → max - 1 < length some → row ≡ slice_index_or some (max - 1) row
    → first_net (drop 1 (rows_from (Some row.net) rows)) ≡ first_net (drop max (rows_from from rows))
net_behind from rows zero some row least are is inside here = absurd (omega arith)
net_behind from rows (suc k) some row least are is inside here =
    let place : suc k - 1 ≡ k = omega arith in
    at_place from rows k row are (subst (λ (l : List Row). k < length l) is (omega arith)) (subst (λ (l : List Row). row ≡ slice_index_or l k row) is (subst (λ (n : ℕ). row ≡ slice_index_or some n row) place here))

pub nothing_behind :
    (from : Option Net) (rows : List Row) (max : ℕ) (some : List Row) → 1 ≤ max → some ≡ take max (rows_from from rows) → length some ≤ max - 1
    → None ≡ first_net (drop max (rows_from from rows))
nothing_behind from rows zero some least is few = absurd (omega arith)
nothing_behind from rows (suc k) some least is few = sym (ap first_net (nothing_is k (rows_from from rows) (subst (λ (l : List Row). length l ≤ k) is (omega arith))))

-- ---- whether there is one

goes_on : (max : ℕ) (rows : List Row) → is_some (first_net (drop max rows)) ≡ true → max < length rows
goes_on zero [] h = absurd (cc (h))
goes_on zero (row ∷ rows) h = omega arith
goes_on (suc max) [] h = absurd (cc (h))
goes_on (suc max) (row ∷ rows) h = let rest = goes_on max rows h in omega arith

is_there : (max : ℕ) (rows : List Row) → max < length rows → is_some (first_net (drop max rows)) ≡ true
is_there zero [] h = absurd (omega arith)
is_there zero (row ∷ rows) h = refl
is_there (suc max) [] h = absurd (omega arith)
is_there (suc max) (row ∷ rows) h = is_there max rows (omega arith)

pub more_is : (max : ℕ) (rows : List Row) (upto : Option Net) (more : Bool) → more ≡ is_some upto → upto ≡ first_net (drop max rows) → IsTrue more ↔ (max < length rows)
more_is max rows upto more is net =
    let same : more ≡ is_some (first_net (drop max rows)) = is ∙ ap is_some net in
    (λ h. goes_on max rows (sym same ∙ h), λ h. same ∙ is_there max rows h)
