-- The nets of a table's rows are of its family, also behind a change, and so are those of a part.
use Rattle.std.proofs.Common.{◌≡◌, ◌≢◌, ⊎_elim, ℕ, zero, suc, Bool, ◌&&◌, ◌==◌, cond, List, [], ◌∷◌, take, Option, Some, None, refl, sym, ap, ◌∙◌, subst}
use Rattle.std.specs.Prelude.{not, unwrap_or}
use Rattle.std.specs.List.{filter}
use Rattle.std.proofs.lemmas.Bool.{cond-true, cond-false, cases_Bool}
use Rattle.bits_ip.specs.declared.address.Family.{Family}
use Rattle.bits_ip.specs.Address.{family_of}
use Rattle.bits_ip.specs.Prefix.{Net, precedes, same_net}
use Rattle.attrs.specs.History.{after}
use Rattle.attrs.specs.Select.{covers, has_longer_cover, rows_from, selected}
use Rattle.attrs.specs.Table.{AreRows, route_in, route_of, routes_of}
use Rattle.attrs.specs.declared.route.Change.{Change}
use Rattle.attrs.specs.declared.route.Route.{Route}
use Rattle.attrs.specs.declared.route.Row.{Row}
use Rattle.attrs.specs.declared.route.Select.{Select}
use Rattle.attrs.specs.declared.route.Select.TheVariants.{All, Exact, For, Within}
use Rattle.attrs.proofs.Nets.{same_net_is}
use Rattle.attrs.proofs.Rows.{first_found}
use Rattle.attrs.proofs.Shown.{routes_below, routes_here}
use Rattle.rib.specs.Rib.{AreOfFamily}

-- a net that has a route is of the family
has_family : (family : Family) (rows : List Row) (net : Net) (num : ℕ) (r : Route) → AreOfFamily family rows → route_in rows net num ≡ Some r → family_of net.addr ≡ family
has_family family [] net num r all is = absurd (cc (is))
has_family family (row ∷ rows) net num r all is = ⊎_elim
    (λ t. ap (λ (n : Net). family_of n.addr) (same_net_is net row.net t) ∙ all.0)
    (λ f. has_family family rows net num r all.1 (ap (λ (routes : List Route). route_of num routes) (sym (cond-false _ row.routes (routes_of net rows) f)) ∙ is))
    (cases_Bool (same_net net row.net))

some_of : (routes : List Route) → routes ≢ [] → (r : Route) × (route_of r.src.num routes ≡ Some r)
some_of [] filled = absurd (filled refl)
some_of (r ∷ rest) filled = (r, first_found r rest)

-- what later rows show, all show
shown_behind : (row : Row) (rows : List Row) (net : Net) (num : ℕ) (r : Route) → AreRows (row ∷ rows) → route_in rows net num ≡ Some r → route_in (row ∷ rows) net num ≡ Some r
shown_behind row rows net num r are is = ⊎_elim
    (λ t.
    let none : routes_of net rows ≡ [] = subst (λ (n : Net). routes_of n rows ≡ []) (sym (same_net_is net row.net t)) (routes_below row.net rows are.2 are.1) in
    absurd (nothing (sym (ap (λ (routes : List Route). route_of num routes) none) ∙ is)))
    (λ f. ap (λ (routes : List Route). route_of num routes) (cond-false _ row.routes (routes_of net rows) f) ∙ is)
    (cases_Bool (same_net net row.net))
  where
    nothing : None ≡ Some r → ⊥
    nothing h = cc (h)

-- rows are of the family where each net that has a route is
all_shown :
    (family : Family) (rows : List Row) → AreRows rows → ((net : Net) (num : ℕ) (r : Route) → route_in rows net num ≡ Some r → family_of net.addr ≡ family) → AreOfFamily family rows
all_shown family [] are each = tt
all_shown family (row ∷ rows) are each =
    let some = some_of row.routes are.0.filled in (
      each row.net some.0.src.num some.0 (ap (λ (routes : List Route). route_of some.0.src.num routes) (routes_here row rows) ∙ some.1),
      all_shown family rows are.2 (λ net num r is. each net num r (shown_behind row rows net num r are is)),
    )

pub family_after :
    (family : Family) (old new : List Row) (c : Change) → AreOfFamily family old → AreRows new → family_of c.net.addr ≡ family
    → ((net : Net) (num : ℕ) → route_in new net num ≡ after (route_in old) (c ∷ []) net num) → AreOfFamily family new
family_after family old new c all are of routes = all_shown family new are
    (λ net num r is. ⊎_elim
    (λ t. ap (λ (n : Net). family_of n.addr) (same_net_is net c.net t) ∙ of)
    (λ f. has_family family old net num r all
    (sym (ap (λ (b : Bool). unwrap_or (cond (b && (num == c.num)) (Some c.new) None) (route_in old net num)) f) ∙ sym (routes net num) ∙ is))
    (cases_Bool (same_net net c.net)))

family_filter : (family : Family) (test : Row → Bool) (rows : List Row) → AreOfFamily family rows → AreOfFamily family (filter test rows)
family_filter family test [] all = tt
family_filter family test (row ∷ rows) all = ⊎_elim
    (λ t. subst (AreOfFamily family) (sym (cond-true _ (row ∷ filter test rows) (filter test rows) t)) (all.0, family_filter family test rows all.1))
    (λ f. subst (AreOfFamily family) (sym (cond-false _ (row ∷ filter test rows) (filter test rows) f)) (family_filter family test rows all.1))
    (cases_Bool (test row))

family_take : (family : Family) (n : ℕ) (rows : List Row) → AreOfFamily family rows → AreOfFamily family (take n rows)
family_take family zero rows all = tt
family_take family (suc n) [] all = tt
family_take family (suc n) (row ∷ rows) all = (all.0, family_take family n rows all.1)

family_from : (family : Family) (from : Option Net) (rows : List Row) → AreOfFamily family rows → AreOfFamily family (rows_from from rows)
family_from family None rows all = all
family_from family (Some net) rows all = family_filter family (λ row. not (precedes row.net net)) rows all

pub family_part : (family : Family) (from : Option Net) (n : ℕ) (rows some : List Row) → AreOfFamily family rows → some ≡ take n (rows_from from rows) → AreOfFamily family some
family_part family from n rows some all is = subst (AreOfFamily family) (sym is) (family_take family n (rows_from from rows) (family_from family from rows all))

family_picked : (family : Family) (pick : Select) (rows : List Row) → AreOfFamily family rows → AreOfFamily family (selected pick rows)
family_picked family All rows all = all
family_picked family (Exact net) rows all = family_filter family (λ row. same_net net row.net) rows all
family_picked family (For net) rows all = family_filter family (λ row. covers row.net net && not (has_longer_cover net row.net.len rows)) rows all
family_picked family (Within net) rows all = family_filter family (λ row. covers net row.net) rows all

pub family_selected : (family : Family) (pick : Select) (rows some : List Row) → AreOfFamily family rows → some ≡ selected pick rows → AreOfFamily family some
family_selected family pick rows some all is = subst (AreOfFamily family) (sym is) (family_picked family pick rows all)
