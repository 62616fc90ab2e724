-- Rows that show one content are the same rows.
use Rattle.std.proofs.Common.{◌≡◌, ◌≢◌, ℕ, true, cond, ⊎_elim, List, [], ◌∷◌, Option, None, refl, sym, ap, ◌∙◌, subst}
use Rattle.std.proofs.lemmas.Bool.{cond-true, cond-false, cases_Bool}
use Rattle.bits_ip.specs.Prefix.{Net, same_net, precedes}
use Rattle.attrs.specs.declared.route.Route.{Route}
use Rattle.attrs.specs.declared.route.Row.{Row}
use Rattle.attrs.specs.History.{Content}
use Rattle.attrs.specs.Table.{IsRow, IsBelow, AreRows, route_of, routes_of, route_in, Shows}
use Rattle.attrs.proofs.Nets.{precedes_other, precedes_chain, same_net_itself, same_net_is, net_cases}
use Rattle.attrs.proofs.Rows.{first_found, same_routes}

-- a net before the first row is before all rows, and none of them is its own
below_chain : (net next : Net) (rows : List Row) → precedes net next ≡ true → IsBelow next rows → IsBelow net rows
below_chain net next [] h below = tt
below_chain net next (row ∷ rows) h below = precedes_chain net next row.net h below

pub routes_below : (net : Net) (rows : List Row) → AreRows rows → IsBelow net rows → routes_of net rows ≡ []
routes_below net [] are below = refl
routes_below net (row ∷ rows) are below =
    cond-false _ _ _ (precedes_other net row.net below) ∙ routes_below net rows are.2 (below_chain net row.net rows below are.1)

-- the first row has the routes of its net
pub routes_here : (row : Row) (rows : List Row) → routes_of row.net (row ∷ rows) ≡ row.routes
routes_here row rows = cond-true _ _ _ (same_net_itself row.net)

some_route : (routes : List Route) → (routes ≢ []) → ((num : ℕ) → route_of num routes ≡ None) → ⊥
some_route [] filled none = filled refl
some_route (r ∷ rest) filled none = let h = sym (none r.src.num) ∙ first_found r rest in cc

-- rows that have no routes of a row's net don't show what that row does
alone :
    (row : Row) (rows others : List Row) → IsRow row → ((net : Net) (num : ℕ) → route_in (row ∷ rows) net num ≡ route_in others net num) → routes_of row.net others ≡ [] → ⊥
alone row rows others is same nothing =
    some_route row.routes is.filled
    (λ num.
    ap (λ (routes : List Route). route_of num routes) (sym (routes_here row rows))
    ∙ same row.net num
    ∙ ap (λ (routes : List Route). route_of num routes) nothing)

-- what the rows behind the first show, from what all show
behind_row :
    (row : Row) (rows : List Row) (net : Net) (num : ℕ) → AreRows (row ∷ rows) → route_in rows net num ≡ cond (same_net net row.net) None (route_in (row ∷ rows) net num)
behind_row row rows net num are =
    ⊎_elim
    (λ t.
    ap (λ (routes : List Route). route_of num routes)
    (subst (λ (n : Net). routes_of n rows ≡ []) (sym (same_net_is net row.net t)) (routes_below row.net rows are.2 are.1))
    ∙ sym (cond-true _ _ _ t))
    (λ f.
    ap (λ (routes : List Route). route_of num routes) (sym (cond-false _ row.routes (routes_of net rows) f))
    ∙ sym (cond-false _ _ _ f))
    (cases_Bool (same_net net row.net))

same_here :
    (q r : Row) (qs rs : List Row) → q.net ≡ r.net → ((net : Net) (num : ℕ) → route_in (q ∷ qs) net num ≡ route_in (r ∷ rs) net num) → (num : ℕ) → route_of num q.routes ≡ route_of num r.routes
same_here q r qs rs e same num =
    ap (λ (routes : List Route). route_of num routes) (sym (routes_here q qs))
    ∙ same q.net num
    ∙ ap (λ (n : Net). route_in (r ∷ rs) n num) e
    ∙ ap (λ (routes : List Route). route_of num routes) (routes_here r rs)

same_row :
    (q r : Row) (qs rs : List Row) → AreRows (q ∷ qs) → AreRows (r ∷ rs) → ((net : Net) (num : ℕ) → route_in (q ∷ qs) net num ≡ route_in (r ∷ rs) net num) → q ≡ r
same_row q r qs rs are also same =
    ⊎_elim
    (λ e.
    let routes : q.routes ≡ r.routes = same_routes q.routes r.routes are.0.order also.0.order are.0.sources also.0.sources (same_here q r qs rs e same) in
    λ i. record { net = e i; routes = routes i })
    (λ apart.
    absurd
    (⊎_elim
    (λ h. alone q qs (r ∷ rs) are.0 same (routes_below q.net (r ∷ rs) also h))
    (λ h. alone r rs (q ∷ qs) also.0 (λ net num. sym (same net num)) (routes_below r.net (q ∷ qs) are h))
    apart))
    (net_cases q.net r.net)

-- rows in which the same routes are found are the same
pub same_rows : (qs rs : List Row) → AreRows qs → AreRows rs → ((net : Net) (num : ℕ) → route_in qs net num ≡ route_in rs net num) → qs ≡ rs
same_rows [] [] are also same = refl
same_rows [] (r ∷ rs) are also same = absurd (alone r rs [] also.0 (λ net num. sym (same net num)) refl)
same_rows (q ∷ qs) [] are also same = absurd (alone q qs [] are.0 same refl)
same_rows (q ∷ qs) (r ∷ rs) are also same =
    let first : q ≡ r = same_row q r qs rs are also same in
    let behind : (net : Net) (num : ℕ) → route_in qs net num ≡ route_in rs net num =
    λ net num.
    behind_row q qs net num are
    ∙ ap (λ (row : Row). cond (same_net net row.net) None (route_in (q ∷ qs) net num)) first
    ∙ ap (λ (o : Option Route). cond (same_net net r.net) None o) (same net num)
    ∙ sym (behind_row r rs net num also) in
    let rest : qs ≡ rs = same_rows qs rs are.2 also.2 behind in
    λ i. first i ∷ rest i

-- a content is shown by one list of rows
pub Shows-one : (rows others : List Row) (content : Content) → Shows rows content → Shows others content → rows ≡ others
Shows-one rows others content shows also =
    same_rows rows others shows.rows_are also.rows_are (λ net num. shows.routes_are net num ∙ sym (also.routes_are net num))
