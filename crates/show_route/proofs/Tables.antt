-- Rows that show a content: which routes it has, and which nets of it are asked for.
use Rattle.std.proofs.Common.{◌≡◌, ◌≢◌, ◌≤◌, ℕ, suc, Bool, true, false, not, ◌&&◌, nat_lt, inl, inr, List, [], ◌∷◌, Some, None, refl, sym, ap, ◌∙◌, subst, arith}
use Rattle.std.proofs.lemmas.Bool.{and_parts, and_from, cond-true, cond-false, cases_Bool, false≢true, ne_eqb, ltb-true}
use Rattle.std.proofs.lemmas.Bool.Decides.{nat_tests}
use Rattle.bits_ip.specs.Prefix.{Net, precedes, same_net}
use Rattle.attrs.specs.History.{Content}
use Rattle.attrs.specs.Select.{covers, has_longer_cover, selected}
use Rattle.attrs.specs.Table.{AreRows, HasNone, IsBelow, IsInOrder, IsOfSources, IsRow, Shows, route_of, routes_of}
use Rattle.attrs.specs.declared.route.Route.{Route}
use Rattle.attrs.specs.declared.route.Row.{Row}
use Rattle.attrs.specs.declared.route.Select.{Select}
use Rattle.attrs.specs.declared.route.Select.TheVariants.{All, Exact, For, Within}
use Rattle.attrs.proofs.Covering.{covers_tells}
use Rattle.attrs.proofs.Nets.{precedes_chain, precedes_other, same_net_is, same_net_itself}
use Rattle.attrs.proofs.Rows.{before_back, first_found, found_among}
use Rattle.attrs.proofs.Same.{same_or_not}
use Rattle.show_route.specs.Shown.{IsBestAt, IsRouteOf, IsSelected, IsThere}
use Rattle.show_route.proofs.Members.{Has, any-has, any-none, contains-has, has-contains, has-passed, passed-has}

-- ---- rows

pub row-is : (rows : List Row) → AreRows rows → (row : Row) → Has rows row → IsRow row
row-is [] are row h = absurd h
row-is (q ∷ rows) are row (inl e) = subst IsRow e are.0
row-is (q ∷ rows) are row (inr h) = row-is rows are.2 row h

-- a net that is below rows precedes each of theirs
pub precedes-each : (net : Net) (rows : List Row) → AreRows rows → IsBelow net rows → (row : Row) → Has rows row → precedes net row.net ≡ true
precedes-each net [] are below row h = absurd h
precedes-each net (q ∷ rows) are below row (inl e) = subst (λ (r : Row). precedes net r.net ≡ true) e below
precedes-each net (q ∷ rows) are below row (inr h) = precedes_chain net q.net row.net below (precedes-each q.net rows are.2 are.1 row h)

flipped : (a b : Net) → same_net a b ≡ false → same_net b a ≡ false
flipped a b f = elim (cases_Bool (same_net b a)) [
  | inl t ↦ absurd (false≢true (sym f ∙ subst (λ (n : Net). same_net n b ≡ true) (same_net_is b a t) (same_net_itself b)))
  | inr g ↦ g
]

pub row-routes : (rows : List Row) → AreRows rows → (row : Row) → Has rows row → routes_of row.net rows ≡ row.routes
row-routes [] are row h = absurd h
row-routes (q ∷ rows) are row (inl e) = subst (λ (r : Row). routes_of r.net (q ∷ rows) ≡ r.routes) e (cond-true _ _ _ (same_net_itself q.net))
row-routes (q ∷ rows) are row (inr h) =
    cond-false _ _ _ (flipped q.net row.net (precedes_other q.net row.net (precedes-each q.net rows are.2 are.1 row h))) ∙ row-routes rows are.2 row h

pub there-row : (net : Net) (rows : List Row) → routes_of net rows ≢ [] → Has rows (record { net = net; routes = routes_of net rows })
there-row net [] some = some refl
there-row net (q ∷ rows) some = elim (cases_Bool (same_net net q.net)) [
  | inl t ↦ inl (let e : q.net ≡ net = sym (same_net_is net q.net t) in let f : q.routes ≡ routes_of net (q ∷ rows) = sym (cond-true _ _ _ t) in λ i. record { net = e i; routes = f i })
  | inr f ↦
      let e : routes_of net (q ∷ rows) ≡ routes_of net rows = cond-false _ _ _ f in
      inr (subst (λ (l : List Route). Has rows (record { net = net; routes = l })) (sym e) (there-row net rows (λ none. some (e ∙ none))))
]

-- ---- routes

pub other-source : (num : ℕ) (routes : List Route) → HasNone num routes → (r : Route) → Has routes r → r.src.num ≢ num
other-source num [] none r h = absurd h
other-source num (q ∷ routes) none r (inl e) = subst (λ (x : Route). x.src.num ≢ num) e none.0
other-source num (q ∷ routes) none r (inr h) = other-source num routes none.1 r h

there-found : (routes : List Route) → IsOfSources routes → (r : Route) → Has routes r → route_of r.src.num routes ≡ Some r
there-found [] sources r h = absurd h
there-found (q ∷ routes) sources r (inl e) = subst (λ (x : Route). route_of x.src.num (q ∷ routes) ≡ Some x) e (first_found q routes)
there-found (q ∷ routes) sources r (inr h) =
    cond-false _ _ _ (ne_eqb q.src.num r.src.num (λ e. other-source q.src.num routes sources.0 r h (sym e))) ∙ there-found routes sources.1 r h

module _ (content : Content) (all : List Row) (shows : Shows all content) where
  pub route-tells : (row : Row) → Has all row → (r : Route) → Has row.routes r → IsRouteOf content row.net r
  route-tells row there r h =
      sym (shows.routes_are row.net r.src.num) ∙ ap (route_of r.src.num) (row-routes all shows.rows_are row there)
      ∙ there-found row.routes (row-is all shows.rows_are row there).sources r h

  pub told-route : (row : Row) → Has all row → (r : Route) → IsRouteOf content row.net r → Has row.routes r
  told-route row there r is =
      contains-has row.routes r (found_among r.src.num row.routes r (ap (route_of r.src.num) (sym (row-routes all shows.rows_are row there)) ∙ shows.routes_are row.net r.src.num ∙ is))

  filled : (net : Net) → IsThere content net → routes_of net all ≢ []
  filled net there none =
      let e : route_of there.0.src.num (routes_of net all) ≡ Some there.0 = shows.routes_are net there.0.src.num ∙ there.1 in
      let f : None ≡ Some there.0 = sym (ap (route_of there.0.src.num) none) ∙ e in cc

  pub row-there : (net : Net) → IsThere content net → (row : Row) × Has all row × (row.net ≡ net)
  row-there net there = (record { net = net; routes = routes_of net all }, there-row net all (filled net there), refl)

  pub there-is : (row : Row) → Has all row → IsThere content row.net
  there-is row there = on row.routes refl (row-is all shows.rows_are row there).filled where
    on : (routes : List Route) → routes ≡ row.routes → row.routes ≢ [] → IsThere content row.net
    on [] e some = absurd (some (sym e))
    on (r ∷ rest) e some = (r, route-tells row there r (subst (λ (l : List Route). Has l r) e (inl refl)))

  -- ---- the best

  pub best-is : (row : Row) → Has all row → (best : Route) (others : List Route) → row.routes ≡ best ∷ others → IsBestAt content row.net best
  best-is row there best others is = (
    route-tells row there best (subst (λ (l : List Route). Has l best) (sym is) (inl refl)),
    λ other told differs.
        (subst IsInOrder is (row-is all shows.rows_are row there).order).0.1 other
        (has-contains (best ∷ others) other (subst (λ (l : List Route). Has l other) is (told-route row there other told))) differs,
  )

  pub best-one : (row : Row) → Has all row → (best : Route) (others : List Route) → row.routes ≡ best ∷ others → (r : Route) → IsBestAt content row.net r → r ≡ best
  best-one row there best others is r also = elim (same_or_not r best) [
    | inl e ↦ e
    | inr differs ↦
        let first = best-is row there best others is in
        absurd (before_back r best (also.1 best first.0 (λ e. differs (sym e))) (first.1 r also.0 differs))
  ]

  -- ---- which nets are asked for

  for-told : (asked : Net) (row : Row) → Has all row → (covers row.net asked && not (has_longer_cover asked row.net.len all)) ≡ true → IsSelected (For asked) content row.net
  for-told asked row there test =
      let parts = and_parts (covers row.net asked) (not (has_longer_cover asked row.net.len all)) test in (
        there-is row there,
        (covers_tells row.net asked).0 parts.0,
        λ other is over.
            let found = row-there other is in
            shorter other (subst (λ (n : Net). (covers n asked && nat_lt row.net.len n.len) ≡ false) found.2
            (any-none (λ (r : Row). covers r.net asked && nat_lt row.net.len r.net.len) all (no-longer (has_longer_cover asked row.net.len all) parts.1) found.0 found.1))
            ((covers_tells other asked).1 over),
      )
    where
      no-longer : (b : Bool) → not b ≡ true → b ≡ false
      no-longer true e = absurd (false≢true e)
      no-longer false e = refl

      shorter : (other : Net) → (covers other asked && nat_lt row.net.len other.len) ≡ false → covers other asked ≡ true → other.len ≤ row.net.len
      shorter other e t = not_more other.len row.net.len (ap (λ (b : Bool). b && nat_lt row.net.len other.len) (sym t) ∙ e) where
        not_more : (a b : ℕ) → nat_lt b a ≡ false → a ≤ b
        not_more a b f = grind (arith, nat_tests)

  told-for : (asked : Net) (row : Row) → IsSelected (For asked) content row.net → (covers row.net asked && not (has_longer_cover asked row.net.len all)) ≡ true
  told-for asked row is =
      let none : has_longer_cover asked row.net.len all ≡ false = elim (cases_Bool (has_longer_cover asked row.net.len all)) [
        | inl t ↦
            let found = any-has (λ (r : Row). covers r.net asked && nat_lt row.net.len r.net.len) all t in
            let parts = and_parts (covers found.0.net asked) (nat_lt row.net.len found.0.net.len) found.2 in
            absurd (not_both found.0.net.len row.net.len (is.2 found.0.net (there-is found.0 found.1) ((covers_tells found.0.net asked).0 parts.0)) (ltb-true _ _ parts.1))
        | inr f ↦ f
      ] in
      and_from _ _ ((covers_tells row.net asked).1 is.1) (ap not none)
    where
      not_both : (a b : ℕ) → a ≤ b → suc b ≤ a → ⊥
      not_both a b h k = omega (arith, h, k)

  pub picked-told : (pick : Select) (row : Row) → Has (selected pick all) row → Has all row × IsSelected pick content row.net
  picked-told All row h = (h, there-is row h)
  picked-told (Exact asked) row h = let p = has-passed (λ (r : Row). same_net asked r.net) all row h in (p.0, (there-is row p.0, sym (same_net_is asked row.net p.1)))
  picked-told (For asked) row h =
      let p = has-passed (λ (r : Row). covers r.net asked && not (has_longer_cover asked r.net.len all)) all row h in (p.0, for-told asked row p.0 p.1)
  picked-told (Within asked) row h = let p = has-passed (λ (r : Row). covers asked r.net) all row h in (p.0, (there-is row p.0, (covers_tells asked row.net).0 p.1))

  pub told-picked : (pick : Select) (row : Row) → Has all row → IsSelected pick content row.net → Has (selected pick all) row
  told-picked All row h is = h
  told-picked (Exact asked) row h is = passed-has (λ (r : Row). same_net asked r.net) all row h (subst (λ (n : Net). same_net asked n ≡ true) (sym is.1) (same_net_itself asked))
  told-picked (For asked) row h is = passed-has (λ (r : Row). covers r.net asked && not (has_longer_cover asked r.net.len all)) all row h (told-for asked row is)
  told-picked (Within asked) row h is = passed-has (λ (r : Row). covers asked r.net) all row h ((covers_tells asked row.net).1 is.1)

  pub selected-there : (pick : Select) (net : Net) → IsSelected pick content net → IsThere content net
  selected-there All net is = is
  selected-there (Exact asked) net is = is.0
  selected-there (For asked) net is = is.0
  selected-there (Within asked) net is = is.0
