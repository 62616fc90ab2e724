-- What a channel that is settled has sent is what `export` shows.
use Rattle.std.proofs.Common.{◌≡◌, ◌∙◌, List, [], ◌∷◌, Option, Some, None, refl, sym, ap, subst, inl, inr, ◌↔◌}
use Rattle.bits_ip.specs.Prefix.{Net}
use Rattle.attrs.specs.History.{Content}
use Rattle.attrs.specs.Table.{AreRoutesOf, IsBestOf, IsOfSources, Shows, route_of, routes_of}
use Rattle.attrs.specs.declared.attributes.Attrs.{Attrs}
use Rattle.attrs.specs.declared.judge.Verdict.{Verdict}
use Rattle.attrs.specs.declared.route.Route.{Route}
use Rattle.attrs.specs.declared.route.Row.{Row}
use Rattle.attrs.specs.declared.route.Select.TheVariants.{All}
use Rattle.attrs.proofs.Rows.{before_back}
use Rattle.attrs.proofs.Same.{same_or_not}
use Rattle.export_core.specs.Keys.{key_of}
use Rattle.export_core.specs.Passing.{passed, value_by}
use Rattle.export_core.specs.declared.log.Key.{Key}
use Rattle.export_core.specs.declared.passing.ExportSpec.{ExportSpec}
use Rattle.show_route.specs.declared.query.Query.{Query}
use Rattle.show_route.specs.Senders.{sender_of}
use Rattle.show_route.specs.Shown.{IsBestAt, IsShown, Item}
use Rattle.show_route.proofs.Expected.{export-shows}
use Rattle.show_route.proofs.Members.{Has, contains-has, has-contains}
use Rattle.show_route.proofs.Tables.{route-tells, row-is, told-route, there-row}

-- ---- the best of a net's routes

-- The best of all lists of the net's routes is the best in the content, where rows show that.
module _ (content : Content) (all : List Row) (shows : Shows all content) (net : Net) where
  abbrev row : Row
  row = record { net = net; routes = routes_of net all }

  some-there : (r : Route) → Has (routes_of net all) r → Has all row
  some-there r h = there-row net all (λ none. subst (λ (l : List Route). Has l r) none h)

  of-sources : (routes : List Route) → routes_of net all ≡ routes → IsOfSources routes
  of-sources [] is = tt
  of-sources (r ∷ rest) is =
      subst IsOfSources is (row-is all shows.rows_are row (some-there r (subst (λ (l : List Route). Has l r) (sym is) (inl refl)))).sources

  routes-are : AreRoutesOf content net (routes_of net all)
  routes-are = record { sources = of-sources (routes_of net all) refl; are = λ num. shows.routes_are net num }

  best-shown : (best : Route) → IsBestOf content net (Some best) → IsBestAt content net best
  best-shown best is =
      let first = is (routes_of net all) routes-are in
      let has = contains-has (routes_of net all) best first.0 in
      let there = some-there best has in (
        route-tells content all shows row there best has,
        λ other told differs. first.1 other (has-contains (routes_of net all) other (told-route content all shows row there other told)) differs,
      )

  none-shown : IsBestOf content net None → (r : Route) → IsBestAt content net r → ⊥
  none-shown is r at =
      let none : routes_of net all ≡ [] = is (routes_of net all) routes-are in
      let told : route_of r.src.num (routes_of net all) ≡ Some r = shows.routes_are net r.src.num ∙ at.0 in
      let nothing : None ≡ Some r = ap (route_of r.src.num) (sym none) ∙ told in cc

  one-best : (a b : Route) → IsBestAt content net a → IsBestAt content net b → a ≡ b
  one-best a b is also = elim (same_or_not a b) [
    | inl e ↦ e
    | inr differs ↦ absurd (before_back a b (is.1 b also.0 (λ e. differs (sym e))) (also.1 a is.0 differs))
  ]

  shown-best : (best : Option Route) → IsBestOf content net best → (r : Route) → IsBestAt content net r → best ≡ Some r
  shown-best None is r at = absurd (none-shown is r at)
  shown-best (Some best) is r at = ap (λ (q : Route). Some q) (one-best best r (best-shown best is) at)

-- ---- a settled channel

module _ (query : Query) (spec : ExportSpec) (verdict : Net → Route → Verdict) (content : Content) (rows : List Row) (shows : Shows rows content)
    (net : Net) (attrs : Attrs) (all : query.pick ≡ All) (any : query.source ≡ None) where
  abbrev value : Key → Route → Option Attrs
  value = value_by spec verdict

  sent-of-best : (best : Option Route) → IsBestOf content net best → passed value (key_of net) best ≡ Some attrs → (r : Route) × IsBestAt content net r × (sender_of spec verdict net r ≡ Some attrs)
  sent-of-best None is sent = absurd (let nothing : None ≡ Some attrs = sent in cc)
  sent-of-best (Some best) is sent = (best, best-shown content rows shows net best is, sent)

  pub shows-what-is-sent : (best : Option Route) (last : Option Attrs) → IsBestOf content net best → last ≡ passed value (key_of net) best
      → ((item : Item) × IsShown query None (Some (sender_of spec verdict)) content item × (item.net ≡ net) × (item.route.attrs ≡ attrs)) ↔ (last ≡ Some attrs)
  shows-what-is-sent best last is right =
      let shown = export-shows query (sender_of spec verdict) content net attrs all any in (
        λ item.
            let found = shown.0 item in
            right ∙ ap (λ (o : Option Route). passed value (key_of net) o) (shown-best content rows shows net best is found.0 found.1) ∙ found.2,
        λ sent. shown.1 (sent-of-best best is (sym right ∙ sent)),
      )
