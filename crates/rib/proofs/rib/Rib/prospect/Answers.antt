use Rattle.std.proofs.Common.{◌≡◌, ◌↔◌, ◌∙◌, ap, sym, subst, List, [], ◌∷◌, Ok, Option}
use Rattle.std.specs.Prelude.{IfOk}
use Rattle.std.proofs.lemmas.Result.{IfOk-weaker}
use Rattle.attrs.specs.declared.route.Route.{Route}
use Rattle.attrs.specs.declared.route.Row.{Row}
use Rattle.attrs.specs.History.{after}
use Rattle.attrs.specs.Table.{IsBestOf, route_in, route_of}
use Rattle.rib.specs.declared.rib.Prospect.{Prospect}
use Rattle.rib.specs.declared.rib.Prospect.TheVariants.{Same, Changes}
use Rattle.rib.specs.Entries.{rows_of}
use Rattle.rib.specs.Outcome.{IfChanges}
use Rattle.rib.specs.Rib.{Table, first_of}
use Rattle.rib.specs.Picks.{routes_with}
use Rattle.rib.specs.Steps.{AreRoutes}
use Rattle.rib.proofs.NetRows.{nets-rows}
use Rattle.rib.proofs.Picking.{best-with, rows-routes}
use Rattle.rib.proofs.rib.Rib.prospect.Goals as goal

changes-weaker : (p : Prospect) (P Q : Option Route → Type 0) → ((best : Option Route) → P best → Q best) → IfChanges P p → IfChanges Q p
changes-weaker Same P Q weaker is = tt
changes-weaker (Changes best) P Q weaker is = weaker best is

pub prospect_of-requires : goal.prospect_of-requires
prospect_of-requires c =
    subst AreRoutes (sym c.routes-routes.ensures) (rows-routes c.args.change.now.net (rows_of c.self.inside.nets) (nets-rows _ _ _ c.self.invariant.nets))

pub returns-clause-same : goal.returns-clause-same
returns-clause-same c =
    let change = c.args.change.now in
    subst (λ (o : Option Route). (c.prospect_of.result ≡ Ok Same) ↔ (o ≡ change.new))
    (ap (λ (l : List Route). route_of change.num l) c.routes-routes.ensures ∙ ap (λ (t : Table). route_in t.rows change.net change.num) c.self.view_is)
    (subst (λ (o : Option Route). (c.prospect_of.result ≡ Ok Same) ↔ (route_of change.num c.routes-routes.result.now ≡ o)) c.as_ref.ensures.value c.prospect_of.ensures.same)

pub returns-clause-best : goal.returns-clause-best
returns-clause-best c =
    let change = c.args.change.now in
    let rows = rows_of c.self.inside.nets in
    let told = ap (λ (o : Option Route). first_of (routes_with change.num o c.routes-routes.result.now)) c.as_ref.ensures.value
    ∙ ap (λ (l : List Route). first_of (routes_with change.num change.new l)) c.routes-routes.ensures in
    let view : c.args.self.now.rows ≡ rows = sym (ap (λ (t : Table). t.rows) c.self.view_is) in
    subst (λ (l : List Row). IfOk c.prospect_of.result (IfChanges (IsBestOf (after (route_in l) (change ∷ [])) change.net))) (sym view)
    (IfOk-weaker c.prospect_of.result _ (IfChanges (IsBestOf (after (route_in rows) (change ∷ [])) change.net))
    (λ prospect is. changes-weaker prospect _ (IsBestOf (after (route_in rows) (change ∷ [])) change.net)
    (λ best same. subst (IsBestOf (after (route_in rows) (change ∷ [])) change.net) (sym (same ∙ told)) (best-with rows change (nets-rows _ _ _ c.self.invariant.nets) c.requires)) is)
    c.prospect_of.ensures.best)
