-- Rows that show a content tell the candidates of its keys.
use Rattle.std.proofs.Common.{◌≡◌, ℕ, ◌≤◌, inl, inr, Bool, true, false, List, [], ◌∷◌, Option, Some, None, refl, sym, ◌∙◌, ap, subst}
use Rattle.std.specs.Prelude.{◌==◌, slice_get, if◌then◌else◌}
use Rattle.bits_ip.specs.Prefix.{Net, precedes, same_net}
use Rattle.attrs.specs.declared.route.Route.{Route}
use Rattle.attrs.specs.declared.route.Row.{Row}
use Rattle.attrs.specs.History.{Content}
use Rattle.attrs.specs.Selection.{IsBest}
use Rattle.attrs.specs.Table.{AreRows, IsBelow, IsInOrder, IsOfSources, Shows, route_of, routes_of}
use Rattle.attrs.proofs.Nets.{precedes_chain, precedes_other}
use Rattle.attrs.proofs.Rows.{IsBest-one}
use Rattle.export_core.specs.declared.log.Key.{Key}
use Rattle.export_core.specs.declared.passing.ExportSpec.{ExportSpec}
use Rattle.export_core.specs.Candidates.{among, best_in, candidate_of, first_of, has_num}
use Rattle.export_core.proofs.Nets.{net_tells}
use Rattle.core_machine.specs.Match.{IsSpecOf}
use Rattle.core_machine.specs.Pipes.{candidate_in, is_pipe, passes}
use Rattle.core_machine.specs.Rules.{IsRules, Rules}
use Rattle.core_machine.proofs.Contents.{if_false, if_true}
use Rattle.core_machine.proofs.OneChannel.{pipe_candidate, plain_candidate}

rows_in_order : (rows : List Row) → AreRows rows → (k : Net) → IsInOrder (routes_of k rows) × IsOfSources (routes_of k rows)
rows_in_order [] are k = (tt, tt)
rows_in_order (row ∷ rows) are k = by_test (same_net k row.net) (rows_in_order rows are.2 k) where
  by_test : (b : Bool) → IsInOrder (routes_of k rows) × IsOfSources (routes_of k rows) → IsInOrder (if b then row.routes else routes_of k rows) × IsOfSources (if b then row.routes else routes_of k rows)
  by_test true rest = (are.0.order, are.0.sources)
  by_test false rest = rest

first_best : (routes : List Route) → IsInOrder routes → IsBest routes (slice_get routes 0)
first_best [] order = refl
first_best (r ∷ rest) order = order.0

pub rows_tell : (g : Rules) (content : Content) (rows : List Row) (net : Net) → IsRules g → ((num : ℕ) → g.protocols ≤ num → content net num ≡ None) → Shows rows content → slice_get (routes_of net rows) 0 ≡ g.choose (content net)
rows_tell g content rows k ok beyond shows =
    let routes = routes_of k rows in
    let are = rows_in_order rows shows.rows_are k in
    IsBest-one routes (slice_get routes 0) (g.choose (content k)) (first_best routes are.0) (ok.best content k routes beyond (record { sources = are.1; are = shows.routes_are k }))

-- ---- a net has one row

below_next : (net next : Net) (rows : List Row) → precedes net next ≡ true → IsBelow next rows → IsBelow net rows
below_next net next [] lt below = tt
below_next net next (row ∷ rows) lt below = precedes_chain net next row.net lt below

none_past : (spec : ExportSpec) (k : Key) (rows : List Row) → IsBelow k.net rows → AreRows rows → best_in spec k rows ≡ None
none_past spec k [] below are = refl
none_past spec k (row ∷ rows) below are =
    if_false (same_net k.net row.net) (first_of (candidate_of spec k.num row.routes) (best_in spec k rows)) (best_in spec k rows) (precedes_other k.net row.net below)
    ∙ none_past spec k rows (below_next k.net row.net rows below are.1) are.2

first_alone : (o : Option Route) → first_of o None ≡ o
first_alone None = refl
first_alone (Some r) = refl

none_of : (spec : ExportSpec) (num : ℕ) → candidate_of spec num [] ≡ None
none_of spec num = by_tests (has_num spec num) spec.every where
  by_tests : (a b : Bool) → (if a then (if b then route_of num [] else slice_get [] 0) else None) ≡ None
  by_tests true true = refl
  by_tests true false = refl
  by_tests false b = refl

row_tells : (spec : ExportSpec) (k : Key) (rows : List Row) → AreRows rows → best_in spec k rows ≡ candidate_of spec k.num (routes_of k.net rows)
row_tells spec k [] are = sym (none_of spec k.num)
row_tells spec k (row ∷ rows) are =
    let own = candidate_of spec k.num row.routes in
    let rest = best_in spec k rows in
    elim (net_tells k.net row.net) [
      | inl w ↦ if_true (same_net k.net row.net) (first_of own rest) rest w.0
          ∙ ap (first_of own) (none_past spec k rows (let below : IsBelow k.net rows = ap_below (sym w.1) are.1 in below) are.2) ∙ first_alone own
          ∙ ap (candidate_of spec k.num) (sym (if_true (same_net k.net row.net) row.routes (routes_of k.net rows) w.0))
      | inr w ↦ if_false (same_net k.net row.net) (first_of own rest) rest w.0 ∙ row_tells spec k rows are.2
          ∙ ap (candidate_of spec k.num) (sym (if_false (same_net k.net row.net) row.routes (routes_of k.net rows) w.0))
    ] where
      ap_below : row.net ≡ k.net → IsBelow row.net rows → IsBelow k.net rows
      ap_below e below = subst (λ n. IsBelow n rows) e below

pub rows_candidate : (g : Rules) (c : ℕ) (spec : ExportSpec) (content : Content) (rows : List Row) (k : Key) → IsRules g → IsSpecOf g c spec → ((num : ℕ) → g.protocols ≤ num → content k.net num ≡ None) → Shows rows content → best_in spec k rows ≡ candidate_in g c k content
rows_candidate g c spec content rows k ok is beyond shows =
    let routes = routes_of k.net rows in
    row_tells spec k rows shows.rows_are
    ∙ elim (is_pipe g c) as (λ b. is_pipe g c ≡ b → candidate_of spec k.num routes ≡ candidate_in g c k content) [
      | true ↦ λ q. ap (λ e. if (if e then among k.num spec.sources else k.num == 0) then (if e then route_of k.num routes else slice_get routes 0) else None) (is.every ∙ q)
          ∙ ap (λ b. if b then route_of k.num routes else None) (is.sources q k.num) ∙ ap (λ o. if passes g c k.num then o else None) (shows.routes_are k.net k.num) ∙ sym (pipe_candidate g c k content q)
      | false ↦ λ q. ap (λ e. if (if e then among k.num spec.sources else k.num == 0) then (if e then route_of k.num routes else slice_get routes 0) else None) (is.every ∙ q)
          ∙ ap (λ o. if k.num == 0 then o else None) (rows_tell g content rows k.net ok beyond shows) ∙ sym (plain_candidate g c k content q)
    ] refl
