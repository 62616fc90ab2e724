-- The changes of an operation (`IsDifference`): the difference between the routes accepted before
-- and after, each net once, in the order of nets. That a step is what an operation comes to
-- (`IsStep`).
-- Not modelled: how the difference is found.
-- From: own.
-- Example: a net whose accepted route is the same before and after is in no change.
use Rattle.std.specs.Prelude.{◌≡◌, ◌≢◌, ℕ, ◌==◌, List, [], ◌∷◌, ◌++◌, Option, Some, None, map, if◌then◌else◌}
use Rattle.std.specs.BTreeMap.{is_at}
use Rattle.std.specs.List.{AllByRecursion}
use Rattle.std.specs.List.Sorted.{IsStrictlySortedBy}
use Rattle.std.specs.Map.{lookup}
use Rattle.bits_ip.specs.Prefix.{Net, net_cmp}
use Rattle.attrs.specs.declared.route.Change.{Change}
use Rattle.attrs.specs.declared.route.Route.{Route}
use Rattle.attrs.specs.History.{Content}
use Rattle.import_core.specs.declared.import_spec.ImportSpec.{ImportSpec}
use Rattle.import_core.specs.declared.operation.Op.{Op}
use Rattle.import_core.specs.declared.step.Step.{Step}
use Rattle.import_core.specs.Imports.{Routes, Imports, route_at}
use Rattle.import_core.specs.Decisions.{Filter, Outcome}
use Rattle.import_core.specs.Operations.{done}

-- the nets of changes with what they leave there
abbrev pub pairs_of : List Change → List (Net × Option Route)
pairs_of changes = map (λ c. (c.net, c.new)) changes

abbrev pub new_at : Net → List Change → Option (Option Route)
new_at net changes = lookup (is_at (net_cmp net)) (pairs_of changes)

-- Each net whose route differs, once, in the order of nets, with its new route or none.
pub record IsDifference
    (num : ℕ) (before after : Routes) (changes : List Change) : Type 0 where
  pub order : IsStrictlySortedBy net_cmp (map (λ c. c.net) changes)
  pub source : AllByRecursion (λ c. c.num ≡ num) changes
  pub differing :
      (net : Net) → (route_at net before ≢ route_at net after)
      → new_at net changes ≡ Some (route_at net after)
  pub same :
      (net : Net) → route_at net before ≡ route_at net after → new_at net changes ≡ None

-- The step is what the outcome says, from a state to the next.
pub record IsStep
    (spec : ImportSpec) (before : Imports) (o : Outcome) (after : Imports) (step : Step)
    : Type 0 where
  pub imports : after ≡ o.imports
  pub over : step.over ≡ o.over
  pub mark : step.mark ≡ o.mark
  pub changes : IsDifference spec.src.num before.accepted o.imports.accepted step.changes

-- the changes of operations, those of one behind those of the other
abbrev pub AreChanges : ImportSpec → Filter → Imports → List Op → List Change → Type 0
AreChanges spec verdict i [] changes = changes ≡ []
AreChanges spec verdict i (op ∷ ops) changes =
    let next = (done spec verdict op i).imports in
    (first : List Change) × (later : List Change) × (changes ≡ first ++ later)
    × IsDifference spec.src.num i.accepted next.accepted first
    × AreChanges spec verdict next ops later

-- routes as the part of a table that has this source
abbrev pub routes_from : ℕ → Routes → Content
routes_from source routes net num = if num == source then route_at net routes else None
