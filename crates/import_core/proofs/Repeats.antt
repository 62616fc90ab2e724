-- An announcement that is repeated.
use Rattle.std.proofs.Common.{◌≡◌, Bool, true, false, cond, not, List, [], length, Option, Some, None, refl, sym, ◌∙◌, ap, subst}
use Rattle.std.specs.Prelude.{is_some, ◌&&◌, nat_le, if◌then◌else◌}
use Rattle.bits_ip.specs.Prefix.{Net}
use Rattle.attrs.specs.declared.route.Change.{Change}
use Rattle.attrs.specs.declared.route.Route.{Route}
use Rattle.import_core.specs.declared.import_spec.Action.{Action}
use Rattle.import_core.specs.declared.import_spec.Action.TheVariants.{Warn, Block, Disable}
use Rattle.import_core.specs.declared.import_spec.ImportSpec.{ImportSpec}
use Rattle.import_core.specs.declared.import_spec.Limit.{Limit}
use Rattle.import_core.specs.declared.mode.Mode.{Mode}
use Rattle.import_core.specs.declared.mode.Mode.TheVariants as mode
use Rattle.import_core.specs.declared.operation.Given.{Given}
use Rattle.import_core.specs.declared.operation.Op.TheVariants.{Add}
use Rattle.import_core.specs.Import.{imported_route}
use Rattle.import_core.specs.Imports.{Routes, Imports, route_at, with_route, without, is_up}
use Rattle.import_core.specs.Decisions.{Filter, left_of, only, is_over, accepting, beyond, at_limit, taken}
use Rattle.import_core.specs.Operations.{added, done_in, done}
use Rattle.import_core.specs.Changes.{IsDifference}
use Rattle.import_core.proofs.Routes.{at_itself, found-put, put-again, dropped-again, dropped-absent}
use Rattle.import_core.proofs.Differences.{nothing_changed}

module _ (spec : ImportSpec) (net : Net) where
  not_over : (limit : Limit) (route : Route) (routes : Routes) → is_over (Some limit) net (with_route net route routes) ≡ false
  not_over limit route routes =
      ap (λ (o : Option Route). not (is_some o) && nat_le limit.count (length (with_route net route routes)))
      (found-put net net route routes ∙ ap (λ t. cond t (Some route) (route_at net routes)) (at_itself net))

  absent : (limit : Limit) (routes : Routes) → is_over (Some limit) net routes ≡ true → route_at net routes ≡ None
  absent limit routes over = by (route_at net routes) over where
    by : (o : Option Route) → (not (is_some o) && nat_le limit.count (length routes)) ≡ true → o ≡ None
    by None e = refl
    by (Some r) e = let h : false ≡ true = e in cc

  taken_twice : (left : Option Route) (i : Imports) (received : Routes) → is_up (taken spec net left i).imports.mode ≡ true
      → (taken spec net left (record (taken spec net left i).imports { received = received })).imports.accepted ≡ (taken spec net left i).imports.accepted
  taken_twice None i received up = dropped-again net i.accepted
  taken_twice (Some route) i received up = by spec.limit up where
    by_action : (limit : Limit) (t : Bool) → is_over (Some limit) net i.accepted ≡ t → (a : Action)
        → is_up (if t then beyond spec a net route i else only (accepting net route i)).imports.mode ≡ true
        → (if is_over (Some limit) net (if t then beyond spec a net route i else only (accepting net route i)).imports.accepted
        then beyond spec a net route (record (if t then beyond spec a net route i else only (accepting net route i)).imports { received = received })
        else only (accepting net route (record (if t then beyond spec a net route i else only (accepting net route i)).imports { received = received }))).imports.accepted
        ≡ (if t then beyond spec a net route i else only (accepting net route i)).imports.accepted
    by_action limit true over Warn up =
        ap (λ t. (if t then beyond spec Warn net route (record i { received = received; accepted = with_route net route i.accepted }) else only (accepting net route (record i { received = received; accepted = with_route net route i.accepted }))).imports.accepted) (not_over limit route i.accepted)
        ∙ put-again net route i.accepted
    by_action limit true over Block up =
        ap (λ t. (if t then beyond spec Block net route (record i { received = received; accepted = without net i.accepted }) else only (accepting net route (record i { received = received; accepted = without net i.accepted }))).imports.accepted)
        (subst (λ (r : Routes). is_over (Some limit) net r ≡ true) (sym (dropped-absent net i.accepted (absent limit i.accepted over))) over)
        ∙ dropped-again net i.accepted
    by_action limit true over Disable up = absurd (let h : false ≡ true = up in cc)
    by_action limit false over a up =
        ap (λ t. (if t then beyond spec a net route (record i { received = received; accepted = with_route net route i.accepted }) else only (accepting net route (record i { received = received; accepted = with_route net route i.accepted }))).imports.accepted) (not_over limit route i.accepted)
        ∙ put-again net route i.accepted

    by : (o : Option Limit) → is_up (at_limit spec o net route i).imports.mode ≡ true
        → (at_limit spec o net route (record (at_limit spec o net route i).imports { received = received })).imports.accepted ≡ (at_limit spec o net route i).imports.accepted
    by None up = put-again net route i.accepted
    by (Some limit) up = by_action limit (is_over (Some limit) net i.accepted) refl limit.action up

  taken_id : (left : Option Route) (i : Imports) → (taken spec net left i).imports.id ≡ i.id
  taken_id None i = refl
  taken_id (Some route) i = by spec.limit where
    by_action : (t : Bool) (a : Action) → (if t then beyond spec a net route i else only (accepting net route i)).imports.id ≡ i.id
    by_action true Warn = refl
    by_action true Block = refl
    by_action true Disable = refl
    by_action false a = refl

    by : (o : Option Limit) → (at_limit spec o net route i).imports.id ≡ i.id
    by None = refl
    by (Some limit) = by_action (is_over (Some limit) net i.accepted) limit.action

module _ (spec : ImportSpec) (verdict : Filter) (net : Net) (given : Given) where
  added_twice : (i : Imports) (m : Mode) → (added spec verdict net given i).imports.mode ≡ m
      → (done_in spec verdict (Add net given) m (added spec verdict net given i).imports).imports.accepted ≡ (added spec verdict net given i).imports.accepted
  added_twice i mode.Idle e = refl
  added_twice i mode.Disabled e = refl
  added_twice i mode.Limited e = refl
  added_twice i mode.Up e =
      let route = imported_route spec i.id given in
      let now : Imports = record i { received = with_route net route i.received } in
      let left = left_of verdict net route in
      let told = (taken spec net left now).imports in
      ap (λ id. (taken spec net (left_of verdict net (imported_route spec id given)) (record told { received = with_route net (imported_route spec id given) told.received })).imports.accepted) (taken_id spec net left now)
      ∙ taken_twice spec net left now (with_route net route told.received) (ap is_up e)

  pub repeated : (i : Imports) (changes : List Change)
      → IsDifference spec.src.num (done spec verdict (Add net given) i).imports.accepted
      (done spec verdict (Add net given) (done spec verdict (Add net given) i).imports).imports.accepted changes
      → changes ≡ []
  repeated i changes is = nothing_changed spec.src.num _ _ changes (by i.mode refl) is where
    by : (m : Mode) → i.mode ≡ m → (done spec verdict (Add net given) (done_in spec verdict (Add net given) m i).imports).imports.accepted ≡ (done_in spec verdict (Add net given) m i).imports.accepted
    by mode.Up e = added_twice i (added spec verdict net given i).imports.mode refl
    by mode.Idle e = ap (λ m. (done_in spec verdict (Add net given) m i).imports.accepted) e
    by mode.Disabled e = ap (λ m. (done_in spec verdict (Add net given) m i).imports.accepted) e
    by mode.Limited e = ap (λ m. (done_in spec verdict (Add net given) m i).imports.accepted) e
