-- What each method of an importer comes to, from what its calls ensure. `v` is what is seen of its
-- fields, `old` the same as its contract names it.
use Rattle.std.proofs.Common.{◌≡◌, ℕ, Bool, true, false, [], refl, sym, ◌∙◌, ap, subst}
use Rattle.std.specs.Prelude.{length, if◌then◌else◌}
use Rattle.bits_ip.specs.Prefix.{Net}
use Rattle.attrs.specs.declared.attributes.Attrs.{Attrs}
use Rattle.attrs.specs.declared.attributes.Kind.{Kind}
use Rattle.attrs.specs.declared.attributes.Kind.TheVariants.{Bgp}
use Rattle.attrs.specs.declared.route.Route.{Route}
use Rattle.import_core.specs.declared.held.Accepted.{Accepted}
use Rattle.import_core.specs.declared.held.Accepted.TheVariants.{Nothing}
use Rattle.import_core.specs.declared.held.Decision.{Decision}
use Rattle.import_core.specs.declared.held.Decision.TheVariants as decision
use Rattle.import_core.specs.declared.held.Held.{Held}
use Rattle.import_core.specs.declared.import_spec.ImportSpec.{ImportSpec}
use Rattle.import_core.specs.declared.mode.Mode.{Mode}
use Rattle.import_core.specs.declared.mode.Mode.TheVariants as mode
use Rattle.import_core.specs.declared.nets.Rebuilt.{Rebuilt}
use Rattle.import_core.specs.declared.operation.Given.{Given}
use Rattle.import_core.specs.declared.operation.Op.{Op}
use Rattle.import_core.specs.declared.operation.Op.TheVariants.{Start, SessionUp, Add, Del, SessionDown, ReloadIn, ReloadOut, Reload}
use Rattle.import_core.specs.declared.step.Mark.{Mark}
use Rattle.import_core.specs.declared.step.Mark.TheVariants as mark
use Rattle.import_core.specs.declared.step.Step.{Step}
use Rattle.import_core.specs.Changes.{IsDifference, IsStep}
use Rattle.import_core.specs.Decisions.{Filter, decided, left_of, left_received, mark_of, only, rebuilt}
use Rattle.import_core.specs.Held.{Kept, IsRebuiltBy, accepted_of, accepted_route, decided_by, holding, missing, none_kept, placed, settled}
use Rattle.import_core.specs.Import.{imported_attrs, imported_route}
use Rattle.import_core.specs.Importers.{Importing, KeepsSpec, is_closed, is_unstarted, receiving}
use Rattle.import_core.specs.Imports.{Routes, Imports, has_net, is_up, without}
use Rattle.import_core.specs.Operations.{configured, disabled, done_in, enabled, up_with}
use Rattle.import_core.proofs.Deciding.{up_is}
use Rattle.import_core.proofs.Steps

module _ {J : Type 0} (verdict : J → Filter) (v old : Importing J) (e : v ≡ old) where
  abbrev kept_of : Importing J → Kept
  kept_of x = record { received = x.imports.received; accepted = x.imports.accepted }

  is_up_here : (r : Bool) → r ≡ is_up old.imports.mode → r ≡ true → is_up v.imports.mode ≡ true
  is_up_here r f g = ap (λ x. is_up x.imports.mode) e ∙ Steps.on_from r (is_up old.imports.mode) f g

  pub open_method : (id : ℕ) (r : Bool) (step : Step) → r ≡ is_closed old.spec.kind old.imports.mode → r ≡ true → step.changes ≡ [] → step.over ≡ false → step.mark ≡ mark.Up
      → IsStep old.spec old.imports (done_in old.spec (verdict old.judge) (SessionUp id) old.imports.mode old.imports) (record v.imports { mode = mode.Up; id = id }) step
  open_method id r step f g changes over m =
      subst (λ x. IsStep x.spec x.imports (done_in x.spec (verdict x.judge) (SessionUp id) x.imports.mode x.imports) (record v.imports { mode = mode.Up; id = id }) step) e
      (Steps.quiet_step v.spec v.imports (record v.imports { mode = mode.Up; id = id }) _ mark.Up step
      (Steps.open_is v.spec (verdict v.judge) id v.imports (ap (λ x. is_closed x.spec.kind x.imports.mode) e ∙ sym f ∙ g)) refl changes over m)

  pub del_method : (net : Net) (r : Bool) (kept : Kept) (step : Step) → r ≡ is_up old.imports.mode → r ≡ true → kept ≡ missing net (kept_of v)
      → IsDifference v.spec.src.num v.imports.accepted (without net v.imports.accepted) step.changes → step.over ≡ false → step.mark ≡ mark.Stay
      → IsStep old.spec old.imports (done_in old.spec (verdict old.judge) (Del net) old.imports.mode old.imports) (Steps.state_of v.imports.mode v.imports.id kept) step
  del_method net r kept step f g is changes over m =
      subst (λ x. IsStep x.spec x.imports (done_in x.spec (verdict x.judge) (Del net) x.imports.mode x.imports) (Steps.state_of v.imports.mode v.imports.id kept) step) e
      (Steps.same_step v.spec v.imports _ _ _ step (Steps.up_is_done v.spec (verdict v.judge) (Del net) v.imports (is_up_here r f g)) (Steps.delete_step v.spec net v.imports kept step is changes over m))

  pub close_method : (r : Bool) (kept : Kept) (step : Step) → r ≡ is_up old.imports.mode → r ≡ true → kept ≡ none_kept
      → IsDifference v.spec.src.num v.imports.accepted [] step.changes → step.over ≡ false → step.mark ≡ mark_of v.spec.kind mark.Down
      → IsStep old.spec old.imports (done_in old.spec (verdict old.judge) SessionDown old.imports.mode old.imports) (Steps.state_of mode.Idle v.imports.id kept) step
  close_method r kept step f g is changes over m =
      subst (λ x. IsStep x.spec x.imports (done_in x.spec (verdict x.judge) SessionDown x.imports.mode x.imports) (Steps.state_of mode.Idle v.imports.id kept) step) e
      (Steps.same_step v.spec v.imports _ _ _ step (Steps.up_is_done v.spec (verdict v.judge) SessionDown v.imports (is_up_here r f g)) (Steps.close_step v.spec v.imports kept step is changes over m))

  pub switch_off_method : (m : Mark) (kept : Kept) (step : Step) → kept ≡ record { received = left_received v.spec.kind v.imports.received; accepted = [] }
      → IsDifference v.spec.src.num v.imports.accepted [] step.changes → step.over ≡ false → step.mark ≡ mark_of v.spec.kind m
      → IsStep old.spec old.imports (disabled old.spec m old.imports) (Steps.state_of mode.Disabled v.imports.id kept) step
  switch_off_method m kept step is changes over is_mark =
      subst (λ x. IsStep x.spec x.imports (disabled x.spec m x.imports) (Steps.state_of mode.Disabled v.imports.id kept) step) e
      (Steps.disable_step v.spec m v.imports kept step is changes over is_mark)

  pub store_method : (net : Net) (held : Held) (over : Bool) (kept : Kept) (step : Step) → kept ≡ holding net held (kept_of v)
      → IsDifference v.spec.src.num v.imports.accepted (placed net (accepted_of held) v.imports.accepted) step.changes → step.over ≡ over → step.mark ≡ mark.Stay
      → IsStep old.spec old.imports (decided_by old.spec net held.route (decision.Stored held.accepted over) (receiving net held.route old.imports)) (Steps.state_of v.imports.mode v.imports.id kept) step
  store_method net held over kept step is changes o m =
      subst (λ x. IsStep x.spec x.imports (decided_by x.spec net held.route (decision.Stored held.accepted over) (receiving net held.route x.imports)) (Steps.state_of v.imports.mode v.imports.id kept) step) e
      (Steps.store_step v.spec net held over v.imports kept step is changes o m)

  pub end_at_limit_method : (net : Net) (route : Route) (kept kept' : Kept) (step : Step) → kept ≡ holding net (record { route = route; accepted = Nothing }) (kept_of v)
      → kept' ≡ record { received = left_received v.spec.kind kept.received; accepted = [] }
      → IsDifference v.spec.src.num v.imports.accepted [] step.changes → step.over ≡ true → step.mark ≡ mark_of v.spec.kind mark.Down
      → IsStep old.spec old.imports (decided_by old.spec net route decision.Limited (receiving net route old.imports)) (Steps.state_of mode.Limited v.imports.id kept') step
  end_at_limit_method net route kept kept' step is off changes o m =
      subst (λ x. IsStep x.spec x.imports (decided_by x.spec net route decision.Limited (receiving net route x.imports)) (Steps.state_of mode.Limited v.imports.id kept') step) e
      (Steps.limit_step v.spec net route v.imports kept kept' step is off changes o m)

  pub rebuild_method : (kept : Kept) (r : Rebuilt) (m : Mode) (step : Step)
      → ((i : Imports) → i.received ≡ v.imports.received → is_up i.mode ≡ true → IsRebuiltBy v.spec (verdict v.judge) i v.imports.accepted kept r)
      → m ≡ (if r.limited then mode.Limited else mode.Up) → step.changes ≡ r.changes → step.over ≡ r.over
      → step.mark ≡ (if r.limited then mark_of v.spec.kind mark.Down else mark.Stay)
      → IsStep old.spec old.imports (up_with old.spec (verdict old.judge) old.imports.received old.imports) (Steps.state_of m v.imports.id kept) step
  rebuild_method kept r m step is f changes over is_mark =
      subst (λ x. IsStep x.spec x.imports (up_with x.spec (verdict x.judge) x.imports.received x.imports) (Steps.state_of m v.imports.id kept) step) e
      (Steps.rebuilt_step v.spec (verdict v.judge) v.imports (record v.imports { mode = mode.Up }) kept r m step refl (is (record v.imports { mode = mode.Up }) refl refl) f changes over is_mark)

  pub start_method : (u : Bool) (made kept : Kept) (r : Rebuilt) (m : Mode) (step : Step) → u ≡ is_unstarted old.spec.kind old.imports.mode → u ≡ true
      → (is_unstarted v.spec.kind v.imports.mode ≡ true → kept_of v ≡ none_kept) → made ≡ record { received = configured v.spec; accepted = [] }
      → ((i : Imports) → i.received ≡ made.received → is_up i.mode ≡ true → IsRebuiltBy v.spec (verdict v.judge) i made.accepted kept r)
      → m ≡ (if r.limited then mode.Limited else mode.Up) → step.changes ≡ r.changes → step.over ≡ r.over
      → step.mark ≡ (if r.limited then mark_of v.spec.kind mark.Down else mark.Stay)
      → IsStep old.spec old.imports (done_in old.spec (verdict old.judge) Start old.imports.mode old.imports) (Steps.state_of m v.imports.id kept) step
  start_method u made kept r m step f g empty is_made is h changes over is_mark =
      let unstarted : is_unstarted v.spec.kind v.imports.mode ≡ true = ap (λ x. is_unstarted x.spec.kind x.imports.mode) e ∙ Steps.on_from u _ f g in
      let i : Imports = record v.imports { mode = mode.Up; received = configured v.spec } in
      let same : made.accepted ≡ v.imports.accepted = ap (λ (k : Kept). k.accepted) is_made ∙ sym (ap (λ (k : Kept). k.accepted) (empty unstarted)) in
      subst (λ x. IsStep x.spec x.imports (done_in x.spec (verdict x.judge) Start x.imports.mode x.imports) (Steps.state_of m v.imports.id kept) step) e
      (Steps.same_step v.spec v.imports _ _ _ step (Steps.start_is v.spec (verdict v.judge) v.imports unstarted)
      (Steps.rebuilt_step v.spec (verdict v.judge) v.imports i kept r m step refl
      (subst (λ (b : Routes). IsRebuiltBy v.spec (verdict v.judge) i b kept r) same (is i (sym (ap (λ (k : Kept). k.received) is_made)) refl)) h changes over is_mark))

  pub reload_out_method : (r : Bool) (m : Mark) (step : Step) → r ≡ is_up old.imports.mode → r ≡ true → m ≡ mark_of v.spec.kind mark.Refresh
      → step.changes ≡ [] → step.over ≡ false → step.mark ≡ m
      → IsStep old.spec old.imports (done_in old.spec (verdict old.judge) ReloadOut old.imports.mode old.imports) old.imports step
  reload_out_method r m step f g h changes over is_mark =
      Steps.quiet_step old.spec old.imports old.imports _ (mark_of old.spec.kind mark.Refresh) step
      (Steps.up_is_done old.spec (verdict old.judge) ReloadOut old.imports (Steps.on_from r (is_up old.imports.mode) f g)) refl changes over
      (is_mark ∙ h ∙ ap (λ (x : Importing J). mark_of x.spec.kind mark.Refresh) e)

  pub switch_on_method : (step : Step) → v.spec.kind ≡ Bgp → step.changes ≡ [] → step.over ≡ false → step.mark ≡ mark.Stay
      → IsStep old.spec old.imports (enabled old.spec (verdict old.judge) old.spec.kind old.imports) (record v.imports { mode = mode.Idle }) step
  switch_on_method step kind changes over is_mark =
      subst (λ (x : Importing J). IsStep x.spec x.imports (enabled x.spec (verdict x.judge) x.spec.kind x.imports) (record v.imports { mode = mode.Idle }) step) e
      (Steps.quiet_step v.spec v.imports (record v.imports { mode = mode.Idle }) _ mark.Stay step
      (ap (λ (k : Kind). enabled v.spec (verdict v.judge) k v.imports) (sym kind)) refl changes over is_mark)

-- methods that hand on to others
module _ {J : Type 0} (verdict : J → Filter) (old : Importing J) where
  pub reload_in_method : (new : Imports) (r : Bool) (step : Step) → r ≡ is_up old.imports.mode → r ≡ true
      → IsStep old.spec old.imports (up_with old.spec (verdict old.judge) old.imports.received old.imports) new step
      → IsStep old.spec old.imports (done_in old.spec (verdict old.judge) ReloadIn old.imports.mode old.imports) new step
  reload_in_method new r step f g is =
      let up = Steps.on_from r (is_up old.imports.mode) f g in
      Steps.same_step old.spec old.imports new _ _ step (Steps.up_with_is old.spec (verdict old.judge) old.imports (up_is old.imports.mode up) ∙ Steps.up_is_done old.spec (verdict old.judge) ReloadIn old.imports up) is

  pub rebuilt_in_up : (new : Imports) (r : Bool) (step : Step) → r ≡ is_up old.imports.mode → r ≡ true
      → IsStep old.spec old.imports (up_with old.spec (verdict old.judge) old.imports.received old.imports) new step
      → IsStep old.spec old.imports (rebuilt old.spec (verdict old.judge) old.imports) new step
  rebuilt_in_up new r step f g is =
      Steps.same_step old.spec old.imports new _ _ step (Steps.up_with_is old.spec (verdict old.judge) old.imports (up_is old.imports.mode (Steps.on_from r (is_up old.imports.mode) f g))) is

  pub reload_limited_method : (new : Imports) (r s : Bool) (step : Step) → r ≡ is_up old.imports.mode → r ≡ true → s ≡ is_up new.mode → s ≡ false
      → IsStep old.spec old.imports (up_with old.spec (verdict old.judge) old.imports.received old.imports) new step
      → IsStep old.spec old.imports (done_in old.spec (verdict old.judge) Reload old.imports.mode old.imports) new step
  reload_limited_method new r s step f g h k is =
      let up = Steps.on_from r (is_up old.imports.mode) f g in
      let here = rebuilt_in_up new r step f g is in
      Steps.same_step old.spec old.imports new _ _ step
      (Steps.reload_limited old.spec (verdict old.judge) old.imports up (sym (ap (λ (x : Imports). is_up x.mode) here.imports) ∙ Steps.off_from s (is_up new.mode) h k)) here

  pub reload_method : (new : Imports) (r s : Bool) (step later : Step) → r ≡ is_up old.imports.mode → r ≡ true → s ≡ is_up new.mode → s ≡ true
      → IsStep old.spec old.imports (up_with old.spec (verdict old.judge) old.imports.received old.imports) new step
      → later.changes ≡ step.changes → later.over ≡ step.over → later.mark ≡ mark_of old.spec.kind mark.Refresh
      → IsStep old.spec old.imports (done_in old.spec (verdict old.judge) Reload old.imports.mode old.imports) new later
  reload_method new r s step later f g h k is changes over is_mark =
      let up = Steps.on_from r (is_up old.imports.mode) f g in
      let here = rebuilt_in_up new r step f g is in
      Steps.same_step old.spec old.imports new _ _ later
      (Steps.reload_still_up old.spec (verdict old.judge) old.imports up (sym (ap (λ (x : Imports). is_up x.mode) here.imports) ∙ Steps.on_from s (is_up new.mode) h k))
      (record {
        imports = here.imports;
        over = over ∙ here.over;
        mark = is_mark;
        changes = subst (λ cs. IsDifference old.spec.src.num old.imports.accepted (rebuilt old.spec (verdict old.judge) old.imports).imports.accepted cs) (sym changes) here.changes;
      })

  pub add_method : (net : Net) (given : Given) (route : Route) (d : Decision) (new : Imports) (r : Bool) (step : Step) → r ≡ is_up old.imports.mode → r ≡ true
      → route ≡ imported_route old.spec old.imports.id given
      → ((i : Imports) → i.accepted ≡ old.imports.accepted → decided_by old.spec net route d i ≡ decided old.spec (verdict old.judge) net route i)
      → IsStep old.spec old.imports (decided_by old.spec net route d (receiving net route old.imports)) new step
      → IsStep old.spec old.imports (done_in old.spec (verdict old.judge) (Add net given) old.imports.mode old.imports) new step
  add_method net given route d new r step f g is_route is_decision is =
      let up = Steps.on_from r (is_up old.imports.mode) f g in
      Steps.same_step old.spec old.imports new _ _ step
      (is_decision (receiving net route old.imports) refl
      ∙ ap (λ (q : Route). decided old.spec (verdict old.judge) net q (receiving net q old.imports)) is_route
      ∙ Steps.up_is_done old.spec (verdict old.judge) (Add net given) old.imports up) is

  -- by the mode that was matched
  pub mode_method : (op : Op) (m : Mode) (new : Imports) (step : Step) → old.imports.mode ≡ m
      → IsStep old.spec old.imports (done_in old.spec (verdict old.judge) op m old.imports) new step
      → IsStep old.spec old.imports (done_in old.spec (verdict old.judge) op old.imports.mode old.imports) new step
  mode_method op m new step e is = Steps.same_step old.spec old.imports new _ _ step (ap (λ m. done_in old.spec (verdict old.judge) op m old.imports) (sym e)) is

  pub decide_method : (v : Importing J) → v ≡ old → (net : Net) (route : Route) (d : Decision) (x : Accepted) (r : Bool) (n : ℕ)
      → accepted_route route x ≡ left_of (verdict v.judge) net route → d ≡ settled v.spec.limit x r n → r ≡ has_net net v.imports.accepted → n ≡ length v.imports.accepted
      → (i : Imports) → i.accepted ≡ old.imports.accepted → decided_by old.spec net route d i ≡ decided old.spec (verdict old.judge) net route i
  decide_method v e net route d x r n is f g h =
      subst (λ y. (i : Imports) → i.accepted ≡ y.imports.accepted → decided_by y.spec net route d i ≡ decided y.spec (verdict y.judge) net route i) e
      (Steps.decision_is v.spec (verdict v.judge) net route d v.imports.accepted x is
      (f ∙ ap (λ t. settled v.spec.limit x t n) g ∙ ap (λ n. settled v.spec.limit x (has_net net v.imports.accepted) n) h))

  pub follow_method : (net : Net) (route : Route) (d x : Decision) (new : Imports) (step : Step) → d ≡ x
      → IsStep old.spec old.imports (decided_by old.spec net route x (receiving net route old.imports)) new step
      → IsStep old.spec old.imports (decided_by old.spec net route d (receiving net route old.imports)) new step
  follow_method net route d x new step e is =
      Steps.same_step old.spec old.imports new _ _ step (ap (λ (y : Decision). decided_by old.spec net route y (receiving net route old.imports)) (sym e)) is

  pub stays_in : (op : Op) (m : Mode) (step : Step) → old.imports.mode ≡ m → only old.imports ≡ done_in old.spec (verdict old.judge) op m old.imports
      → step.changes ≡ [] → step.over ≡ false → step.mark ≡ mark.Stay → IsStep old.spec old.imports (done_in old.spec (verdict old.judge) op old.imports.mode old.imports) old.imports step
  stays_in op m step e off changes over is_mark =
      Steps.stays old.spec old.imports _ step (off ∙ ap (λ (x : Mode). done_in old.spec (verdict old.judge) op x old.imports) (sym e)) changes over is_mark

  pub enabled_method : (k : Kind) (new : Imports) (step : Step) → old.spec.kind ≡ k → IsStep old.spec old.imports (enabled old.spec (verdict old.judge) k old.imports) new step
      → IsStep old.spec old.imports (enabled old.spec (verdict old.judge) old.spec.kind old.imports) new step
  enabled_method k new step e is = Steps.same_step old.spec old.imports new _ _ step (ap (λ (x : Kind). enabled old.spec (verdict old.judge) x old.imports) (sym e)) is

module _ {J : Type 0} (v old : Importing J) (e : v ≡ old) where
  pub mode_seen : (m : Mode) → v.imports.mode ≡ m → old.imports.mode ≡ m
  mode_seen m f = ap (λ (x : Importing J). x.imports.mode) (sym e) ∙ f

  pub kind_seen : (k : Kind) → v.spec.kind ≡ k → old.spec.kind ≡ k
  kind_seen k f = ap (λ (x : Importing J). x.spec.kind) (sym e) ∙ f

  pub route_seen : (given : Given) (attrs : Attrs) → attrs ≡ imported_attrs v.spec v.imports.id given
      → record { src = v.spec.src; attrs = attrs } ≡ imported_route old.spec old.imports.id given
  route_seen given attrs f =
      ap (λ (a : Attrs). record { src = v.spec.src; attrs = a }) f ∙ ap (λ (x : Importing J). imported_route x.spec x.imports.id given) e

  pub mark_seen : (before : Importing J) (m k : Mark) → KeepsSpec before old → m ≡ mark_of v.spec.kind k → m ≡ mark_of before.spec.kind k
  mark_seen before m k kept f =
      f ∙ ap (λ (x : Importing J). mark_of x.spec.kind k) e ∙ ap (λ (s : ImportSpec). mark_of s.kind k) kept.spec
