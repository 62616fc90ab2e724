-- Steps from one state to the next, by what was done to the routes.
use Rattle.std.proofs.Common.{◌≡◌, ℕ, Bool, true, false, List, [], refl, sym, ◌∙◌, ap, subst}
use Rattle.std.specs.Prelude.{is_some, length, not, if◌then◌else◌}
use Rattle.bits_ip.specs.Prefix.{Net}
use Rattle.attrs.specs.declared.attributes.Kind.{Kind}
use Rattle.attrs.specs.declared.attributes.Kind.TheVariants.{Bgp, Static}
use Rattle.attrs.specs.declared.route.Change.{Change}
use Rattle.attrs.specs.declared.route.Route.{Route}
use Rattle.import_core.specs.declared.held.Accepted.{Accepted}
use Rattle.import_core.specs.declared.held.Accepted.TheVariants.{Nothing, AsReceived, With}
use Rattle.import_core.specs.declared.held.Decision.{Decision}
use Rattle.import_core.specs.declared.held.Decision.TheVariants as decision
use Rattle.import_core.specs.declared.held.Held.{Held}
use Rattle.import_core.specs.declared.import_spec.ImportSpec.{ImportSpec}
use Rattle.import_core.specs.declared.mode.Mode.{Mode}
use Rattle.import_core.specs.declared.mode.Mode.TheVariants as mode
use Rattle.import_core.specs.declared.nets.Rebuilt.{Rebuilt}
use Rattle.import_core.specs.declared.operation.Given.{Given}
use Rattle.import_core.specs.declared.operation.Op.{Op}
use Rattle.import_core.specs.declared.operation.Op.TheVariants.{Start, SessionUp, Add, Del, SessionDown, ReloadIn, ReloadOut, Reload}
use Rattle.import_core.specs.declared.step.Mark.{Mark}
use Rattle.import_core.specs.declared.step.Mark.TheVariants as mark
use Rattle.import_core.specs.declared.step.Step.{Step}
use Rattle.import_core.specs.Changes.{IsDifference, IsStep}
use Rattle.import_core.specs.Decisions.{Filter, Outcome, decided, left_of, left_received, mark_of, only, rebuilt, taken}
use Rattle.import_core.specs.Held.{Kept, IsRebuiltBy, accepted_of, accepted_route, decided_by, holding, is_nothing, missing, none_kept, placed, rebuilt_as, settled}
use Rattle.import_core.specs.Importers.{is_closed, is_unstarted, receiving}
use Rattle.import_core.specs.Imports.{Routes, Imports, has_net, is_up, without}
use Rattle.import_core.specs.Operations.{closed, configured, deleted, disabled, done_in, opened, refreshed, started, up_with}
use Rattle.import_core.proofs.Deciding.{up_is}
use Rattle.import_core.proofs.Differences.{no_difference}
use Rattle.import_core.proofs.Planning.{settled_is}

pub some_accepted : (route : Route) (a : Accepted) → not (is_nothing a) ≡ is_some (accepted_route route a)
some_accepted route Nothing = refl
some_accepted route AsReceived = refl
some_accepted route (With attrs) = refl

-- a state with these routes
abbrev pub state_of : Mode → ℕ → Kept → Imports
state_of m id kept = record { mode = m; id = id; received = kept.received; accepted = kept.accepted }

module _ (spec : ImportSpec) where
  -- an outcome that is said in another way
  pub same_step : (old new : Imports) (o p : Outcome) (step : Step) → o ≡ p → IsStep spec old o new step → IsStep spec old p new step
  same_step old new o p step e is = subst (λ (o : Outcome). IsStep spec old o new step) e is

  -- a step without changes
  pub quiet_step : (old new : Imports) (o : Outcome) (m : Mark) (step : Step) → record { imports = new; over = false; mark = m } ≡ o → new.accepted ≡ old.accepted
      → step.changes ≡ [] → step.over ≡ false → step.mark ≡ m → IsStep spec old o new step
  quiet_step old new o m step e accepted changes over is = same_step old new (record { imports = new; over = false; mark = m }) o step e (record {
    imports = refl;
    over = over;
    mark = is;
    changes = subst (λ (r : Routes). IsDifference spec.src.num old.accepted r step.changes) (sym accepted)
        (subst (λ (cs : List Change). IsDifference spec.src.num old.accepted old.accepted cs) (sym changes) (no_difference spec.src.num old.accepted));
  })

  -- what is decided of a net
  pub store_step : (net : Net) (held : Held) (over : Bool) (old : Imports) (kept : Kept) (step : Step)
      → kept ≡ holding net held (record { received = old.received; accepted = old.accepted })
      → IsDifference spec.src.num old.accepted (placed net (accepted_of held) old.accepted) step.changes → step.over ≡ over → step.mark ≡ mark.Stay
      → IsStep spec old (decided_by spec net held.route (decision.Stored held.accepted over) (receiving net held.route old)) (state_of old.mode old.id kept) step
  store_step net held over old kept step is changes e m = record {
    imports = ap (state_of old.mode old.id) is;
    over = e;
    mark = m;
    changes = changes;
  }

  -- the net is received, and the protocol switched off
  pub limit_step : (net : Net) (route : Route) (old : Imports) (kept kept' : Kept) (step : Step)
      → kept ≡ holding net (record { route = route; accepted = Nothing }) (record { received = old.received; accepted = old.accepted })
      → kept' ≡ record { received = left_received spec.kind kept.received; accepted = [] }
      → IsDifference spec.src.num old.accepted [] step.changes → step.over ≡ true → step.mark ≡ mark_of spec.kind mark.Down
      → IsStep spec old (decided_by spec net route decision.Limited (receiving net route old)) (state_of mode.Limited old.id kept') step
  limit_step net route old kept kept' step is off changes e m = record {
    imports = ap (state_of mode.Limited old.id) (off ∙ ap (λ (k : Kept). record { received = left_received spec.kind k.received; accepted = [] }) is);
    over = e;
    mark = m;
    changes = changes;
  }

  pub delete_step : (net : Net) (old : Imports) (kept : Kept) (step : Step) → kept ≡ missing net (record { received = old.received; accepted = old.accepted })
      → IsDifference spec.src.num old.accepted (without net old.accepted) step.changes → step.over ≡ false → step.mark ≡ mark.Stay
      → IsStep spec old (deleted net old) (state_of old.mode old.id kept) step
  delete_step net old kept step is changes e m = record { imports = ap (state_of old.mode old.id) is; over = e; mark = m; changes = changes }

  pub close_step : (old : Imports) (kept : Kept) (step : Step) → kept ≡ none_kept
      → IsDifference spec.src.num old.accepted [] step.changes → step.over ≡ false → step.mark ≡ mark_of spec.kind mark.Down
      → IsStep spec old (closed spec old) (state_of mode.Idle old.id kept) step
  close_step old kept step is changes e m = record { imports = ap (state_of mode.Idle old.id) is; over = e; mark = m; changes = changes }

  pub disable_step : (m : Mark) (old : Imports) (kept : Kept) (step : Step) → kept ≡ record { received = left_received spec.kind old.received; accepted = [] }
      → IsDifference spec.src.num old.accepted [] step.changes → step.over ≡ false → step.mark ≡ mark_of spec.kind m
      → IsStep spec old (disabled spec m old) (state_of mode.Disabled old.id kept) step
  disable_step m old kept step is changes e is_mark = record { imports = ap (state_of mode.Disabled old.id) is; over = e; mark = is_mark; changes = changes }

module _ (spec : ImportSpec) (verdict : Filter) where
  -- a rebuild, from a state that is up
  pub rebuilt_step : (old i : Imports) (kept : Kept) (r : Rebuilt) (m : Mode) (step : Step) → i.mode ≡ mode.Up → IsRebuiltBy spec verdict i old.accepted kept r
      → m ≡ (if r.limited then mode.Limited else mode.Up) → step.changes ≡ r.changes → step.over ≡ r.over
      → step.mark ≡ (if r.limited then mark_of spec.kind mark.Down else mark.Stay)
      → IsStep spec old (rebuilt spec verdict i) (state_of m i.id kept) step
  rebuilt_step old i kept r m step up is e changes over is_mark =
      same_step spec old (state_of m i.id kept) (rebuilt_as spec r.limited r.over kept.accepted i) (rebuilt spec verdict i) step (sym is.outcome)
      (by r.limited is.received is.nothing e is_mark)
    where
      both : (changes' : Routes) → kept.accepted ≡ changes' → IsDifference spec.src.num old.accepted changes' step.changes
      both accepted same = subst (λ (a : Routes). IsDifference spec.src.num old.accepted a step.changes) same
          (subst (λ (cs : List Change). IsDifference spec.src.num old.accepted kept.accepted cs) (sym changes) is.changes)

      by : (t : Bool) → kept.received ≡ (if t then left_received spec.kind i.received else i.received) → (t ≡ true → (kept.accepted ≡ []) × (r.over ≡ true))
          → m ≡ (if t then mode.Limited else mode.Up) → step.mark ≡ (if t then mark_of spec.kind mark.Down else mark.Stay)
          → IsStep spec old (rebuilt_as spec t r.over kept.accepted i) (state_of m i.id kept) step
      by true received nothing e is_mark = record {
        imports = λ j. record { mode = e j; id = i.id; received = received j; accepted = (nothing refl).0 j };
        over = over ∙ (nothing refl).1;
        mark = is_mark;
        changes = both [] (nothing refl).0;
      }
      by false received nothing e is_mark = record {
        imports = λ j. record { mode = (e ∙ sym up) j; id = i.id; received = received j; accepted = kept.accepted };
        over = over;
        mark = is_mark;
        changes = both kept.accepted refl;
      }

  pub up_with_is : (i : Imports) → i.mode ≡ mode.Up → up_with spec verdict i.received i ≡ rebuilt spec verdict i
  up_with_is i e = ap (λ m. rebuilt spec verdict (record i { mode = m })) (sym e)

  -- what was decided, from each state in which as many are accepted
  pub decision_is : (net : Net) (route : Route) (d : Decision) (accepted : Routes) (x : Accepted) → accepted_route route x ≡ left_of verdict net route
      → d ≡ settled spec.limit x (has_net net accepted) (length accepted) → (i : Imports) → i.accepted ≡ accepted
      → decided_by spec net route d i ≡ decided spec verdict net route i
  decision_is net route d accepted x is e i same =
      ap (λ d. decided_by spec net route d i) (e ∙ ap (λ r. settled spec.limit x (has_net net r) (length r)) (sym same))
      ∙ settled_is spec net route i x
      ∙ ap (λ o. taken spec net o i) is

  -- where the operation acts in up alone
  pub up_is_done : (op : Op) (i : Imports) → is_up i.mode ≡ true → done_in spec verdict op mode.Up i ≡ done_in spec verdict op i.mode i
  up_is_done op i up = ap (λ m. done_in spec verdict op m i) (sym (up_is i.mode up))

  pub add_off : (net : Net) (given : Given) (m : Mode) (i : Imports) → is_up m ≡ false → only i ≡ done_in spec verdict (Add net given) m i
  add_off net given mode.Up i e = cc
  add_off net given mode.Idle i e = refl
  add_off net given mode.Disabled i e = refl
  add_off net given mode.Limited i e = refl

  pub del_off : (net : Net) (m : Mode) (i : Imports) → is_up m ≡ false → only i ≡ done_in spec verdict (Del net) m i
  del_off net mode.Up i e = cc
  del_off net mode.Idle i e = refl
  del_off net mode.Disabled i e = refl
  del_off net mode.Limited i e = refl

  pub close_off : (m : Mode) (i : Imports) → is_up m ≡ false → only i ≡ done_in spec verdict SessionDown m i
  close_off mode.Up i e = cc
  close_off mode.Idle i e = refl
  close_off mode.Disabled i e = refl
  close_off mode.Limited i e = refl

  pub reload_in_off : (m : Mode) (i : Imports) → is_up m ≡ false → only i ≡ done_in spec verdict ReloadIn m i
  reload_in_off mode.Up i e = cc
  reload_in_off mode.Idle i e = refl
  reload_in_off mode.Disabled i e = refl
  reload_in_off mode.Limited i e = refl

  pub reload_out_off : (m : Mode) (i : Imports) → is_up m ≡ false → only i ≡ done_in spec verdict ReloadOut m i
  reload_out_off mode.Up i e = cc
  reload_out_off mode.Idle i e = refl
  reload_out_off mode.Disabled i e = refl
  reload_out_off mode.Limited i e = refl

  pub reload_off : (m : Mode) (i : Imports) → is_up m ≡ false → only i ≡ done_in spec verdict Reload m i
  reload_off mode.Up i e = cc
  reload_off mode.Idle i e = refl
  reload_off mode.Disabled i e = refl
  reload_off mode.Limited i e = refl

  -- `start` and `open` go by the kind too
  abbrev start_by : Kind → Mode → Imports → Outcome
  start_by k mode.Idle i = started spec verdict k i
  start_by k mode.Up i = only i
  start_by k mode.Disabled i = only i
  start_by k mode.Limited i = only i

  start_in : (m : Mode) (i : Imports) → start_by spec.kind m i ≡ done_in spec verdict Start m i
  start_in mode.Idle i = refl
  start_in mode.Up i = refl
  start_in mode.Disabled i = refl
  start_in mode.Limited i = refl

  pub start_is : (i : Imports) → is_unstarted spec.kind i.mode ≡ true → up_with spec verdict (configured spec) i ≡ done_in spec verdict Start i.mode i
  start_is i e = by spec.kind i.mode e ∙ start_in i.mode i where
    by : (k : Kind) (m : Mode) → is_unstarted k m ≡ true → up_with spec verdict (configured spec) i ≡ start_by k m i
    by Static mode.Idle e = refl
    by Static mode.Up e = cc
    by Static mode.Disabled e = cc
    by Static mode.Limited e = cc
    by Bgp m e = cc

  pub start_off : (i : Imports) → is_unstarted spec.kind i.mode ≡ false → only i ≡ done_in spec verdict Start i.mode i
  start_off i e = by spec.kind i.mode e ∙ start_in i.mode i where
    by : (k : Kind) (m : Mode) → is_unstarted k m ≡ false → only i ≡ start_by k m i
    by Static mode.Idle e = cc
    by Static mode.Up e = refl
    by Static mode.Disabled e = refl
    by Static mode.Limited e = refl
    by Bgp mode.Idle e = refl
    by Bgp mode.Up e = refl
    by Bgp mode.Disabled e = refl
    by Bgp mode.Limited e = refl

  abbrev open_by : ℕ → Kind → Mode → Imports → Outcome
  open_by id k mode.Idle i = opened k id i
  open_by id k mode.Up i = only i
  open_by id k mode.Disabled i = only i
  open_by id k mode.Limited i = only i

  open_in : (id : ℕ) (m : Mode) (i : Imports) → open_by id spec.kind m i ≡ done_in spec verdict (SessionUp id) m i
  open_in id mode.Idle i = refl
  open_in id mode.Up i = refl
  open_in id mode.Disabled i = refl
  open_in id mode.Limited i = refl

  pub open_is : (id : ℕ) (i : Imports) → is_closed spec.kind i.mode ≡ true
      → record { imports = record i { mode = mode.Up; id = id }; over = false; mark = mark.Up } ≡ done_in spec verdict (SessionUp id) i.mode i
  open_is id i e = by spec.kind i.mode e ∙ open_in id i.mode i where
    by : (k : Kind) (m : Mode) → is_closed k m ≡ true → record { imports = record i { mode = mode.Up; id = id }; over = false; mark = mark.Up } ≡ open_by id k m i
    by Bgp mode.Idle e = refl
    by Bgp mode.Up e = cc
    by Bgp mode.Disabled e = cc
    by Bgp mode.Limited e = cc
    by Static m e = cc

  pub open_off : (id : ℕ) (i : Imports) → is_closed spec.kind i.mode ≡ false → only i ≡ done_in spec verdict (SessionUp id) i.mode i
  open_off id i e = by spec.kind i.mode e ∙ open_in id i.mode i where
    by : (k : Kind) (m : Mode) → is_closed k m ≡ false → only i ≡ open_by id k m i
    by Bgp mode.Idle e = cc
    by Bgp mode.Up e = refl
    by Bgp mode.Disabled e = refl
    by Bgp mode.Limited e = refl
    by Static mode.Idle e = refl
    by Static mode.Up e = refl
    by Static mode.Disabled e = refl
    by Static mode.Limited e = refl

  -- `reload` in up
  pub reload_limited : (i : Imports) → is_up i.mode ≡ true → is_up (rebuilt spec verdict i).imports.mode ≡ false → rebuilt spec verdict i ≡ done_in spec verdict Reload i.mode i
  reload_limited i up off =
      sym (ap (λ t. if t then record (rebuilt spec verdict i) { mark = (refreshed spec (rebuilt spec verdict i).imports).mark } else rebuilt spec verdict i) off) ∙ up_is_done Reload i up

  pub reload_still_up : (i : Imports) → is_up i.mode ≡ true → is_up (rebuilt spec verdict i).imports.mode ≡ true
      → record (rebuilt spec verdict i) { mark = mark_of spec.kind mark.Refresh } ≡ done_in spec verdict Reload i.mode i
  reload_still_up i up still =
      sym (ap (λ t. if t then record (rebuilt spec verdict i) { mark = (refreshed spec (rebuilt spec verdict i).imports).mark } else rebuilt spec verdict i) still) ∙ up_is_done Reload i up

-- a state that is not unstarted
pub not_unstarted : {A : Type 0} (k : Kind) (m : Mode) → (m ≡ mode.Idle → ⊥) → is_unstarted k m ≡ true → A
not_unstarted Static mode.Idle never e = absurd (never refl)
not_unstarted Static mode.Up never e = cc
not_unstarted Static mode.Disabled never e = cc
not_unstarted Static mode.Limited never e = cc
not_unstarted Bgp m never e = cc

pub up_not_unstarted : {A : Type 0} (k : Kind) (m : Mode) → is_up m ≡ true → is_unstarted k m ≡ true → A
up_not_unstarted k m up e = not_unstarted k m (λ idle. let h : true ≡ false = sym up ∙ ap is_up idle in cc) e

-- nothing is done
pub stays : (spec : ImportSpec) (i : Imports) (o : Outcome) (step : Step) → only i ≡ o → step.changes ≡ [] → step.over ≡ false → step.mark ≡ mark.Stay → IsStep spec i o i step
stays spec i o step f changes over m = quiet_step spec i i o mark.Stay step f refl changes over m

pub off_from : (r t : Bool) → r ≡ t → r ≡ false → t ≡ false
off_from r t e f = sym e ∙ f

pub on_from : (r t : Bool) → r ≡ t → r ≡ true → t ≡ true
on_from r t e f = sym e ∙ f
