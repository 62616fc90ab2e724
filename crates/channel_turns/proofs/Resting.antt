-- A channel that isn't fed, takes nothing and has no mark is at rest.
use Rattle.std.proofs.Common.{◌≡◌, Bool, true, false, [], None, ap, sym, refl, subst, ◌∙◌}
use Rattle.std.specs.Prelude.{◌&&◌, not, IfOk}
use Rattle.std.specs.declared.result.Result.{Result}
use Rattle.std.specs.declared.result.Result.TheVariants.{Ok, Err}
use Rattle.attrs.specs.declared.judge.Verdict.{Verdict}
use Rattle.attrs.specs.declared.route.Route.{Route}
use Rattle.bits_ip.specs.Prefix.{Net}
use Rattle.bits_ip.specs.declared.memory.OutOfMemory.{OutOfMemory}
use Rattle.export_core.specs.Calls.{Pushes}
use Rattle.export_core.specs.Standing.{is_open}
use Rattle.export_core.specs.declared.floors.FeedState.{FeedState}
use Rattle.export_core.specs.declared.floors.FeedState.TheVariants.{Done, From}
use Rattle.jour_rule.specs.Moves.{position_of}
use Rattle.jour.specs.Seats.{known}
use Rattle.export_lock.specs.Feeds.{goes_on, is_feeding}
use Rattle.export_lock.specs.Kept.{GoesOn, IsOfKind, is_running}
use Rattle.export_lock.specs.declared.state.ExportState.{ExportState}
use Rattle.channel_turns.specs.Inside.{DoesPush}
use Rattle.channel_turns.specs.Turns.{Does, HasRested}
use Rattle.channel_turns.specs.declared.turns.Did.{Did}
use Rattle.channel_turns.specs.declared.turns.Did.TheVariants.{Fed, Took, Pushed as DidPush, Nothing}

is_done : (feed : FeedState) → goes_on feed ≡ false → feed ≡ Done
is_done Done ends = refl
is_done (From net) ends = absurd (let e : true ≡ false = ends in cc)

running_is : (up flushing : Bool) → up ≡ true → flushing ≡ false → (up && not flushing) ≡ true
running_is true false u f = refl
running_is true true u f = absurd (let e : true ≡ false = f in cc)
running_is false flushing u f = absurd (let e : false ≡ true = u in cc)

feeding_is : (up flushing : Bool) (feed : FeedState) → up ≡ true → flushing ≡ false → ((up && not flushing) && goes_on feed) ≡ false → goes_on feed ≡ false
feeding_is true false feed u f ends = ends
feeding_is true true feed u f ends = absurd (let e : true ≡ false = f in cc)
feeding_is false flushing feed u f ends = absurd (let e : false ≡ true = u in cc)

not_fed : (up flushing : Bool) (feed : FeedState) → (up ≡ true → feed ≡ Done) → ((up && not flushing) && goes_on feed) ≡ false
not_fed false flushing feed fed = refl
not_fed true true feed fed = refl
not_fed true false feed fed = ap goes_on (fed refl)

-- no feed goes on of what is at rest
pub rests_unfed : {J : Type 0} (state : ExportState J) → HasRested state → is_feeding state ≡ false
rests_unfed state rests = not_fed state.cursor.1 state.exporter.flushing state.exporter.feed (λ up. (rests up).fed)

-- and none begins by a turn that leaves the feed
pub still_fed : {J : Type 0} (old new : ExportState J) → new.cursor.1 ≡ old.cursor.1 → new.exporter.flushing ≡ old.exporter.flushing → new.exporter.feed ≡ old.exporter.feed → is_feeding old ≡ false → is_feeding new ≡ false
still_fed old new mode flushing feed none =
    ap (λ (b : Bool). (b && not new.exporter.flushing) && goes_on new.exporter.feed) mode
    ∙ ap (λ (b : Bool). (old.cursor.1 && not b) && goes_on new.exporter.feed) flushing
    ∙ ap (λ (z : FeedState). (old.cursor.1 && not old.exporter.flushing) && goes_on z) feed
    ∙ none

module _ {J : Type 0} (verdict : J → Net → Route → Verdict) where
  pub rested : (old new : ExportState J) → IsOfKind verdict false old → GoesOn verdict old new → is_feeding old ≡ false → new.exporter ≡ old.exporter
      → (old.cursor.1 ≡ true → known new.cursor.0.1 ≡ position_of new.cursor.0.1.role) → (is_running new ≡ true → new.exporter.marks ≡ []) → HasRested new
  rested old new kind goes fed same taken unmarked up =
      let was = kind.exporting in
      let is = goes false kind.key was in
      let open_is : is_open new.exporter.log ≡ true = sym is.mode ∙ up in
      let stays : new.exporter.flushing ≡ false = is.stays refl in
      let was_up : old.cursor.1 ≡ true = was.mode ∙ ap (λ z. is_open z.log) (sym same) ∙ open_is in
      record {
        up = open_is;
        stays = stays;
        position = is.position open_is ∙ sym (taken was_up);
        fed = ap (λ z. z.feed) same ∙ is_done old.exporter.feed (feeding_is old.cursor.1 old.exporter.flushing old.exporter.feed was_up (was.stays refl) fed);
        unmarked = unmarked (running_is new.cursor.1 new.exporter.flushing up stays);
      }

-- nothing was taken, and then a key was pushed or none was marked
module _ {J : Type 0} (verdict : J → Net → Route → Verdict) (old taken new : ExportState J) (kind : IsOfKind verdict false old) (goes : GoesOn verdict old taken) (fed : is_feeding old ≡ false) (same : taken.exporter ≡ old.exporter)
    (at_head : old.cursor.1 ≡ true → known taken.cursor.0.1 ≡ position_of taken.cursor.0.1.role) where
  by_did : (did : Did) → DoesPush verdict taken new did → Does verdict old new did
  by_did Fed p = elim p [ ]
  by_did Took p = elim p [ ]
  by_did DidPush p = record { pushed = p.pushed; some = p.some; pushes = subst (λ z. Pushes verdict z new.exporter None None p.pushed) same p.pushes }
  by_did Nothing p = (ap (λ z. z.exporter) p.0 ∙ same, subst HasRested (sym p.0) (rested verdict old taken kind goes fed same at_head p.1))

  pub then_pushed : (r : Result Did OutOfMemory) → IfOk r (DoesPush verdict taken new) → IfOk r (Does verdict old new)
  then_pushed (Ok did) p = by_did did p
  then_pushed (Err e) p = tt
