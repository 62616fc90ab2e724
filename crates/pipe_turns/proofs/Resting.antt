-- What a push did, and a turn that took nothing: a direction that isn't fed and has no mark is at
-- rest.
use Rattle.std.proofs.Common.{◌≡◌, ℕ, Bool, true, false, List, [], inl, inr, None, refl, sym, ap, subst, ◌∙◌}
use Rattle.std.specs.Prelude.{◌&&◌, not, IfErr, IfOk, Some, reverse}
use Rattle.std.specs.declared.result.Result.{Result}
use Rattle.std.specs.declared.result.Result.TheVariants.{Ok, Err}
use Rattle.std.proofs.lemmas.Bool.{cases_Bool}
use Rattle.attrs.specs.declared.judge.Verdict.{Verdict}
use Rattle.attrs.specs.declared.route.Route.{Route}
use Rattle.attrs.specs.declared.route.Src.{Src}
use Rattle.bits_ip.specs.Prefix.{Net}
use Rattle.export_core.specs.Calls.{Pushes}
use Rattle.export_core.specs.declared.exporter.Pushed.{Pushed}
use Rattle.export_core.specs.declared.exporter.Pushed.TheVariants as pushed
use Rattle.export_core.specs.declared.floors.FeedState.{FeedState}
use Rattle.export_core.specs.declared.floors.FeedState.TheVariants.{Done, From}
use Rattle.export_core.specs.declared.log.Sending.{Sending}
use Rattle.export_core.specs.declared.outlet.PushFault.{PushFault}
use Rattle.export_core.specs.declared.outlet.PushFault.TheVariants as refusals
use Rattle.export_lock.specs.Feeds.{goes_on, is_feeding}
use Rattle.export_lock.specs.Kept.{is_running}
use Rattle.export_lock.specs.LaneTurns.{IsHeldLane, PushesOn, Stops}
use Rattle.export_lock.specs.Outlets.{AreGiven, IsRefused, Rests}
use Rattle.export_lock.specs.declared.lane.PipeLane.{PipeLane}
use Rattle.export_lock.specs.declared.state.ExportState.{ExportState}
use Rattle.export_lock.proofs.Pushing.{running}
use Rattle.export_lock.proofs.Putting.{some_one}
use Rattle.import_lock.specs.declared.state.OpFault.{OpFault}
use Rattle.import_lock.specs.declared.state.OpFault.TheVariants as faults
use Rattle.jour_rule.specs.Moves.{position_of}
use Rattle.jour.specs.Seats.{known}
use Rattle.pipe_turns.specs.Inside.{DoesPush, answer_of, settled_by}
use Rattle.pipe_turns.specs.Turns.{Does, Fails, HasRead, HasRested, HasTaken, KeepsLane, Settles}
use Rattle.pipe_turns.specs.declared.settling.Settled.{Settled}
use Rattle.pipe_turns.specs.declared.settling.Settled.TheVariants as settled
use Rattle.pipe_turns.specs.declared.turns.LaneDid.{LaneDid}
use Rattle.pipe_turns.specs.declared.turns.LaneDid.TheVariants.{Fed, Took, Pushed as DidPush, Blocked, Nothing}

is_done : (feed : FeedState) → goes_on feed ≡ false → feed ≡ Done
is_done Done ends = refl
is_done (From net) ends = absurd (let e : true ≡ false = ends in cc)

feeding_is : (up flushing : Bool) (feed : FeedState) → up ≡ true → flushing ≡ false → ((up && not flushing) && goes_on feed) ≡ false → goes_on feed ≡ false
feeding_is true false feed u f ends = ends
feeding_is true true feed u f ends = absurd (let e : true ≡ false = f in cc)
feeding_is false flushing feed u f ends = absurd (let e : false ≡ true = u in cc)

-- what runs goes on to run, and no feed begins, where the mode, the flush and the feed are left
pub still_runs : {J : Type 0} (old new : ExportState J) → new.cursor.1 ≡ old.cursor.1 → new.exporter.flushing ≡ old.exporter.flushing → is_running new ≡ is_running old
still_runs old new mode flushing = ap (λ (b : Bool). b && not new.exporter.flushing) mode ∙ ap (λ (b : Bool). old.cursor.1 && not b) flushing

pub still_fed : {J : Type 0} (old new : ExportState J) → new.cursor.1 ≡ old.cursor.1 → new.exporter.flushing ≡ old.exporter.flushing → new.exporter.feed ≡ old.exporter.feed → is_feeding old ≡ false → is_feeding new ≡ false
still_fed old new mode flushing feed none =
    ap (λ (b : Bool). b && goes_on new.exporter.feed) (still_runs old new mode flushing)
    ∙ ap (λ (z : FeedState). is_running old && goes_on z) feed
    ∙ none

ended_is : (m n : ℕ) → faults.Ended m ≡ faults.Ended n → m ≡ n
ended_is m n e = cc

pub memory_alone : (head : ℕ) → faults.Memory ≡ faults.Ended head → ⊥
memory_alone head e = cc

module _ {J : Type 0} (verdict : J → Net → Route → Verdict) (sources : List Src) where
  -- ---- a push alone

  module _ (a c : PipeLane J) where
    none_sent : (did : PushesOn verdict sources a c pushed.Nothing) → Rests a.port c.port
    none_sent did = subst (λ l. AreGiven sources (reverse l) a.port c.port) (some_one did.sent [] did.pushes.2) did.given

    ran : (r : Result Pushed PushFault) → is_running a.state ≡ true → IfOk r (PushesOn verdict sources a c) → IfErr r (Stops verdict sources a c) → IfOk (answer_of r) (DoesPush verdict sources a c)
    ran (Ok pushed.Nothing) runs did stops = (did.pushes.1, none_sent did, λ _. did.pushes.0)
    ran (Ok pushed.Quiet) runs did stops = record { pushed = pushed.Quiet; some = λ e. (let bad : pushed.Quiet ≡ pushed.Nothing = e in cc); pushes = did }
    ran (Ok pushed.Sent) runs did stops = record { pushed = pushed.Sent; some = λ e. (let bad : pushed.Sent ≡ pushed.Nothing = e in cc); pushes = did }
    ran (Err (refusals.Blocked cursor at head)) runs did stops = (
      ap (λ z. z.exporter) stops.state,
      stops.port,
      record { runs = runs; at = at; head = head; cause = stops.cause (λ e. (let bad : refusals.Blocked cursor at head ≡ refusals.Memory = e in cc)) },
    )
    ran (Err (refusals.Ended head)) runs did stops = tt
    ran (Err refusals.Memory) runs did stops = tt

    pub push_did : (r : Result Pushed PushFault) → (is_running a.state ≡ true → IfOk r (PushesOn verdict sources a c)) → (is_running a.state ≡ false → (r ≡ Ok pushed.Nothing) × (c.state ≡ a.state) × Rests a.port c.port) → IfErr r (Stops verdict sources a c)
        → IfOk (answer_of r) (DoesPush verdict sources a c)
    push_did r pushes rests stops = elim (cases_Bool (is_running a.state)) [
      | inl runs ↦ ran r runs (pushes runs) stops
      | inr idle ↦
          let still = rests idle in
          subst (λ z. IfOk (answer_of z) (DoesPush verdict sources a c)) (sym still.0)
          (ap (λ z. z.exporter) still.1, still.2, λ runs. absurd (let bad : true ≡ false = sym runs ∙ idle in cc))
    ]

    pub push_fails : (r : Result Pushed PushFault) → IfErr r (Stops verdict sources a c) → IfErr (answer_of r) (Fails verdict sources a c)
    push_fails (Ok did) stops = tt
    push_fails (Err (refusals.Blocked cursor at head)) stops = tt
    push_fails (Err (refusals.Ended head)) stops = record {
      log = ap (λ z. z.exporter.log) stops.state;
      port = stops.port;
      cause = λ n e. subst (λ m. IsRefused sources (refusals.Ended m) a.port c.port) (ended_is head n e) (stops.cause (λ f. (let bad : refusals.Ended head ≡ refusals.Memory = f in cc)));
    }
    push_fails (Err refusals.Memory) stops = record { log = ap (λ z. z.exporter.log) stops.state; port = stops.port; cause = λ n e. absurd (memory_alone n e) }

  -- ---- a push behind a turn that took nothing

  module _ (a : PipeLane J) (t : ExportState J) (c : PipeLane J) (h : IsHeldLane verdict sources a) (first : KeepsLane verdict sources a (record { state = t; port = a.port })) (next : KeepsLane verdict sources (record { state = t; port = a.port }) c)
      (fed : is_feeding a.state ≡ false) (same : t.exporter ≡ a.state.exporter) (at_head : a.state.cursor.1 ≡ true → known t.cursor.0.1 ≡ position_of t.cursor.0.1.role) (mode : t.cursor.1 ≡ a.state.cursor.1)
      (cursor_is : c.state.cursor ≡ t.cursor) (feed_is : c.state.exporter.feed ≡ t.exporter.feed) where
    abbrev b : PipeLane J
    b = record { state = t; port = a.port }

    mode_is : c.state.cursor.1 ≡ t.cursor.1
    mode_is = ap (λ z. z.1) cursor_is

    runs_is : is_running c.state ≡ is_running t
    runs_is = still_runs t c.state mode_is next.flush.flushing

    taken : HasTaken c
    taken up =
        let o = (next.kept h.key h.done h.sources_are (first.kept h.key h.done h.sources_are h.lane_is)).direction.exporting in
        o.position (sym o.mode ∙ up)
        ∙ sym (subst (λ z. known z.0.1 ≡ position_of z.0.1.role) (sym cursor_is) (at_head (sym mode ∙ sym mode_is ∙ up)))

    unfed : is_feeding c.state ≡ false
    unfed = still_fed a.state c.state (mode_is ∙ mode) (next.flush.flushing ∙ first.flush.flushing) (feed_is ∙ ap (λ z. z.feed) same) fed

    read : HasRead c
    read = record { taken = taken; fed = unfed }

    rested : (is_running c.state ≡ true → c.state.exporter.marks ≡ []) → HasRested c
    rested unmarked runs =
        let o = (next.kept h.key h.done h.sources_are (first.kept h.key h.done h.sources_are h.lane_is)).direction.exporting in
        let is = running c.state.cursor.1 c.state.exporter.flushing runs in
        record {
          up = sym o.mode ∙ is.0;
          stays = is.1;
          position = taken is.0;
          fed = is_done c.state.exporter.feed (feeding_is c.state.cursor.1 c.state.exporter.flushing c.state.exporter.feed is.0 is.1 unfed);
          unmarked = unmarked runs;
        }

    by_did : (did : LaneDid) → DoesPush verdict sources b c did → Does verdict sources a c did
    by_did Fed p = absurd p
    by_did Took p = absurd p
    by_did DidPush p = record {
      pushed = p.pushed;
      some = p.some;
      pushes = record { sent = p.pushes.sent; pushes = subst (λ z. Pushes verdict z c.state.exporter (Some []) (Some p.pushes.sent) p.pushed) same p.pushes.pushes; given = p.pushes.given };
    }
    by_did Nothing p = record {
      exporter = p.0 ∙ same;
      port = p.1;
      read = read;
      rests = rested (λ runs. ap (λ z. z.marks) p.0 ∙ p.2 (sym runs_is ∙ runs));
    }
    by_did (Blocked cursor) p = record {
      exporter = p.0 ∙ same;
      port = p.1;
      read = read;
      runs = runs_is ∙ p.2.runs;
      at = p.2.at;
      head = p.2.head;
      cause = p.2.cause;
    }

    pub then_pushed : (r : Result LaneDid OpFault) → IfOk r (DoesPush verdict sources b c) → IfOk r (Does verdict sources a c)
    then_pushed (Ok did) p = by_did did p
    then_pushed (Err fault) p = tt

    pub then_fails : (r : Result LaneDid OpFault) → IfErr r (Fails verdict sources b c) → IfErr r (Fails verdict sources a c)
    then_fails (Ok did) f = tt
    then_fails (Err fault) f = record { log = f.log ∙ ap (λ z. z.log) same; port = f.port; cause = f.cause }

  -- ---- where turns end

  pub settles_by : (a c : PipeLane J) (did : LaneDid) (s : Settled) → Does verdict sources a c did → settled_by (known c.state.cursor.0.1) did ≡ Some s → Settles c s
  settles_by a c Fed s d is = absurd (let bad : None ≡ Some s = is in cc)
  settles_by a c Took s d is = absurd (let bad : None ≡ Some s = is in cc)
  settles_by a c DidPush s d is = absurd (let bad : None ≡ Some s = is in cc)
  settles_by a c Nothing s d is =
      let same : settled.Rested (known c.state.cursor.0.1) ≡ s = (let e = is in cc) in
      subst (Settles c) same (refl, d.read, d.rests)
  settles_by a c (Blocked cursor) s d is =
      let same : settled.Blocked cursor ≡ s = (let e = is in cc) in
      subst (Settles c) same (d.read, d.runs)
