-- What a push alone did (`DoesPush`, `answer_of`), and whether a turn was the last of some
-- (`settled_by`).
-- From: own.
-- Example: where no key is marked, it did nothing.
use Rattle.std.specs.Prelude.{◌≡◌, ℕ, true, [], List, Option, Some, None}
use Rattle.std.specs.declared.result.Result.{Result}
use Rattle.std.specs.declared.result.Result.TheVariants.{Ok, Err}
use Rattle.attrs.specs.declared.judge.Verdict.{Verdict}
use Rattle.attrs.specs.declared.route.Route.{Route}
use Rattle.attrs.specs.declared.route.Src.{Src}
use Rattle.bits_ip.specs.Prefix.{Net}
use Rattle.export_core.specs.declared.exporter.Pushed.{Pushed}
use Rattle.export_core.specs.declared.exporter.Pushed.TheVariants as pushed
use Rattle.export_core.specs.declared.outlet.PushFault.{PushFault}
use Rattle.export_core.specs.declared.outlet.PushFault.TheVariants as refusals
use Rattle.import_lock.specs.declared.state.OpFault.{OpFault}
use Rattle.import_lock.specs.declared.state.OpFault.TheVariants as faults
use Rattle.export_lock.specs.Kept.{is_running}
use Rattle.export_lock.specs.Outlets.{IsRefused, Rests}
use Rattle.export_lock.specs.declared.lane.PipeLane.{PipeLane}
use Rattle.pipe_turns.specs.Turns.{PushesSome}
use Rattle.pipe_turns.specs.declared.settling.Settled.{Settled}
use Rattle.pipe_turns.specs.declared.settling.Settled.TheVariants as settled
use Rattle.pipe_turns.specs.declared.turns.LaneDid.{LaneDid}
use Rattle.pipe_turns.specs.declared.turns.LaneDid.TheVariants.{Fed, Took, Pushed as DidPush, Blocked, Nothing}

abbrev pub did_of : Pushed → LaneDid
did_of pushed.Nothing = Nothing
did_of pushed.Quiet = DidPush
did_of pushed.Sent = DidPush

abbrev pub refusal_as : PushFault → Result LaneDid OpFault
refusal_as (refusals.Blocked cursor at head) = Ok (Blocked cursor)
refusal_as (refusals.Ended head) = Err (faults.Ended head)
refusal_as refusals.Memory = Err faults.Memory

abbrev pub answer_of : Result Pushed PushFault → Result LaneDid OpFault
answer_of (Ok did) = Ok (did_of did)
answer_of (Err fault) = refusal_as fault

-- a push was refused for want of room
pub record Waits {J : Type 0} (sources : List Src) (cursor : ℕ) (old new : PipeLane J) : Type 0 where
  pub runs : is_running old.state ≡ true
  pub at : ℕ
  pub head : ℕ
  pub cause : IsRefused sources (refusals.Blocked cursor at head) old.port new.port

abbrev pub DoesPush :
    {J : Type 0} → (J → Net → Route → Verdict) → List Src → (old new : PipeLane J) → LaneDid
    → Type 0
DoesPush verdict sources old new DidPush = PushesSome verdict sources old new
DoesPush verdict sources old new Nothing =
    (new.state.exporter ≡ old.state.exporter) × Rests old.port new.port
    × (is_running old.state ≡ true → old.state.exporter.marks ≡ [])
DoesPush verdict sources old new (Blocked cursor) =
    (new.state.exporter ≡ old.state.exporter) × Rests old.port new.port
    × Waits sources cursor old new
DoesPush verdict sources old new did = ⊥

-- turns end where there is nothing to do, at this head, or where one is blocked
abbrev pub settled_by : ℕ → LaneDid → Option Settled
settled_by head Fed = None
settled_by head Took = None
settled_by head DidPush = None
settled_by head Nothing = Some (settled.Rested head)
settled_by head (Blocked cursor) = Some (settled.Blocked cursor)
