-- What turns of a pipe's direction do, which is the value of an export lock with its port: what a
-- push sends (`PushesOn`), what a flush withdraws (`FlushesLane`), and why nothing was sent (`Stops`).
-- From: BIRD User's Guide, "Pipe"; what goes down withdraws what it brought.
-- Example: of a direction whose first mark is of a net with a new route the port has one change more,
-- and its log one value; where the other table's journal is full, both are as before.
use Rattle.std.specs.Prelude.{◌≡◌, ◌≢◌, ◌<◌, ℕ, true, List, [], ◌∷◌, ◌++◌, length, reverse, Some, slice_get}
use Rattle.std.specs.declared.result.Result.{Result}
use Rattle.std.specs.declared.result.Result.TheVariants.{Ok, Err}
use Rattle.attrs.specs.declared.attributes.Attrs.{Attrs}
use Rattle.attrs.specs.declared.judge.Verdict.{Verdict}
use Rattle.attrs.specs.declared.route.Route.{Route}
use Rattle.attrs.specs.declared.route.Src.{Src}
use Rattle.bits_ip.specs.Prefix.{Net}
use Rattle.core_machine.specs.Pipes.{passes}
use Rattle.export_core.specs.Calls.{AreStanding, Flushes, Pushes}
use Rattle.export_core.specs.declared.exporter.Pushed.{Pushed}
use Rattle.export_core.specs.declared.exporter.Pushed.TheVariants.{Nothing, Quiet, Sent}
use Rattle.export_core.specs.declared.log.Key.{Key}
use Rattle.export_core.specs.declared.log.Sending.{Sending}
use Rattle.export_core.specs.declared.outlet.PushFault.{PushFault}
use Rattle.export_core.specs.declared.outlet.PushFault.TheVariants.{Memory}
use Rattle.export_lock.specs.Flushes.{IsWithdrawn}
use Rattle.export_lock.specs.Lanes.{IsLane, LaneTerms}
use Rattle.export_lock.specs.Outlets.{AreGiven, IsRefused, Rests}
use Rattle.export_lock.specs.declared.lane.PipeLane.{PipeLane}

-- The sources are those of what is played: each stands at the place of its number, and has the
-- routes that the rules say. All that the direction passes are among them.
pub record AreSources (key : LaneTerms) (sources : List Src) : Type 0 where
  pub placed : (num : ℕ) (src : Src) → slice_get sources num ≡ Some src → src.num ≡ num
  pub routes :
      (num : ℕ) (src : Src) (attrs : Attrs) → slice_get sources num ≡ Some src
      → key.rules.route num attrs ≡ record { src = src; attrs = attrs }
  pub all : (num : ℕ) → passes key.rules key.number num ≡ true → num < length sources

module _ {J : Type 0} (verdict : J → Net → Route → Verdict) where
  -- it is the value of some lock of what is played with these sources
  pub record IsHeldLane (sources : List Src) (lane : PipeLane J) : Type 0 where
    pub done : List Key
    pub key : LaneTerms
    pub lane_is : IsLane verdict done key lane
    pub sources_are : AreSources key sources

  -- What a push does by its answer: what is sent is what the port is given.
  pub record PushesOn (sources : List Src) (old new : PipeLane J) (did : Pushed) : Type 0 where
    pub sent : List Sending
    pub pushes : Pushes verdict old.state.exporter new.state.exporter (Some []) (Some sent) did
    pub given : AreGiven sources (reverse sent) old.port new.port

  -- Nothing is sent, and nothing made. But for want of memory the cause is what the port found.
  pub record Stops (sources : List Src) (old new : PipeLane J) (fault : PushFault) : Type 0 where
    pub state : new.state ≡ old.state
    pub port : Rests old.port new.port
    pub cause : fault ≢ Memory → IsRefused sources fault old.port new.port

  -- nothing is left to withdraw: what was withdrawn is all that stood
  pub record IsFlushed (done : List Key) (key : LaneTerms) (old new : PipeLane J) : Type 0 where
    pub state : new.state ≡ old.state
    pub port : Rests old.port new.port
    pub withdrawn : IsWithdrawn new.state
    pub stood : AreStanding new.state.exporter.log done
    pub lane_is : IsLane verdict done key new

  -- one more key is withdrawn, as the port is given it
  pub record FlushesOne
      (sources : List Src) (done : List Key) (key : LaneTerms) (old new : PipeLane J) : Type 0 where
    pub sending : Sending
    pub flushes : Flushes sending old.state.exporter new.state.exporter
    pub given : AreGiven sources (sending ∷ []) old.port new.port
    pub lane_is : IsLane verdict (done ++ sending.key ∷ []) key new

  -- What a turn of a flush does where these keys are withdrawn already, by its answer.
  abbrev pub FlushesLane :
      List Src → List Key → LaneTerms → PipeLane J → PipeLane J → Result Pushed PushFault → Type 0
  FlushesLane sources done key old new (Ok Sent) = FlushesOne sources done key old new
  FlushesLane sources done key old new (Ok Quiet) = ⊥
  FlushesLane sources done key old new (Ok Nothing) = IsFlushed done key old new
  FlushesLane sources done key old new (Err fault) =
      Stops sources old new fault × IsLane verdict done key new
