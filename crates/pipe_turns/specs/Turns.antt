-- What a turn of a pipe's direction did (`Does`), what it leaves where it fails (`Fails`), and when
-- there is nothing left to do (`HasRested`). What turns need (`CanTurn`), and what they keep
-- (`KeepsLane`).
-- Not modelled: that turns come to an end, and who makes room in the table that is written.
-- From: BIRD User's Guide, "Pipe"; the rest is own.
-- Example: a direction has taken all entries, two keys are marked, and the table that it writes has
-- room for one change. The first turn pushes the first key, and the second is blocked. Once there is
-- room the third pushes the other key, and the fourth has nothing to do: the direction is at rest.
use Rattle.std.specs.Prelude.{◌≡◌, ◌≢◌, ◌+◌, ℕ, true, false, List}
use Rattle.atomic_table.specs.Seated.{TableId}
use Rattle.attrs.specs.declared.judge.Verdict.{Verdict}
use Rattle.attrs.specs.declared.route.Route.{Route}
use Rattle.attrs.specs.declared.route.Src.{Src}
use Rattle.bits_ip.specs.Prefix.{Net}
use Rattle.export_core.specs.Calls.{IsAtRest}
use Rattle.export_core.specs.declared.exporter.Pushed.{Pushed}
use Rattle.export_core.specs.declared.exporter.Pushed.TheVariants.{Nothing as NothingMarked}
use Rattle.export_core.specs.declared.log.Key.{Key}
use Rattle.export_core.specs.declared.outlet.PushFault.TheVariants as refusals
use Rattle.import_lock.specs.declared.state.OpFault.{OpFault}
use Rattle.import_lock.specs.declared.state.OpFault.TheVariants.{Ended}
use Rattle.jour_rule.specs.declared.views.Terms.{Terms}
use Rattle.jour.specs.Seats.{journal, known}
use Rattle.table_shared.specs.Opening.{TableOpening}
use Rattle.export_lock.specs.Feeds.{FeedsPart, is_feeding}
use Rattle.export_lock.specs.Kept.{GoesOn, LeavesFlush, is_running}
use Rattle.export_lock.specs.Lanes.{IsLane, LaneTerms}
use Rattle.export_lock.specs.LaneTurns.{AreSources, IsHeldLane, PushesOn}
use Rattle.export_lock.specs.Outlets.{IsRefused, Rests}
use Rattle.export_lock.specs.declared.lane.PipeLane.{PipeLane}
use Rattle.pipe_turns.specs.declared.settling.Settled.{Settled}
use Rattle.pipe_turns.specs.declared.settling.Settled.TheVariants as settled
use Rattle.pipe_turns.specs.declared.turns.LaneDid.{LaneDid}
use Rattle.pipe_turns.specs.declared.turns.LaneDid.TheVariants.{Fed, Took, Pushed as DidPush, Blocked, Nothing}

module _ {J : Type 0} where
  -- the direction is down, or it has taken all entries up to the head that its cursor loaded last
  abbrev pub HasTaken : PipeLane J → Type 0
  HasTaken lane =
      lane.state.cursor.1 ≡ true
      → lane.state.exporter.position ≡ known lane.state.cursor.0.1

  -- it is down, or withdraws what stands, or is at rest at that head
  abbrev pub HasRested : PipeLane J → Type 0
  HasRested lane =
      is_running lane.state ≡ true
      → IsAtRest lane.state.exporter (known lane.state.cursor.0.1)

  -- all was taken, and no feed goes on
  pub record HasRead (lane : PipeLane J) : Type 0 where
    pub taken : HasTaken lane
    pub fed : is_feeding lane.state ≡ false

module _ {J : Type 0} (verdict : J → Net → Route → Verdict) where
  -- It is the value of some lock of what is played with these sources, and reads and writes these
  -- tables.
  pub record CanTurn
      (reads writes : TableId × Terms TableOpening) (sources : List Src) (lane : PipeLane J)
      : Type 0 where
    pub held : IsHeldLane verdict sources lane
    pub reads_is : journal lane.state.cursor.0 ≡ reads
    pub writes_is : journal lane.port ≡ writes

  -- For each lock that the value may be of, what the lock keeps is kept: so neither is anything
  -- withdrawn, nor is a mark taken.
  pub record KeepsLane (sources : List Src) (old new : PipeLane J) : Type 0 where
    pub kept :
        (key : LaneTerms) (done : List Key) → AreSources key sources
        → IsLane verdict done key old → IsLane verdict done key new
    pub goes : GoesOn verdict old.state new.state
    pub flush : LeavesFlush old.state new.state
    pub marks : new.state.marks ≡ old.state.marks

  module _ (sources : List Src) (old new : PipeLane J) where
    -- a key that was marked was pushed, whether or not its value was news
    pub record PushesSome : Type 0 where
      pub pushed : Pushed
      pub some : pushed ≢ NothingMarked
      pub pushes : PushesOn verdict sources old new pushed

    -- there was nothing to do
    pub record DoesNothing : Type 0 where
      pub exporter : new.state.exporter ≡ old.state.exporter
      pub port : Rests old.port new.port
      pub read : HasRead new
      pub rests : HasRested new

    -- The first key that is marked waits: the table that is written has no room for it until the
    -- cursor of this number has read on.
    pub record IsBlocked (cursor : ℕ) : Type 0 where
      pub exporter : new.state.exporter ≡ old.state.exporter
      pub port : Rests old.port new.port
      pub read : HasRead new
      pub runs : is_running new.state ≡ true
      pub at : ℕ
      pub head : ℕ
      pub cause : IsRefused sources (refusals.Blocked cursor at head) old.port new.port

    abbrev pub Does : LaneDid → Type 0
    Does Fed = FeedsPart 256 old.state new.state × (new.port ≡ old.port)
    Does Took =
        (new.state.exporter.position ≡ old.state.exporter.position + 1)
        × (new.port ≡ old.port)
    Does DidPush = PushesSome
    Does Nothing = DoesNothing
    Does (Blocked cursor) = IsBlocked cursor

    -- Nothing was sent, and nothing made. Where the table that is written has no position left, the
    -- port found that.
    pub record Fails (fault : OpFault) : Type 0 where
      pub log : new.state.exporter.log ≡ old.state.exporter.log
      pub port : Rests old.port new.port
      pub cause :
          (head : ℕ) → fault ≡ Ended head
          → IsRefused sources (refusals.Ended head) old.port new.port

-- How turns came to an end: at rest at this head, or where the first key that is marked waits.
abbrev pub Settles : {J : Type 0} → PipeLane J → Settled → Type 0
Settles lane (settled.Rested head) =
    (known lane.state.cursor.0.1 ≡ head) × HasRead lane × HasRested lane
Settles lane (settled.Blocked cursor) = HasRead lane × (is_running lane.state ≡ true)
