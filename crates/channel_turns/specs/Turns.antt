-- What a turn of a channel to a neighbour did (`Does`), and when there is nothing left to do
-- (`HasRested`).
-- From: own.
-- Example: a channel that is fed, and that has taken all entries, pushes the first of its two marks.
-- The turn behind the second push has nothing to do.
use Rattle.std.specs.Prelude.{◌≡◌, ◌≢◌, ◌+◌, true, None}
use Rattle.attrs.specs.declared.judge.Verdict.{Verdict}
use Rattle.attrs.specs.declared.route.Route.{Route}
use Rattle.bits_ip.specs.Prefix.{Net}
use Rattle.export_core.specs.Calls.{IsAtRest, Pushes}
use Rattle.export_core.specs.declared.exporter.Pushed.{Pushed}
use Rattle.export_core.specs.declared.exporter.Pushed.TheVariants.{Nothing as NothingMarked}
use Rattle.jour.specs.Seats.{known}
use Rattle.export_lock.specs.Feeds.{FeedsPart}
use Rattle.export_lock.specs.declared.state.ExportState.{ExportState}
use Rattle.channel_turns.specs.declared.turns.Did.{Did}
use Rattle.channel_turns.specs.declared.turns.Did.TheVariants.{Fed, Took, Pushed as DidPush, Nothing}

-- the channel is down, or at rest at the head that its cursor loaded last
abbrev pub HasRested : {J : Type 0} → ExportState J → Type 0
HasRested state = state.cursor.1 ≡ true → IsAtRest state.exporter (known state.cursor.0.1)

module _ {J : Type 0} (verdict : J → Net → Route → Verdict) (old new : ExportState J) where
  -- a key that was marked was pushed, whether or not its value was news
  pub record PushesSome : Type 0 where
    pub pushed : Pushed
    pub some : pushed ≢ NothingMarked
    pub pushes : Pushes verdict old.exporter new.exporter None None pushed

  abbrev pub Does : Did → Type 0
  Does Fed = FeedsPart 256 old new
  Does Took = new.exporter.position ≡ old.exporter.position + 1
  Does DidPush = PushesSome
  Does Nothing = (new.exporter ≡ old.exporter) × HasRested new
