-- What an export lock of a pipe's direction keeps of its exporter (`IsDirection`), and what a turn of
-- a flush does (`FlushesOn`): it withdraws what stands as sent, key by key in their order, each once,
-- until all is withdrawn (`IsWithdrawn`).
-- Not modelled: what comes of it in the table that the direction writes.
-- From: BIRD User's Guide, "Pipe"; what goes down withdraws what it brought.
-- Example: of three keys that stand the first turn withdraws the first; behind the third turn nothing
-- is left, and those that were withdrawn are all that stood.
use Rattle.std.specs.Prelude.{◌≡◌, true, false, List, [], ◌∷◌, ◌++◌, Option, option_map}
use Rattle.std.specs.declared.result.Result.{Result}
use Rattle.std.specs.declared.result.Result.TheVariants.{Ok, Err}
use Rattle.attrs.specs.declared.judge.Verdict.{Verdict}
use Rattle.attrs.specs.declared.route.Route.{Route}
use Rattle.bits_ip.specs.Prefix.{Net}
use Rattle.export_core.specs.Calls.{AreStanding, Flushes}
use Rattle.export_core.specs.declared.exporter.Pushed.{Pushed}
use Rattle.export_core.specs.declared.exporter.Pushed.TheVariants.{Nothing, Quiet, Sent}
use Rattle.export_core.specs.declared.log.Key.{Key}
use Rattle.export_core.specs.declared.log.Sending.{Sending}
use Rattle.export_core.specs.declared.outlet.PushFault.{PushFault}
use Rattle.export_lock.specs.Kept.{IsExporting}
use Rattle.export_lock.specs.Terms.{ExportTerms}
use Rattle.export_lock.specs.declared.state.ExportState.{ExportState}

-- nothing is left to withdraw, and where nothing was withdrawn nothing stood
pub record IsWithdrawn {J : Type 0} (state : ExportState J) : Type 0 where
  pub left : state.exporter.left ≡ []
  pub none : state.exporter.flushing ≡ false → AreStanding state.exporter.log []

module _ {J : Type 0} (verdict : J → Net → Route → Verdict) where
  -- The exporter is that of a pipe's direction, which has withdrawn these keys of what stood, in
  -- their order. They and what is left are what stands by the log, since it has no item of a
  -- withdrawal.
  pub record IsDirection (done : List Key) (key : ExportTerms) (state : ExportState J) : Type 0 where
    pub exporting : IsExporting verdict true key state
    pub none : state.exporter.flushing ≡ false → done ≡ []
    pub stood :
        state.exporter.flushing ≡ true
        → AreStanding state.exporter.log (done ++ state.exporter.left)

  -- it is the value of some lock of a direction
  pub record IsHeldDirection (state : ExportState J) : Type 0 where
    pub done : List Key
    pub key : ExportTerms
    pub direction : IsDirection done key state

  -- one more key is withdrawn, which the outlet was given
  pub record Withdraws
      (done : List Key) (key : ExportTerms) (old new : ExportState J)
      (told told' : Option (List Sending)) : Type 0 where
    pub sending : Sending
    pub flushes : Flushes sending old.exporter new.exporter
    pub direction : IsDirection (done ++ sending.key ∷ []) key new
    pub given : told' ≡ option_map (λ sent. sent ++ sending ∷ []) told

  -- nothing is left: what was withdrawn is all that stood
  pub record HasWithdrawn
      (done : List Key) (key : ExportTerms) (old new : ExportState J)
      (told told' : Option (List Sending)) : Type 0 where
    pub same : new ≡ old
    pub left : new.exporter.left ≡ []
    pub stood : AreStanding new.exporter.log done
    pub given : told' ≡ told

  -- What a turn of a flush does where these keys are withdrawn already, by its answer.
  abbrev pub FlushesOn :
      List Key → ExportTerms → ExportState J → ExportState J → Option (List Sending)
      → Option (List Sending) → Result Pushed PushFault → Type 0
  FlushesOn done key old new told told' (Ok Sent) = Withdraws done key old new told told'
  FlushesOn done key old new told told' (Ok Quiet) = ⊥
  FlushesOn done key old new told told' (Ok Nothing) = HasWithdrawn done key old new told told'
  FlushesOn done key old new told told' (Err fault) = (new ≡ old) × (told' ≡ told)
