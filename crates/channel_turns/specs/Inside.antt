-- What a turn did that has no feed and no entry to take (`DoesPush`).
-- From: own.
-- Example: where no key is marked, it did nothing.
use Rattle.std.specs.Prelude.{◌≡◌, true, []}
use Rattle.attrs.specs.declared.judge.Verdict.{Verdict}
use Rattle.attrs.specs.declared.route.Route.{Route}
use Rattle.bits_ip.specs.Prefix.{Net}
use Rattle.export_lock.specs.Kept.{is_running}
use Rattle.export_lock.specs.declared.state.ExportState.{ExportState}
use Rattle.channel_turns.specs.Turns.{PushesSome}
use Rattle.channel_turns.specs.declared.turns.Did.{Did}
use Rattle.channel_turns.specs.declared.turns.Did.TheVariants.{Pushed, Nothing}

abbrev pub DoesPush :
    {J : Type 0} → (J → Net → Route → Verdict) → (old new : ExportState J) → Did → Type 0
DoesPush verdict old new Pushed = PushesSome verdict old new
DoesPush verdict old new Nothing =
    (new ≡ old) × (is_running old ≡ true → old.exporter.marks ≡ [])
DoesPush verdict old new did = ⊥
