-- For private contracts alone: what is written while phases are played (`PlayedBy`) or run by
-- threads (`RunBy`), phase by phase (`HasWritten`, `RunsOne`), and what cuts that off (`CutsOff`).
use Rattle.std.specs.Prelude.{◌≡◌, ◌⊎◌, ℕ, List, [], ◌∷◌, ◌++◌, map, Option}
use Rattle.std.specs.Io.KnownBytes.{Appends}
use Rattle.std.specs.List.{flat_map}
use Rattle.attrs.specs.declared.judge.Verdict.{Verdict}
use Rattle.attrs.specs.declared.route.Route.{Route}
use Rattle.bits_ip.specs.Prefix.{Net}
use Rattle.core_machine.specs.Lines as machine
use Rattle.core_setup.specs.Setup.{Setup}
use Rattle.report.specs.Report.{text_in}
use Rattle.report.specs.declared.phase.Form.{Form}
use Rattle.report.specs.declared.phase.PhaseReport.{PhaseReport}
use Rattle.script_lines.specs.declared.script.Line.{Line}
use Rattle.sys_run.specs.Playing as core
use Rattle.sys_run.specs.Scripts.{phase_of}
use Rattle.sys_run.specs.declared.player.Core.{Core}
use Rattle.sys_threads.specs.Running as threads
use Rattle.sys_threads.specs.declared.runner.Runner.{Runner}
use Rattle.phases_out.specs.declared.ending.Ending.{Ending}
use Rattle.phases_out.specs.declared.ending.Ending.TheVariants.{OutOfMemory, SinkFailed}

module _ {J : Type 0} (verdict : J → Net → Route → Verdict) (setup : Setup) (actors : List (List ℕ))
  where
    -- what a core has played
    abbrev pub PlayedBy : Core J → List (List machine.Line) → List PhaseReport → Type 0
    PlayedBy now scripts reports = core.HasPlayed verdict setup actors scripts reports now

    -- what a runner has run
    abbrev pub RunBy : Runner J → List (List machine.Line) → List PhaseReport → Type 0
    RunBy now scripts reports = threads.HasRun verdict setup actors scripts reports now

-- Phases have been played or run, as is said of their scripts and reports, and the texts of the
-- reports are written.
pub record HasWritten
    (Has : List (List machine.Line) → List PhaseReport → Type 0) (setup : Setup)
    (phases : List (List Line)) (form : Form) (before after : Option (List ℕ)) : Type 0 where
  pub reports : List PhaseReport
  pub played : Has (map (phase_of setup.queries) phases) reports
  pub written : Appends before after (flat_map (text_in form) reports)

-- why it ends before all is written
abbrev pub CutsOff : Ending → Type 0
CutsOff ending = (ending ≡ SinkFailed) ⊎ (ending ≡ OutOfMemory)

-- ---- runs by threads

-- A phase more is run, and this is said of its report.
pub record RunsOne
    {J : Type 0} (verdict : J → Net → Route → Verdict) (actors : List (List ℕ)) (lines : List Line)
    (runner next : Runner J) (P : PhaseReport → Type 0) : Type 0 where
  pub report : PhaseReport
  pub run :
      (setup : Setup) (scripts : List (List machine.Line)) (reports : List PhaseReport)
      → RunBy verdict setup actors runner scripts reports
      → RunBy verdict setup actors next (scripts ++ phase_of setup.queries lines ∷ [])
      (reports ++ report ∷ [])
  pub said : P report
