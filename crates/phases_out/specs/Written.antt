-- What is written of phases: the reports of those played (`ArePlayed`), which are one list alone, or
-- of those run (`AreRun`), which are any legal ones; of all (`HasPlayed`), or of the first of them
-- (`HasBegun`), whose text has no last line as long as phases are left (`text_so_far`); and what is
-- owed of them by how it ends (`Ends`).
-- Not modelled: what stands at a sink that tells nothing.
-- From: own.
-- Example: the worked run of docs/DEFINITIONS.md.
use Rattle.std.specs.Prelude.{◌≡◌, ℕ, List, [], ◌∷◌, ◌++◌, map, Option}
use Rattle.std.specs.Io.KnownBytes.{Appends}
use Rattle.std.specs.List.{flat_map}
use Rattle.core_setup.specs.Plays.{IsLegalPlay, IsPlay}
use Rattle.core_setup.specs.Setup.{Setup}
use Rattle.outside_io.specs.Faults.{Rose}
use Rattle.outside_io.specs.Whole.{WritesFront}
use Rattle.report.specs.Report.{report_text, text_in}
use Rattle.report.specs.declared.phase.Form.{Form}
use Rattle.report.specs.declared.phase.PhaseReport.{PhaseReport}
use Rattle.script_lines.specs.declared.script.Line.{Line}
use Rattle.sys_run.specs.Scripts.{phase_of}
use Rattle.phases_out.specs.declared.ending.Ending.{Ending}
use Rattle.phases_out.specs.declared.ending.Ending.TheVariants as endings

-- the phases played, with these reports: the one to which the machine comes on each
abbrev pub ArePlayed : Setup → List (List ℕ) → List (List Line) → List PhaseReport → Type 0
ArePlayed setup actors phases reports = IsPlay setup actors (map (phase_of setup.queries) phases) reports

-- the phases run, with these reports: any legal one of each
abbrev pub AreRun : Setup → List (List ℕ) → List (List Line) → List PhaseReport → Type 0
AreRun setup actors phases reports =
    IsLegalPlay setup actors (map (phase_of setup.queries) phases) reports

-- The text of the reports of the first phases: the last line, `end`, stands behind them only where
-- no more phases are left.
abbrev pub text_so_far : Form → (more : List (List Line)) → List PhaseReport → List ℕ
text_so_far form [] reports = report_text form reports
text_so_far form (phase ∷ more) reports = flat_map (text_in form) reports

-- Reports of these phases, and this is said of them.
pub record HasPlayed
    (Are : List (List Line) → List PhaseReport → Type 0) (phases : List (List Line))
    (P : List PhaseReport → Type 0) : Type 0 where
  pub reports : List PhaseReport
  pub played : Are phases reports
  pub said : P reports

-- Reports of the first of these phases, and this is said of the phases behind them and of the
-- reports.
pub record HasBegun
    (Are : List (List Line) → List PhaseReport → Type 0) (phases : List (List Line))
    (P : (more : List (List Line)) → List PhaseReport → Type 0) : Type 0 where
  pub first : List (List Line)
  pub more : List (List Line)
  pub reports : List PhaseReport
  pub whole : phases ≡ first ++ more
  pub played : Are first reports
  pub said : P more reports

-- What is owed of phases with this ending; the output has failed so often before and after.
pub record Ends
    (Are : List (List Line) → List PhaseReport → Type 0) (phases : List (List Line)) (form : Form)
    (before after : Option (List ℕ)) (faults faults_after : ℕ) (ending : Ending) : Type 0 where
  pub report : ending ≡ endings.Written
      → HasPlayed Are phases (λ reports. Appends before after (report_text form reports))
  pub front : ending ≡ endings.SinkFailed
      → HasBegun Are phases
      (λ more reports. WritesFront before after (text_so_far form more reports))
  pub begun : ending ≡ endings.OutOfMemory
      → HasBegun Are phases
      (λ more reports. Appends before after (flat_map (text_in form) reports))
  pub write : ending ≡ endings.SinkFailed → Rose faults faults_after
