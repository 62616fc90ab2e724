-- What is written: the report of the phases played, which is one alone, or run, which is any legal
-- one (`AreReportsOf`, `IfPlayed`); or of the first of them (`IfBegun`); of a check that what was
-- checked is accepted (`IfAccepted`, `accepted_text`).
-- Not modelled: what stands at a sink that tells nothing.
-- From: own.
-- Example: the worked run of docs/DEFINITIONS.md.
use Rattle.std.specs.Prelude.{ℕ, List, ◌++◌, codes, Option, Some}
use Rattle.core_setup.specs.Setup.{Setup}
use Rattle.phases_out.specs.Written.{ArePlayed, AreRun}
use Rattle.report.specs.declared.phase.PhaseReport.{PhaseReport}
use Rattle.script_lines.specs.declared.script.Line.{Line}
use Rattle.birdcore_top.specs.Command.{Command, Run}
use Rattle.birdcore_top.specs.Outcome.{Accepted, Held, IsPossible, Played}

-- what the reports are that a command writes of these phases
abbrev pub AreReportsOf :
    Option Command → Setup → List (List ℕ) → List (List Line) → List PhaseReport → Type 0
AreReportsOf (Some (Run conf script cells form)) setup actors phases reports =
    AreRun setup actors phases reports
AreReportsOf command setup actors phases reports = ArePlayed setup actors phases reports

-- Phases of the files may be due, and this is said of their reports.
pub record IfPlayed
    (command : Option Command) (held : Held) (P : List PhaseReport → Type 0) : Type 0 where
  pub setup : Setup
  pub actors : List (List ℕ)
  pub phases : List (List Line)
  pub reports : List PhaseReport
  pub possible : IsPossible command held (Played setup actors phases)
  pub played : AreReportsOf command setup actors phases reports
  pub said : P reports

-- Phases of the files may be due, and this is said of those that are left behind some first ones,
-- and of the reports of these.
pub record IfBegun
    (command : Option Command) (held : Held)
    (P : (more : List (List Line)) → List PhaseReport → Type 0) : Type 0 where
  pub setup : Setup
  pub actors : List (List ℕ)
  pub first : List (List Line)
  pub more : List (List Line)
  pub reports : List PhaseReport
  pub possible : IsPossible command held (Played setup actors (first ++ more))
  pub played : AreReportsOf command setup actors first reports
  pub said : P more reports

-- the text that a check writes
abbrev pub accepted_text : List ℕ
accepted_text = codes "ok\n"

-- What is checked may be accepted, and this is said.
abbrev pub IfAccepted : Option Command → Held → Type 0 → Type 0
IfAccepted command held said = IsPossible command held Accepted × said
