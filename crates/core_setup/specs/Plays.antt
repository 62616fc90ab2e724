-- What scripts come to (`IsPlay`): the reports of the machine's phases; and what makes reports
-- legal (`IsLegalPlay`).
-- From: own.
-- Example: the worked run of docs/DEFINITIONS.md has one phase and one report.
use Rattle.std.specs.Prelude.{ℕ, List}
use Rattle.core_machine.specs.Legal.{AreLegal, Printed, nothing}
use Rattle.core_machine.specs.Lines.{Line}
use Rattle.core_machine.specs.Machine.{start}
use Rattle.core_machine.specs.Phases.{PlaysAll}
use Rattle.report.specs.declared.phase.PhaseReport.{PhaseReport}
use Rattle.core_setup.specs.Protocols.{rules_of, starts}
use Rattle.core_setup.specs.Reports.{AreReports}
use Rattle.core_setup.specs.Setup.{Setup}

-- The reports are those of the machine's phases on these scripts, whose lines are read backwards.
-- Pipes are up from the beginning, and static protocols start before the first line.
pub record IsPlay
    (setup : Setup) (actors : List (List ℕ)) (scripts : List (List Line))
    (reports : List PhaseReport) : Type 0 where
  pub printed : List Printed
  pub plays :
      PlaysAll (rules_of setup) (starts setup) nothing (start (rules_of setup)) scripts printed
  pub are : AreReports setup actors 1 nothing printed reports

-- The reports are those of legal phases. That speaks of what is printed alone.
pub record IsLegalPlay
    (setup : Setup) (actors : List (List ℕ)) (scripts : List (List Line))
    (reports : List PhaseReport) : Type 0 where
  pub printed : List Printed
  pub legal : AreLegal (rules_of setup) (starts setup) nothing scripts printed
  pub are : AreReports setup actors 1 nothing printed reports
