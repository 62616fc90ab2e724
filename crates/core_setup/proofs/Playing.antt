-- The reports of plays.
use Rattle.std.proofs.Common.{◌≤◌, ℕ, List}
use Rattle.core_machine.specs.Legal.{AreLegal, Printed, nothing}
use Rattle.core_machine.specs.Lines.{Act, Line}
use Rattle.core_machine.specs.Machine.{start}
use Rattle.core_machine.specs.Phases.{PlaysAll}
use Rattle.core_machine.specs.Rules.{AreWays, IsRules, Rules}
use Rattle.core_machine.specs.Ways.{HasWays}
use Rattle.report.specs.declared.phase.PhaseReport.{PhaseReport}
use Rattle.core_setup.specs.Plays.{IsLegalPlay, IsPlay}
use Rattle.core_setup.specs.Protocols.{rules_of, starts}
use Rattle.core_setup.specs.Setup.{IsSetup, Setup}
use Rattle.core_setup.proofs.SetupRules.{setup_rules}

module _
    (ways : (rules : Rules) → 1 ≤ rules.tables → HasWays rules → AreWays rules)
    (legal : (rules : Rules) (starts : List Act) (scripts : List (List Line)) (printed : List Printed) → IsRules rules
    → PlaysAll rules starts nothing (start rules) scripts printed → AreLegal rules starts nothing scripts printed)
  where
    pub play_is_legal : (setup : Setup) (actors : List (List ℕ)) (scripts : List (List Line)) (reports : List PhaseReport) → IsSetup setup → IsPlay setup actors scripts reports → IsLegalPlay setup actors scripts reports
    play_is_legal setup actors scripts reports is play = record {
      printed = play.printed;
      legal = legal (rules_of setup) (starts setup) scripts play.printed (setup_rules ways setup is) play.plays;
      are = play.are;
    }
