-- A core between two phases (`HasPlayed`, by `PlaysTo`): what has been played so far, and how it is
-- reported.
-- From: own.
-- Example: a new core has played nothing.
use Rattle.std.specs.Prelude.{◌≡◌, ◌==◌, ◌<◌, ◌+◌, ◌^◌, ℕ, zero, suc, List, [], ◌∷◌, length, if◌then◌else◌}
use Rattle.std.specs.List.{All}
use Rattle.bits_ip.specs.Prefix.{Net}
use Rattle.attrs.specs.declared.judge.Verdict.{Verdict}
use Rattle.attrs.specs.declared.route.Route.{Route}
use Rattle.core_machine.specs.Legal.{Joined, Printed, join, nothing}
use Rattle.core_machine.specs.Lines.{Act, Line}
use Rattle.core_machine.specs.Machine.{State, start}
use Rattle.core_machine.specs.Phases.{IsPhase, Prints}
use Rattle.core_machine.specs.Rules.{Rules}
use Rattle.core_setup.specs.Protocols.{rules_of, starts}
use Rattle.core_setup.specs.Reports.{AreReports}
use Rattle.core_setup.specs.Setup.{Setup}
use Rattle.report.specs.declared.phase.PhaseReport.{PhaseReport}
use Rattle.script_lines.specs.declared.script.Line.{Line as ScriptLine}
use Rattle.sys_run.specs.Cores.{IsCore}
use Rattle.sys_run.specs.Scripts.{AsksWhatIs, FitsLine}
use Rattle.sys_run.specs.declared.player.Core.{Core}

-- the phases of scripts from a state on, behind what was printed before; what is printed of them,
-- and the state to which they come
abbrev pub PlaysTo :
    Rules → List Act → Joined → State → List (List Line) → List Printed → State → Type 0
PlaysTo rules starts past s [] [] t = t ≡ s
PlaysTo rules starts past s [] (p ∷ phases) t = ⊥
PlaysTo rules starts past s (lines ∷ more) [] t = ⊥
PlaysTo rules starts past s (lines ∷ more) (p ∷ phases) t =
    (u : State) × IsPhase rules starts lines s u × Prints rules past u p
    × PlaysTo rules [] (join past p) u more phases t

-- all that was printed
abbrev pub joined_all : Joined → List Printed → Joined
joined_all past [] = past
joined_all past (p ∷ phases) = joined_all (join past p) phases

-- static protocols start in the first phase
abbrev pub starts_in : Setup → ℕ → List Act
starts_in setup zero = starts setup
starts_in setup (suc phase) = []

-- without the replies of the phase that ended
abbrev pub silent : State → State
silent s = record s { replies = [] }

-- What was printed is what the state has come to; before the first phase nothing is, so that the
-- openings of pipes belong to it.
pub record Agrees (phases : ℕ) (past : Joined) (s : State) : Type 0 where
  pub history : (n : ℕ) → past.history n ≡ s.history n
  pub ops : (i : ℕ) → past.ops i ≡ s.ops i
  pub logs : (c : ℕ) → past.logs c ≡ (if phases == 0 then [] else (s.channels c).log)

module _ {J : Type 0} (verdict : J → Net → Route → Verdict) where
  -- The core is in this state between phases, of which so many are done.
  pub record Rests (setup : Setup) (phases : ℕ) (past : Joined) (s : State) (core : Core J)
      : Type 0 where
    pub core_is : IsCore verdict setup past (silent s) core
    pub agrees : Agrees phases past s
    pub phases_are : core.phases ≡ phases

  -- The core has played these scripts, with these reports.
  pub record HasPlayed
      (setup : Setup) (actors : List (List ℕ)) (scripts : List (List Line))
      (reports : List PhaseReport) (core : Core J) : Type 0 where
    pub state : State
    pub printed : List Printed
    pub plays :
        PlaysTo (rules_of setup) (starts setup) nothing (start (rules_of setup))
        scripts printed state
    pub are : AreReports setup actors 1 nothing printed reports
    pub rests : Rests setup (length scripts) (joined_all nothing printed) state core

  -- The core has played something, as each one that was made has, these lines ask what is among its
  -- queries, and announce what is of its tables' families.
  pub record IsPlaying (lines : List ScriptLine) (core : Core J) : Type 0 where
    pub setup : Setup
    pub actors : List (List ℕ)
    pub scripts : List (List Line)
    pub reports : List PhaseReport
    pub played : HasPlayed setup actors scripts reports core
    -- its phases have numbers
    pub few : length scripts + 1 < 2 ^ 64
    pub asked : All (AsksWhatIs (length setup.queries)) lines
    pub fits : All (FitsLine setup) lines
